-- Separations between inputs: what they say, when they contradict one another, how they are held. Assumes nothing.
use Rattle.std.specs.Prelude.{ℕ, ◌+◌, Bool, cond, not, ◌&&◌, ◌||◌, ◌≢◌, List, [], ◌∷◌, length, ℤ, pos, negsuc, ◌+ℤ◌, ◌≤ℤ◌, Some, None, Option, ◌==◌, int_le, int_lt, nat_eq, nat_lt, slice_index_or, slice_set}
use Rattle.std.specs.List.{list_all, AllByRecursion}

-- every flip of input b comes at least s ticks after every flip of input a
pub record Separation : Type 0 where
  pub a : ℕ
  pub b : ℕ
  pub s : ℤ

-- the separation of a and b by s
abbrev pub separation : ℕ → ℕ → ℤ → Separation
separation a b s = record { a = a; b = b; s = s }

-- the times, one for each input, meet the separation
abbrev pub Meets : (ℕ → ℤ) → Separation → Type 0
Meets times x = (times x.a +ℤ x.s) ≤ℤ times x.b

-- the times meet every separation of the list
abbrev pub MeetsAll : (ℕ → ℤ) → List Separation → Type 0
MeetsAll times xs = AllByRecursion (Meets times) xs

-- no times meet all of them
abbrev pub Contradictory : List Separation → Type 0
Contradictory xs = (times : ℕ → ℤ) → MeetsAll times xs → ⊥

-- two different inputs, and a spacing from -65,535 to 65,535
pub record WellFormed (a b : ℕ) (s : ℤ) : Type 0 where
  pub differ : a ≢ b
  pub least : negsuc 65534 ≤ℤ s
  pub greatest : s ≤ℤ pos 65535

-- the larger of two spacings
abbrev pub larger : ℤ → ℤ → ℤ
larger x y = cond (int_lt x y) y x

-- the separation is that of the pair (a, b)
abbrev pub is_of : ℕ → ℕ → Separation → Bool
is_of a b x = a == x.a && b == x.b

-- the pair (a, b) comes before that of the separation: by the first input, then by the second
abbrev pub precedes : ℕ → ℕ → Separation → Bool
precedes a b x = nat_lt a x.a || (a == x.a && nat_lt b x.b)

-- a sorted list with the larger spacing at the pair (a, b), put in its place where the pair was absent
abbrev pub with_larger : ℕ → ℕ → ℤ → List Separation → List Separation
with_larger a b s [] = separation a b s ∷ []
with_larger a b s (x ∷ xs) =
    cond (is_of a b x) (separation a b (larger s x.s) ∷ xs)
    (cond (precedes a b x) (separation a b s ∷ x ∷ xs) (x ∷ with_larger a b s xs))

-- the spacing that the list has at the pair (a, b), if any
abbrev pub spacing_in : ℕ → ℕ → List Separation → Option ℤ
spacing_in a b [] = None
spacing_in a b (x ∷ xs) = cond (is_of a b x) (Some x.s) (spacing_in a b xs)

-- a row for each first input, in it a place for each second input
abbrev pub Table : Type 0
Table = List (List (Option ℤ))

-- the spacing that the table has at the pair (a, b), if any
abbrev pub spacing_at : Table → ℕ → ℕ → Option ℤ
spacing_at table a b = slice_index_or (slice_index_or table a []) b None

-- a spacing, or that of a place where that is larger
abbrev pub larger_than : Option ℤ → ℤ → ℤ
larger_than None s = s
larger_than (Some x) s = larger s x

-- the table with the larger spacing at the pair (a, b)
abbrev pub placed : Table → ℕ → ℕ → ℤ → Table
placed table a b s = slice_set table a (slice_set (slice_index_or table a []) b (Some (larger_than (spacing_at table a b) s)))

-- the separations of what is left of row a from column b on, before those of the rows after it
abbrev pub held_in_row : ℕ → ℕ → List (Option ℤ) → List Separation → List Separation
held_in_row a b [] rest = rest
held_in_row a b (None ∷ row) rest = held_in_row a (b + 1) row rest
held_in_row a b (Some s ∷ row) rest = separation a b s ∷ held_in_row a (b + 1) row rest

-- the separations of the rows from row a on
abbrev pub held_from : ℕ → Table → List Separation
held_from a [] = []
held_from a (row ∷ rows) = held_in_row a 0 row (held_from (a + 1) rows)

-- the separations of the table by rising first input, then by rising second input
abbrev pub held : Table → List Separation
held table = held_from 0 table

-- sixteen rows of sixteen places each
abbrev pub is_full : Table → Bool
is_full table = length table == 16 && list_all (λ row. nat_eq (length row) 16) table

-- whether a separation is well formed
abbrev pub is_formed : Separation → Bool
is_formed x = not (x.a == x.b) && (int_le (negsuc 65534) x.s && int_le x.s (pos 65535))
