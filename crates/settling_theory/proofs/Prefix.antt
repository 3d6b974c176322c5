-- Lists by their places, and the rows of the first nets: how many there are, and which row stands where. Assumes nothing.
use Rattle.std.proofs.Common.{◌≡◌, ℕ, zero, suc, ◌+◌, ◌<◌, ◌≤◌, ltb, List, [], ◌∷◌, ◌++◌, length, get_or, take, set, sym, refl, ap, ◌∙◌, inl, inr, add-one, arith}
use Rattle.std.proofs.lemmas.List.{length_push, get_or_append_left, get_or_push, get_or_past, get_or-take, length-take-le, same_lists, take_more_set}
use Rattle.std.proofs.lemmas.Bool.{cases_lt, lt-ltb, le-ltb, cond-true, cond-false}
use Rattle.classes.specs.declared.class.Class.{Class}
use Rattle.classes.specs.declared.class.Class.TheVariants.{C000}
use Rattle.netlist.specs.Circuit.{PlainCircuit}
use Rattle.runs.specs.declared.row.Row.{Row}
use Rattle.runs.specs.Run.{gate_at}
use Rattle.runs.specs.Row.{row_at}
use Rattle.runs.proofs.LivePaths.{Alike}
use Rattle.runs.proofs.Rows.{row_at_lem}
use Rattle.settling_theory.specs.Settled.{Asks, listed, input_row, gate_row, row_for, settled_to}

-- lists of which each is the one before it with one item more, worked out from that one
module _ {X : Type 0} (next : List X → ℕ → X) (first : ℕ → List X) (none : first 0 ≡ []) (more : (n : ℕ) → first (suc n) ≡ first n ++ next (first n) n ∷ []) where
  -- as many items as the number says
  pub grown_length : (n : ℕ) → length (first n) ≡ n
  grown_length zero = ap length none
  grown_length (suc n) = ap length (more n) ∙ length_push (first n) (next (first n) n) ∙ omega (arith, grown_length n)

  -- an item is worked out from those before it, however many follow
  pub grown_at : (n k : ℕ) (d : X) → k < n → get_or (first n) k d ≡ next (first k) k
  grown_at zero k d l = absurd (omega arith)
  grown_at (suc n) k d l = ap (λ (xs : List X). get_or xs k d) (more n) ∙ elim (cases_lt k n) [
    | inl b ↦ get_or_append_left (first n) (next (first n) n ∷ []) d k (omega (arith, grown_length n)) ∙ grown_at n k d b
    | inr b ↦ get_or_push (first n) (next (first n) n) d k (omega (arith, grown_length n)) ∙ ap (λ (m : ℕ). next (first m) m) (omega arith)
  ]

  -- a list of which the items before a place are these, with the next one written there
  pub grown_more : (xs : List X) (n : ℕ) (x : X) → n < length xs → x ≡ next (take n xs) n → take n xs ≡ first n → take (n + 1) (set xs n x) ≡ first (n + 1)
  grown_more xs n x l e h =
      take_more_set xs n x l ∙ ap (λ (y : X). take n xs ++ y ∷ []) e ∙ ap (λ (ys : List X). ys ++ next ys n ∷ []) h ∙ sym (more n)
      ∙ ap first (sym (add-one n))

-- as many values as places
pub listed_length : {X : Type 0} (f : ℕ → X) (n : ℕ) → length (listed f n) ≡ n
listed_length f = grown_length (λ xs n. f n) (listed f) refl (λ n. refl)

-- the value at a place is the function's
pub listed_at : {X : Type 0} (f : ℕ → X) (n k : ℕ) (d : X) → k < n → get_or (listed f n) k d ≡ f k
listed_at f = grown_at (λ xs n. f n) (listed f) refl (λ n. refl)

-- past the places there is only the default
pub listed_past : {X : Type 0} (f : ℕ → X) (n k : ℕ) (d : X) → n ≤ k → get_or (listed f n) k d ≡ d
listed_past f n k d l = get_or_past (listed f n) k d (omega (arith, listed_length f n))

-- two functions that agree at the places
pub listed_alike : {X : Type 0} (f g : ℕ → X) (n : ℕ) → ((k : ℕ) → k < n → f k ≡ g k) → listed f n ≡ listed g n
listed_alike f g zero h = refl
listed_alike f g (suc n) h = let p = listed_alike f g n (λ k l. h k (omega arith)) in let q = h n (omega arith) in cc

module _ (asks : Asks) (c : PlainCircuit) (classes : List Class) where
  -- one row for each of the first nets
  pub rows_length : (n : ℕ) → length (settled_to asks c classes n) ≡ n
  rows_length = grown_length (row_for asks c classes) (settled_to asks c classes) refl (λ n. refl)

  -- the row of a net is worked out from the rows below it, however many rows follow
  pub rows_at : (n k : ℕ) → k < n → row_at (settled_to asks c classes n) k ≡ row_for asks c classes (settled_to asks c classes k) k
  rows_at n k l = grown_at (row_for asks c classes) (settled_to asks c classes) refl (λ n. refl) n k _ l

  -- so the rows of two lists of first nets are the same as far as both reach
  pub rows_same : (m n k : ℕ) → k < m → k < n → row_at (settled_to asks c classes m) k ≡ row_at (settled_to asks c classes n) k
  rows_same m n k a b = rows_at m k a ∙ sym (rows_at n k b)

  pub rows_alike : (m n k : ℕ) → k < m → k < n → Alike (settled_to asks c classes m) (settled_to asks c classes n) k
  rows_alike m n k a b j l = (omega (arith, rows_length m), omega (arith, rows_length n), rows_same m n j (omega arith) (omega arith))

  -- the rows of fewer nets are the front of the rows of more
  pub rows_front : (m n : ℕ) → m ≤ n → settled_to asks c classes m ≡ take m (settled_to asks c classes n)
  rows_front m n l = same_lists (settled_to asks c classes m) (take m (settled_to asks c classes n)) (rows_length m ∙ sym front) at
    where
      front : length (take m (settled_to asks c classes n)) ≡ m
      front = length-take-le m (settled_to asks c classes n) (omega (arith, rows_length n))

      at : (k : ℕ) (d : Row) → k < length (settled_to asks c classes m) → get_or (settled_to asks c classes m) k d ≡ get_or (take m (settled_to asks c classes n)) k d
      at k d b =
          let a : k < m = omega (arith, rows_length m) in
          row_at_lem (settled_to asks c classes m) k d b ∙ rows_same m n k a (omega arith)
          ∙ sym (get_or-take m (settled_to asks c classes n) k d a ∙ row_at_lem (settled_to asks c classes n) k d (omega (arith, rows_length n)))

  -- the row of an input, and that of a gate
  pub row_of_input : (m n : ℕ) → n < m → n < c.inputs → row_at (settled_to asks c classes m) n ≡ input_row (get_or classes n C000) n
  row_of_input m n l i = rows_at m n l ∙ cond-true (ltb n c.inputs) _ _ (lt-ltb n c.inputs i)

  pub row_of_gate : (m k : ℕ) → c.inputs + k < m → row_at (settled_to asks c classes m) (c.inputs + k) ≡ gate_row asks (settled_to asks c classes (c.inputs + k)) (gate_at c k)
  row_of_gate m k l =
      rows_at m (c.inputs + k) l ∙ cond-false (ltb (c.inputs + k) c.inputs) _ _ (le-ltb (c.inputs + k) c.inputs (omega arith))
      ∙ ap (λ (j : ℕ). gate_row asks (settled_to asks c classes (c.inputs + k)) (gate_at c j)) (omega arith)
