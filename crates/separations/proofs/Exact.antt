-- What the test tells of the list that a table of sixteen rows holds. Assumes nothing.
use Rattle.std.proofs.Common.{None, ◌≡◌, ℕ, ◌<◌, ◌≤◌, Bool, true, false, cond, ◌||◌, ltb, eqb, ◌⊎◌, inl, inr, ⊎_elim, List, [], length, get_or, set, ℤ, pos, negsuc, ◌+ℤ◌, nat_abs, Some, Option, sym, refl, subst, replicate, ap, ◌∙◌, arith}
use Rattle.std.proofs.lemmas.List.Elements.{All-from_recursion, recursion_from_All}
use Rattle.std.proofs.lemmas.List.Sums.{AllPass-from_list_all, list_all-from_AllPass}
use Rattle.std.proofs.lemmas.List.Recursion.{and_at, and_set}
use Rattle.std.proofs.lemmas.List.{length-set, get_or_past}
use Rattle.std.proofs.lemmas.Int.{ints}
use Rattle.std.proofs.lemmas.Bool.{and_parts, and_from, or_cases, cases_lt, ltb-true, eqb-true, eq-eqb}
use Rattle.std.proofs.lemmas.Bool.Decides.{nat_tests}
use Rattle.std.specs.List.{list_all, AllByRecursion}
use Rattle.separations.specs.Separations.{Separation, separation, Meets, MeetsAll, WellFormed, Table, spacing_at, spacing_in, larger_than, placed, with_larger, held, is_full, is_formed}
use Rattle.separations.specs.Answer.{Accepted, Refused}
use Rattle.separations.specs.declared.fault.SeparationFault.TheVariants as fault
use Rattle.separations.specs.declared.table.Spacings.{Spacings}
use Rattle.separations.specs.declared.table.Separation.{Separation as New}
use Rattle.separations.specs.Check.{whole, Limited, Moderate, times_after}
use Rattle.separations.proofs.Passes.{time_after, whole_is, after_moderate}
use Rattle.separations.proofs.Sums.{sum_of, sum_part}
use Rattle.separations.proofs.Complete.{complete, sound}
use Rattle.separations.proofs.Lists.{table_all, table_at, table_put, table_in, put_all, put_both}

-- each element passes the test
pub pass_all : {X : Type 0} (p : X → Bool) (xs : List X) → list_all p xs ≡ true → AllByRecursion (λ x. p x ≡ true) xs
pass_all p xs e = recursion_from_All (λ x. p x ≡ true) xs (AllPass-from_list_all p xs e)

all_passes : {X : Type 0} (p : X → Bool) (xs : List X) → AllByRecursion (λ x. p x ≡ true) xs → list_all p xs ≡ true
all_passes p xs h = list_all-from_AllPass p xs (All-from_recursion (λ x. p x ≡ true) xs h)

-- the spacing at a pair is that of the list
pub spacing_in_lem : (table : Table) (a b : ℕ) → spacing_in a b (held table) ≡ spacing_at table a b
spacing_in_lem table a b = table_in 0 a a b table (omega arith)

-- the spacing that the table has at the pair (a, b), none where a number is no input's
abbrev pub spacing_of : Table → ℕ → ℕ → Option ℤ
spacing_of table a b = cond (ltb 15 a || ltb 15 b) None (spacing_at table a b)

-- a row of sixteen places
abbrev wide : List (Option ℤ) → Bool
wide row = eqb (length row) 16

module _ (table : Table) (full : is_full table ≡ true) where
  pub full_rows : length table ≡ 16
  full_rows =
      eqb-true (length table) 16
      (and_parts (eqb (length table) 16) (list_all wide table) full).0

  rows_full : list_all wide table ≡ true
  rows_full = (and_parts (eqb (length table) 16) (list_all wide table) full).1

  pub full_row : (a : ℕ) → a < 16 → length (get_or table a []) ≡ 16
  full_row a h =
      let long = full_rows in
      eqb-true (length (get_or table a [])) 16
      (and_at (list_all wide) wide refl (λ x xs. refl) table a [] (omega arith) rows_full)

  outside : (a b : ℕ) → (15 < a) ⊎ (15 < b) → spacing_at table a b ≡ None
  outside a b above =
      let long = full_rows in
      ⊎_elim
      (λ (h : 15 < a). ap (λ (row : List (Option ℤ)). get_or row b None) (get_or_past table a [] (omega arith)))
      (λ (h : a ≤ 15). let wide = full_row a (omega arith) in get_or_past (get_or table a []) b None (omega arith))
      (cases_lt 15 a)

  -- the spacing of a pair is that of the list
  pub spacing_of_lem : (a b : ℕ) → spacing_of table a b ≡ spacing_in a b (held table)
  spacing_of_lem a b = go (ltb 15 a || ltb 15 b) refl ∙ sym (spacing_in_lem table a b)
    where
      go : (t : Bool) → (ltb 15 a || ltb 15 b) ≡ t → cond t None (spacing_at table a b) ≡ spacing_at table a b
      go true e =
          sym
          (outside a b
          (⊎_elim (λ (p : ltb 15 a ≡ true). inl (ltb-true 15 a p)) (λ (p : ltb 15 b ≡ true). inr (ltb-true 15 b p))
          (or_cases (ltb 15 a) (ltb 15 b) e)))
      go false e = refl

  -- a larger spacing at a place of the table is one in the list
  pub held_put : (a b : ℕ) (s : ℤ) → a < 16 → b < 16 → held (placed table a b s) ≡ with_larger a b s (held table)
  held_put a b s g h =
      let long = full_rows in
      let wide = full_row a g in table_put 0 a a b s table (omega arith) (omega arith) (omega arith)

  pub full_put : (a b : ℕ) (s : ℤ) → a < 16 → is_full (placed table a b s) ≡ true
  full_put a b s g =
      let row = set (get_or table a []) b (Some (larger_than (spacing_at table a b) s)) in
      and_from (eqb (length (set table a row)) 16) (list_all wide (set table a row))
      (eq-eqb (length (set table a row)) 16 (length-set table a row ∙ full_rows))
      (and_set (list_all wide) wide refl (λ x xs. refl) table a row
      (eq-eqb (length row) 16 (length-set (get_or table a []) b (Some (larger_than (spacing_at table a b) s)) ∙ full_row a g))
      rows_full)

  -- what holds of each place holds of each separation of the list
  pub held_all :
      (P : Separation → Type 0) →
      ((a b : ℕ) (s : ℤ) → a < 16 → b < 16 → spacing_at table a b ≡ Some s → P (separation a b s)) → AllByRecursion P (held table)
  held_all P h =
      let long = full_rows in
      table_all P 0 table
      (λ i c b s p l m e.
      let wide = full_row i (omega arith) in
      let q : i ≡ c = omega arith in
      h c b s (omega arith) (omega arith) (ap (λ (i : ℕ). spacing_at table i b) (sym q) ∙ e))

  -- times that no further pass raises meet the list
  pub settled_meets :
      times_after table 17 ≡ times_after table 16 → MeetsAll (λ i. pos (time_after table 16 i)) (held table)
  settled_meets e = held_all (Meets (λ i. pos (time_after table 16 i))) (sound table e)

-- what holds of each separation of the list holds of each place
pub held_at :
    (P : Separation → Type 0) (table : Table) → AllByRecursion P (held table) → (a b : ℕ) (s : ℤ) → spacing_at table a b ≡ Some s →
    P (separation a b s)
held_at P table h a b s e = table_at P 0 table h a a b s (omega arith) e

-- ---- whole numbers, moved up so that none is negative

moved_up : (z : ℤ) (k : ℕ) → nat_abs z ≤ k → pos (whole (z +ℤ pos k)) ≡ z +ℤ pos k
moved_up (pos n) k h = refl
moved_up (negsuc n) k h = let w = whole_is (negsuc n +ℤ pos k) in omega (arith, ints)

-- where some whole numbers meet the list, no pass after the sixteenth raises a time
pub met_settles :
    (table : Table) (times : ℕ → ℤ) → MeetsAll times (held table) → times_after table 17 ≡ times_after table 16
met_settles table times h =
    let k : ℕ = sum_of (λ i. nat_abs (times i)) 16 in
    complete table (λ i. whole (times i +ℤ pos k))
    (λ a b s g l e.
    let m = held_at (Meets times) table h a b s e in
    let at_a = moved_up (times a) k (sum_part (λ i. nat_abs (times i)) 16 a g) in
    let at_b = moved_up (times b) k (sum_part (λ i. nat_abs (times i)) 16 b l) in omega (arith, ints))

-- without any spacing none is raised at all
pub empty_settles :
    (table : Table) → table ≡ replicate 16 (replicate 16 None) → times_after table 17 ≡ times_after table 16
empty_settles table e =
    met_settles table (λ i. pos 0) (subst (λ (table : Table). MeetsAll (λ i. pos 0) (held table)) (sym e) tt)

-- ---- well-formed separations

pub formed_is : (x : Separation) → is_formed x ≡ true → WellFormed x.a x.b x.s
formed_is x e = record { differ = grind (arith, ints, nat_tests); least = grind (arith, ints, nat_tests); greatest = grind (arith, ints, nat_tests) }

pub is_formed_lem : (a b : ℕ) (s : ℤ) → WellFormed a b s → is_formed (separation a b s) ≡ true
is_formed_lem a b s w = grind (arith, ints, nat_tests)

pub formed_limited : (table : Table) → list_all is_formed (held table) ≡ true → Limited table
formed_limited table e a b s g h at =
    (formed_is (separation a b s) (held_at (λ x. is_formed x ≡ true) table (pass_all is_formed (held table) e) a b s at)
    ).greatest

-- the times of up to sixteen passes over well-formed separations
pub formed_moderate : (x : Spacings) (times : List ℕ) (k : ℕ) → k ≤ 16 → times ≡ times_after x.rows k → Moderate times
formed_moderate x = after_moderate x.rows (formed_limited x.rows x.formed)

-- ---- one more separation

module _ (old : Spacings) (new : New) where
  -- the table with the separation put in
  abbrev next : Table
  next = placed old.rows new.a new.b new.s

  pub placed_held : held next ≡ with_larger new.a new.b new.s (held old.rows)
  placed_held =
      let first = new.first in
      let second = new.second in held_put old.rows old.full new.a new.b new.s (omega arith) (omega arith)

  pub placed_full : is_full next ≡ true
  placed_full = let first = new.first in full_put old.rows old.full new.a new.b new.s (omega arith)

  pub placed_formed : list_all is_formed (held next) ≡ true
  placed_formed =
      rw placed_held
      (all_passes is_formed (with_larger new.a new.b new.s (held old.rows))
      (put_all (λ x. is_formed x ≡ true) new.a new.b new.s (held old.rows) new.formed
      (pass_all is_formed (held old.rows) old.formed)))

  -- no times meet the separation and all that were held, if a pass after the sixteenth raises one
  pub placed_refused :
      (times_after next 17 ≡ times_after next 16 → ⊥) → Refused true (held old.rows) new.a new.b new.s fault.Contradictory
  placed_refused unsettled = (
    new.first,
    new.second,
    refl,
    formed_is (separation new.a new.b new.s) new.formed,
    λ times m.
        unsettled
        (met_settles next times (rw placed_held (put_all (Meets times) new.a new.b new.s (held old.rows) m.0 m.1))),
  )

  -- the times of a table that settles meet them
  pub placed_accepted :
      (now : Spacings) (a b : ℕ) (s : ℤ) → now.rows ≡ next → times_after now.rows 17 ≡ times_after now.rows 16 →
      new.a ≡ a → new.b ≡ b → new.s ≡ s → Accepted true (held old.rows) a b s (held now.rows)
  placed_accepted now a b s put settled p q r =
      rw (← p, ← q, ← r)
      (record {
        first = new.first;
        second = new.second;
        taken = refl;
        formed = formed_is (separation new.a new.b new.s) new.formed;
        times = λ i. pos (time_after now.rows 16 i);
        met =
            put_both (λ i. pos (time_after now.rows 16 i)) new.a new.b new.s (held old.rows)
            (rw (ap held put, placed_held) at (settled_meets now.rows now.full settled));
        larger = ap held put ∙ placed_held;
      })
