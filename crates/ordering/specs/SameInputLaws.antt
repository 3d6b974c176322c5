-- The laws of the same-input source. Assumes nothing.
use Rattle.std.specs.Prelude.{◌≡◌, ℕ, true, ◌&&◌, ◌||◌, List, is_some, Some, Option, ◌==◌}
use Rattle.std.proofs.Common.{sym, ap, ◌∙◌, subst, ⊎_elim}
use Rattle.std.proofs.lemmas.Bool.{and_parts, or_cases, or_left, or_right, not-true, eqb-true, false≢true}
use Rattle.netlist.specs.Circuit.{PlainCircuit}
use Rattle.runs.specs.declared.row.Bounds.{Bounds}
use Rattle.runs.specs.declared.row.Row.{Row}
use Rattle.runs.specs.Row.{bounds_from, row_at}
use Rattle.ordering.specs.Rows.{some_below, every_below, has_row, clean_input, below}
use Rattle.ordering.specs.Source.{YesIsBefore, YesHasRows}
use Rattle.ordering.specs.SameInput.{none_but, only_input, same_input}
use Rattle.ordering.specs.Below.{some_at, every_at}
use Rattle.ordering.specs.Reading.{has_row_lem, its_row_true, input_below, apart_by_input, below_parts}

-- what the answer comes from
record Told (c : PlainCircuit) (rows : List Row) (q p : ℕ) : Type 0 where
  q_row : has_row c rows q ≡ true
  p_row : has_row c rows p ≡ true
  input : ℕ
  clean : clean_input c rows input ≡ true
  apart : below (bounds_from (row_at rows q) input) (bounds_from (row_at rows p) input) ≡ true
  alone : every_below (none_but input (row_at rows q) (row_at rows p)) 16 ≡ true

told : (c : PlainCircuit) (rows : List Row) (q p : ℕ) →
    (has_row c rows q && has_row c rows p && some_below (only_input c rows (row_at rows q) (row_at rows p)) 16) ≡ true → Told c rows q p
told c rows q p h =
    let x = row_at rows q in let y = row_at rows p in
    let a = and_parts _ _ h in
    let b = and_parts _ _ a.0 in
    let s = some_at (only_input c rows x y) 16 a.1 in
    let d = and_parts _ _ s.2 in
    let e = and_parts _ _ d.0 in
    record { q_row = b.0; p_row = b.1; input = s.0; clean = e.0; apart = e.1; alone = d.1 }

-- a number that gives bounds at one of the rows is the one input
only_one : (i : ℕ) (x y : Row) (j : ℕ) → none_but i x y j ≡ true → (is_some (bounds_from x j) || is_some (bounds_from y j)) ≡ true → j ≡ i
only_one i x y j h g =
    ⊎_elim (eqb-true j i)
    (λ e. absurd (false≢true (sym (not-true _ e) ∙ g)))
    (or_cases (j == i) _ h)

given_some : (o : Option Bounds) (b : Bounds) → o ≡ Some b → is_some o ≡ true
given_some o b e = ap is_some e

pub same_input_first : YesIsBefore same_input
same_input_first seps c rows q p valid h run isRun met ok t u f g =
    let k = told c rows q p h in
    let x = (its_row_true c rows run ok q k.q_row).bounded t f in
    let y = (its_row_true c rows run ok p k.p_row).bounded u g in
    let a : x.input ≡ k.input =
    only_one k.input (row_at rows q) (row_at rows p) x.input
    (every_at (none_but k.input (row_at rows q) (row_at rows p)) 16 k.alone x.input (input_below c valid run x.input x.cause x.flips))
    (or_left _ _ (given_some _ _ x.given)) in
    let b : y.input ≡ k.input =
    only_one k.input (row_at rows q) (row_at rows p) y.input
    (every_at (none_but k.input (row_at rows q) (row_at rows p)) 16 k.alone y.input (input_below c valid run y.input y.cause y.flips))
    (or_right _ _ (given_some _ _ y.given)) in
    apart_by_input c rows run ok (row_at rows q) (row_at rows p) t u x y (a ∙ sym b) (subst (λ (i : ℕ). clean_input c rows i ≡ true) (sym b) k.clean)
    (below_parts _ _ k.apart x.bounds y.bounds (ap (bounds_from (row_at rows q)) (sym a) ∙ x.given) (ap (bounds_from (row_at rows p)) (sym b) ∙ y.given))

pub same_input_third : YesHasRows same_input
same_input_third seps c rows q p h =
    let k = told c rows q p h in (has_row_lem c rows q k.q_row, has_row_lem c rows p k.p_row)
