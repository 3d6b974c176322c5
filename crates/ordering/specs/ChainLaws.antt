-- The laws of a chain layer, from those of the source below it. Assumes nothing.
use Rattle.std.specs.Prelude.{◌≡◌, ℕ, Bool, true, false, ◌⊎◌, List, refl}
use Rattle.std.proofs.Common.{inl, inr, ⊎_elim, arith}
use Rattle.std.proofs.lemmas.Bool.{and_parts, or_cases, ltb-false}
use Rattle.netlist.specs.Circuit.{PlainCircuit}
use Rattle.runs.specs.declared.row.Row.{Row}
use Rattle.separations.specs.Separations.{Separation}
use Rattle.ordering.specs.Rows.{some_below, row_count, has_row, clean_net}
use Rattle.ordering.specs.Source.{Says, YesIsBefore, YesHasRows}
use Rattle.ordering.specs.Chain.{through, chained}
use Rattle.ordering.specs.Below.{some_at}
use Rattle.ordering.specs.Reading.{clean_net_once}

-- the clean net in the middle, and the two answers
record Middle (before : ℕ → ℕ → Bool) (c : PlainCircuit) (rows : List Row) (q p : ℕ) : Type 0 where
  net : ℕ
  clean : clean_net c rows net ≡ true
  after : before q net ≡ true
  until : before net p ≡ true

middle : (before : ℕ → ℕ → Bool) (c : PlainCircuit) (rows : List Row) (q p : ℕ) →
    some_below (through before c rows q p) (row_count c rows) ≡ true → Middle before c rows q p
middle before c rows q p h =
    let s = some_at (through before c rows q p) (row_count c rows) h in
    let a = and_parts _ _ s.2 in
    let b = and_parts _ _ a.0 in
    record { net = s.0; clean = b.0; after = b.1; until = a.1 }

pub chain_first : (under : Says) → YesIsBefore under → YesIsBefore (chained under)
chain_first under law seps c rows q p valid h run isRun met ok =
    ⊎_elim
    (λ e. law seps c rows q p valid e run isRun met ok)
    (λ e t u f g.
    let m = middle (under seps c rows) c rows q p e in
    let one = clean_net_once c rows run ok m.net m.clean in
    let early = law seps c rows q m.net valid m.after run isRun met ok t one.0 f one.1 in
    let late = law seps c rows m.net p valid m.until run isRun met ok one.0 u one.1 g in
    omega arith)
    (or_cases _ _ h)

pub chain_third : (under : Says) → YesHasRows under → YesHasRows (chained under)
chain_third under law seps c rows q p h =
    ⊎_elim
    (law seps c rows q p)
    (λ e. let m = middle (under seps c rows) c rows q p e in
    ((law seps c rows q m.net m.after).0, (law seps c rows m.net p m.until).1))
    (or_cases _ _ h)

-- nothing lies between two nets of which one has no row
pub no_middle : (under : Says) → YesHasRows under → (seps : List Separation) (c : PlainCircuit) (rows : List Row) (q p : ℕ) → (has_row c rows q ≡ false) ⊎ (has_row c rows p ≡ false) →
    false ≡ some_below (through (under seps c rows) c rows q p) (row_count c rows)
no_middle under law seps c rows q p h = go (some_below (through (under seps c rows) c rows q p) (row_count c rows)) refl
  where
    go : (b : Bool) → some_below (through (under seps c rows) c rows q p) (row_count c rows) ≡ b → false ≡ b
    go false e = refl
    go true e =
        let m = middle (under seps c rows) c rows q p e in
        let one = (law seps c rows q m.net m.after).0 in
        let other = (law seps c rows m.net p m.until).1 in
        elim h [
          | inl e ↦ absurd (omega (arith, ltb-false q (row_count c rows) e))
          | inr e ↦ absurd (omega (arith, ltb-false p (row_count c rows) e))
        ]
