-- Rest of each net is the start and the end letter of its settled class. Assumes nothing.
use Rattle.std.proofs.Common.{◌≡◌, ℕ, zero, suc, ◌+◌, ◌<◌, ◌≤◌, true, T, List, map, length, get_or, sym, ap, ◌∙◌, subst, inl, inr, arith}
use Rattle.classes.specs.declared.three.Three.{Three}
use Rattle.classes.specs.declared.class.Class.{Class}
use Rattle.classes.specs.declared.class.Class.TheVariants.{C000}
use Rattle.classes.specs.Class.{In, described}
use Rattle.waveform.specs.Algebra.{evaluated}
use Rattle.waveform.specs.Ops.{three_ops}
use Rattle.netlist.specs.Circuit.{PlainCircuit, valid_circuit, net_count}
use Rattle.runs.specs.declared.row.Row.{Row}
use Rattle.runs.specs.Run.{Run, RunOf, InClasses, Before, wave, gate_at}
use Rattle.runs.specs.Row.{RowsTrue, row_at}
use Rattle.runs.proofs.Circuits.{gate_good, pins_few, net_cases}
use Rattle.runs.proofs.Runs.{map_alike}
use Rattle.runs.proofs.Rows.{row_true}
use Rattle.separations.specs.Separations.{Separation}
use Rattle.ordering.specs.Source.{Says, YesIsBefore, HeldIsMet}
use Rattle.settling_theory.specs.Settled.{Asks, start_of, end_of, pin_net, held_pins, gate_class, settled_to, settled}
use Rattle.settling_theory.specs.Rest.{value_at, values_to, rest, value_for}
use Rattle.settling_theory.specs.RestTheorems.{RestIsLetters, RestIsLettersWhereMet, RestIsLettersFor}
use Rattle.settling_theory.proofs.Prefix.{rows_length, rows_same, row_of_input, row_of_gate}
use Rattle.settling_theory.proofs.RestHolds.{values_at, value_of_input, value_of_gate, run_exists_where_met}
use Rattle.settling_theory.proofs.RowsTrue.{rows_true}
use Rattle.settling_theory.proofs.RestGates.{gate_start, gate_end}

-- a letter of classes that each settled gate makes of the same letter of its pins is told of every net by three-valued evaluation
module _ (asks : Asks) (c : PlainCircuit) (valid : T (valid_circuit c)) (classes : List Class) (h : Class → Three)
    (at-gates : (k : ℕ) → k < length c.gates →
    h (gate_class (settled_to asks c classes (c.inputs + k)) (gate_at c k) (held_pins asks (settled_to asks c classes (c.inputs + k)) (gate_at c k)))
    ≡ evaluated three_ops (gate_at c k).function (map (λ n. h (row_at (settled_to asks c classes (c.inputs + k)) n).class) (gate_at c k).pins)) where
  told_below : (b n : ℕ) → n < b → n < net_count c →
      value_at (values_to (λ i. h (get_or classes i C000)) c (net_count c)) n ≡ h (row_at (settled asks c classes) n).class
  told_below zero n a l = absurd (omega arith)
  told_below (suc b) n a l = values_at inputs c (net_count c) n l ∙ elim (net_cases c n l) [
    | inl p ↦ value_of_input inputs c (values_to inputs c n) n p ∙ ap (λ (r : Row). h r.class) (sym (row_of_input asks c classes (net_count c) n l p))
    | inr p ↦ gate p.0 p.1 p.2 (told_below b)
  ]
    where
      inputs : ℕ → Three
      inputs i = h (get_or classes i C000)

      gate : (k : ℕ) → k < length c.gates → n ≡ c.inputs + k →
          ((m : ℕ) → m < b → m < net_count c → value_at (values_to inputs c (net_count c)) m ≡ h (row_at (settled asks c classes) m).class) →
          value_for inputs c (values_to inputs c n) n ≡ h (row_at (settled asks c classes) n).class
      gate k p e below =
          subst (λ (m : ℕ). value_for inputs c (values_to inputs c m) m ≡ h (row_at (settled asks c classes) m).class) (sym e)
          (value_of_gate inputs c (values_to inputs c own) k
          ∙ ap (evaluated three_ops (gate_at c k).function) (map_alike (value_at (values_to inputs c own)) (λ m. h (row_at (settled_to asks c classes own) m).class) (gate_at c k).pins pin)
          ∙ sym (at-gates k p) ∙ ap (λ (r : Row). h r.class) (sym (row_of_gate asks c classes (net_count c) k (omega arith))))
        where
          own : ℕ
          own = c.inputs + k

          pin : (j : ℕ) → j < length (gate_at c k).pins →
              value_at (values_to inputs c own) (get_or (gate_at c k).pins j 0) ≡ h (row_at (settled_to asks c classes own) (get_or (gate_at c k).pins j 0)).class
          pin j m =
              let lower = (gate_good c valid k p).lower j m in
              let q = get_or (gate_at c k).pins j 0 in
              values_at inputs c own q lower ∙ sym (values_at inputs c (net_count c) q (omega arith)) ∙ below q (omega arith) (omega arith)
              ∙ ap (λ (r : Row). h r.class) (rows_same asks c classes (net_count c) own q (omega arith) lower)

  told : (n : ℕ) → n < net_count c → value_at (values_to (λ i. h (get_or classes i C000)) c (net_count c)) n ≡ h (row_at (settled asks c classes) n).class
  told n l = told_below (suc n) n (omega arith) l

-- one run in which each yes over true rows holds
module _ (asks : Asks) (c : PlainCircuit) (classes : List Class) (valid : T (valid_circuit c)) (run : Run) (of : RunOf c run) (driven : InClasses c classes run)
    (yes : (rows : List Row) → RowsTrue c rows run → (q p : ℕ) → asks rows q p ≡ true → Before (wave run q) (wave run p)) where
  -- how many pins a gate has, and what the rows below it tell of the nets at its pins
  few : (k : ℕ) → k < length c.gates → length (gate_at c k).pins ≤ 8
  few k l = (pins_few (gate_at c k).function (length (gate_at c k).pins) (gate_good c valid k l).pin_count).1

  low_true : (k : ℕ) → k < length c.gates → RowsTrue c (settled_to asks c classes (c.inputs + k)) run
  low_true k l = rows_true asks c classes valid run of driven yes (c.inputs + k) (omega arith)

  members :
      (k : ℕ) → k < length c.gates → (place : ℕ) → place < length (gate_at c k).pins →
      In (row_at (settled_to asks c classes (c.inputs + k)) (pin_net (gate_at c k) place)).class (wave run (pin_net (gate_at c k) place))
  members k l place p =
      let lower = (gate_good c valid k l).lower place p in
      (row_true c (settled_to asks c classes (c.inputs + k)) run (low_true k l) (pin_net (gate_at c k) place) (omega arith)
      (omega (arith, rows_length asks c classes (c.inputs + k)))).class

  -- so rest tells the letters
  pub letters_told : RestIsLetters asks c classes
  letters_told n l = λ i. (starts i, ends i)
    where
      starts : (rest c classes n).0 ≡ start_of (settled asks c classes) n
      starts =
          told asks c valid classes (λ x. (described x).start)
          (λ k p. gate_start asks (settled_to asks c classes (c.inputs + k)) run (gate_at c k) (few k p) (yes _ (low_true k p)) (members k p)) n l

      ends : (rest c classes n).1 ≡ end_of (settled asks c classes) n
      ends =
          told asks c valid classes (λ x. (described x).finish)
          (λ k p. gate_end asks (settled_to asks c classes (c.inputs + k)) run (gate_at c k) (few k p) (yes _ (low_true k p)) (members k p)) n l

-- where the separations can be met there is a run that meets them, and in it each yes holds
pub rest_is_letters : RestIsLettersWhereMet
rest_is_letters says first seps c classes valid met =
    let r = run_exists_where_met seps c classes valid met in
    letters_told (says seps c) c classes valid r.0 r.1 r.2 (λ rows h q p e. first seps c rows q p valid e r.0 r.1 r.3 h)

-- by the first and second law of a source
pub rest_is_letters_for : {S : Type 0} (held : S → List Separation) (says : Says) → YesIsBefore says → HeldIsMet held → RestIsLettersFor held says
rest_is_letters_for held says first second x c classes valid = rest_is_letters says first (held x) c classes valid (second x classes)
