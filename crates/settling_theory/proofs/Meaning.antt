-- What the settled rows mean: exact by what is answered, true in every run, and their bounds fit. Assumes nothing.
use Rattle.std.proofs.Common.{◌≡◌, ℕ, ◌+◌, ◌<◌, ◌≤◌, Bool, T, List, length, get_or, take, None, Option, sym, ap, ◌∙◌, subst, inl, inr, arith}
use Rattle.std.proofs.lemmas.Bool.{cases_lt}
use Rattle.classes.specs.declared.class.Class.{Class}
use Rattle.classes.specs.declared.class.Class.TheVariants.{C000}
use Rattle.classes.specs.Class.{In}
use Rattle.functions.specs.Function.{described}
use Rattle.waveform.specs.Algebra.{evaluated}
use Rattle.waveform.specs.Ops.{class_ops}
use Rattle.waveform.specs.Narrowest.{Narrowest}
use Rattle.narrowest.specs.Classes.{class_narrowest}
use Rattle.netlist.specs.Circuit.{PlainGate, PlainCircuit, valid_circuit, net_count}
use Rattle.runs.specs.declared.row.Row.{Row}
use Rattle.runs.specs.Run.{gate_at}
use Rattle.runs.specs.Row.{held_at, row_at}
use Rattle.runs.proofs.Circuits.{gate_good, counts_good, pins_few}
use Rattle.runs.proofs.Tight.{tight_sums}
use Rattle.settling_theory.specs.Settled.{Asks, held_pins, pin_classes, settled_to, settled}
use Rattle.settling_theory.specs.Meaning.{HeldExactly, RowsExact, SettledRowsAgree, SettledRowsAreExact, SettledRowsAreTrue, SettledRowsMean, SettledBoundsFit}
use Rattle.settling_theory.proofs.Prefix.{listed_at, listed_past, rows_length, rows_at, rows_front, row_of_input}
use Rattle.settling_theory.proofs.Held.{held_because, because_held, held_past}
use Rattle.settling_theory.proofs.Bounds.{gate_held, gate_class_lem, tight_rows}
use Rattle.settling_theory.proofs.RowsTrue.{rows_true}

-- a row with the places that the rule holds
held_exactly : (asks : Asks) (below : List Row) (g : PlainGate) (row : Row) → length g.pins ≤ 8 → row.held ≡ held_pins asks below g → HeldExactly asks below g row
held_exactly asks below g row few e = record {
  because = λ p b h. held_because asks below g few p b (sym (at p) ∙ h);
  holds = λ p b h. at p ∙ because_held asks below g few p b h;
  past = λ p l. at p ∙ held_past asks below g p l;
}
  where
    at : (p : ℕ) → held_at row p ≡ get_or (held_pins asks below g) p None
    at p = ap (λ (hs : List (Option Bool)). get_or hs p None) e

module _ (asks : Asks) (c : PlainCircuit) (classes : List Class) (valid : T (valid_circuit c)) where
  pub settled_held :
      (m k : ℕ) → c.inputs + k < m → k < length c.gates →
      HeldExactly asks (take (c.inputs + k) (settled_to asks c classes m)) (gate_at c k) (row_at (settled_to asks c classes m) (c.inputs + k))
  settled_held m k a l =
      subst (λ (below : List Row). HeldExactly asks below (gate_at c k) (row_at (settled_to asks c classes m) (c.inputs + k)))
      (rows_front asks c classes (c.inputs + k) m (omega arith))
      (held_exactly asks (settled_to asks c classes (c.inputs + k)) (gate_at c k) (row_at (settled_to asks c classes m) (c.inputs + k))
      (pins_few (gate_at c k).function (length (gate_at c k).pins) (gate_good c valid k l).pin_count).1 (gate_held asks c classes valid m k a))

  pub settled_narrowest :
      (m k : ℕ) → c.inputs + k < m → k < length c.gates →
      Narrowest In (described (gate_at c k).function).truth
      (pin_classes (settled_to asks c classes m) (gate_at c k) (row_at (settled_to asks c classes m) (c.inputs + k)).held)
      (row_at (settled_to asks c classes m) (c.inputs + k)).class
  settled_narrowest m k a l =
      subst (Narrowest In (described (gate_at c k).function).truth pins) (sym same) (class_narrowest (gate_at c k).function pins)
    where
      pins : List Class
      pins = pin_classes (settled_to asks c classes m) (gate_at c k) (row_at (settled_to asks c classes m) (c.inputs + k)).held

      same : (row_at (settled_to asks c classes m) (c.inputs + k)).class ≡ evaluated class_ops (gate_at c k).function pins
      same = gate_class_lem asks c classes valid m k a l

  input_class : (m n : ℕ) → n < m → n < c.inputs → (row_at (settled_to asks c classes m) n).class ≡ get_or classes n C000
  input_class m n a l = ap (λ (row : Row). row.class) (row_of_input asks c classes m n a l)

  input_holds : (m n place : ℕ) → n < m → n < c.inputs → held_at (row_at (settled_to asks c classes m) n) place ≡ None
  input_holds m n place a l =
      ap (λ (row : Row). held_at row place) (row_of_input asks c classes m n a l)
      ∙ elim (cases_lt place 8) [ inl h ↦ listed_at (λ p. None) 8 place None h | inr h ↦ listed_past (λ p. None) 8 place None h ]

  pub settled_exact : RowsExact asks c classes (settled asks c classes)
  settled_exact = record {
    count = rows_length asks c classes (net_count c);
    input_class = λ n l. input_class (net_count c) n (omega arith) l;
    input_holds = λ n place l. input_holds (net_count c) n place (omega arith) l;
    held = λ k l. settled_held (net_count c) k (omega arith) l;
    narrowest = λ k l. settled_narrowest (net_count c) k (omega arith) l;
    tight = λ n i l. tight_rows asks c classes valid (net_count c) n i l l;
  }

-- the rows of the first nets agree
pub settled_rows_agree : SettledRowsAgree
settled_rows_agree asks c classes = record { count = rows_length asks c classes; row = rows_at asks c classes; front = rows_front asks c classes }

pub settled_rows_exact : SettledRowsAreExact
settled_rows_exact = settled_exact

pub settled_rows_true : SettledRowsAreTrue
settled_rows_true says first seps c classes valid run of driven met =
    rows_true (says seps c) c classes valid run of driven (λ rows h q p e. first seps c rows q p valid e run of met h) (net_count c) (omega arith)

pub settled_rows_mean : SettledRowsMean
settled_rows_mean says first seps c classes valid = record {
  exact = settled_exact (says seps c) c classes valid;
  true_in_runs = λ run of driven met. settled_rows_true says first seps c classes valid run of driven met;
}

pub settled_bounds_fit : SettledBoundsFit
settled_bounds_fit asks c classes valid m n i b a l e =
    let s = tight_sums c (settled_to asks c classes m) i n b valid ((tight_rows asks c classes valid m n i a l).given b e) in
    let few = (counts_good c valid).few_gates in
    record { ordered = s.0; summed = s.1; small = omega (arith, s.1) }
