-- The class and the bounds of a settled gate, from the rows of the nets at its pins; and the bounds of every net are tight. Assumes nothing.
use Rattle.std.proofs.Common.{◌≡◌, ℕ, zero, suc, ◌+◌, ◌<◌, ◌≤◌, Bool, false, cond, not, ◌&&◌, T, eqb, List, length, get_or, None, Option, sym, ap, ◌∙◌, subst, inl, inr, arith}
use Rattle.std.proofs.lemmas.Bool.{cases_lt, cases_eq, cases_Bool, cond-true, cond-false, and_left, and_right, and_from, not_from_true, not_from_false, ne_eqb, eq-eqb}
use Rattle.classes.specs.declared.class.Class.{Class}
use Rattle.classes.specs.declared.class.Class.TheVariants.{C000}
use Rattle.classes.specs.Class.{is_constant}
use Rattle.waveform.specs.Algebra.{evaluated}
use Rattle.waveform.specs.Ops.{class_ops}
use Rattle.netlist.specs.Circuit.{PlainCircuit, valid_circuit, net_count}
use Rattle.runs.specs.declared.row.Row.{Row}
use Rattle.runs.specs.Run.{gate_at}
use Rattle.runs.specs.Row.{bounds_from, row_at}
use Rattle.runs.specs.Gathered.{delayed, unless_held, from_place, gathered}
use Rattle.runs.specs.LivePath.{Live, TightBounds}
use Rattle.runs.proofs.Circuits.{gate_good, counts_good, net_cases}
use Rattle.runs.proofs.LivePaths.{path_input}
use Rattle.runs.proofs.Tight.{tight_absent, tight_constant, tight_own, tight_other, tight_gate, gathered_alike}
use Rattle.settling_theory.specs.Settled.{Asks, pin_net, held_pins, pin_class, pin_classes, gate_class, gate_bounds, input_bounds, settled_to}
use Rattle.settling_theory.proofs.Prefix.{listed_at, listed_past, listed_alike, rows_length, rows_same, row_of_input, row_of_gate}

-- the parts of a row
abbrev class_of : Row → Class
class_of row = row.class

abbrev held_of : Row → List (Option Bool)
held_of row = row.held

module _ (asks : Asks) (c : PlainCircuit) (classes : List Class) (valid : T (valid_circuit c)) where
  -- the net at a pin place of gate k has the same row below the gate's net as in any longer list of rows
  pub pin_row :
      (m k place : ℕ) → c.inputs + k < m → k < length c.gates → place < length (gate_at c k).pins →
      row_at (settled_to asks c classes (c.inputs + k)) (pin_net (gate_at c k) place) ≡ row_at (settled_to asks c classes m) (pin_net (gate_at c k) place)
  pin_row m k place a l p =
      let b = (gate_good c valid k l).lower place p in
      rows_same asks c classes (c.inputs + k) m (pin_net (gate_at c k) place) b (omega arith)

  pub pin_classes_lem :
      (m k : ℕ) (held : List (Option Bool)) → c.inputs + k < m → k < length c.gates →
      pin_classes (settled_to asks c classes (c.inputs + k)) (gate_at c k) held ≡ pin_classes (settled_to asks c classes m) (gate_at c k) held
  pin_classes_lem m k held a l =
      listed_alike
      (λ place. pin_class (row_at (settled_to asks c classes (c.inputs + k)) (pin_net (gate_at c k) place)).class (get_or held place None))
      (λ place. pin_class (row_at (settled_to asks c classes m) (pin_net (gate_at c k) place)).class (get_or held place None))
      (length (gate_at c k).pins)
      (λ place p. ap (λ (row : Row). pin_class row.class (get_or held place None)) (pin_row m k place a l p))

  pub pin_bounds_lem :
      (m k i : ℕ) (held : List (Option Bool)) → c.inputs + k < m → k < length c.gates →
      gathered (from_place (settled_to asks c classes (c.inputs + k)) i (gate_at c k) held) (length (gate_at c k).pins)
      ≡ gathered (from_place (settled_to asks c classes m) i (gate_at c k) held) (length (gate_at c k).pins)
  pin_bounds_lem m k i held a l =
      gathered_alike (from_place (settled_to asks c classes (c.inputs + k)) i (gate_at c k) held) (from_place (settled_to asks c classes m) i (gate_at c k) held)
      (length (gate_at c k).pins)
      (λ place p. ap (λ (row : Row). delayed (gate_at c k) (unless_held (get_or held place None) (bounds_from row i))) (pin_row m k place a l p))

  -- the held places of a gate's row
  pub gate_held :
      (m k : ℕ) → c.inputs + k < m →
      (row_at (settled_to asks c classes m) (c.inputs + k)).held ≡ held_pins asks (settled_to asks c classes (c.inputs + k)) (gate_at c k)
  gate_held m k a = ap held_of (row_of_gate asks c classes m k a)

  -- the class of a gate's row, with its own held places and the classes at its pins
  pub gate_class_lem :
      (m k : ℕ) → c.inputs + k < m → k < length c.gates →
      (row_at (settled_to asks c classes m) (c.inputs + k)).class
      ≡ gate_class (settled_to asks c classes m) (gate_at c k) (row_at (settled_to asks c classes m) (c.inputs + k)).held
  gate_class_lem m k a l =
      ap class_of (row_of_gate asks c classes m k a)
      ∙ ap (evaluated class_ops (gate_at c k).function) (pin_classes_lem m k (held_pins asks (settled_to asks c classes (c.inputs + k)) (gate_at c k)) a l)
      ∙ ap (gate_class (settled_to asks c classes m) (gate_at c k)) (sym (gate_held m k a))

  -- the bounds of a gate's row from each of sixteen inputs
  pub gate_bounds_lem :
      (m k i : ℕ) → c.inputs + k < m → k < length c.gates → i < 16 →
      bounds_from (row_at (settled_to asks c classes m) (c.inputs + k)) i
      ≡ cond (is_constant (row_at (settled_to asks c classes m) (c.inputs + k)).class) None
      (gathered (from_place (settled_to asks c classes m) i (gate_at c k) (row_at (settled_to asks c classes m) (c.inputs + k)).held) (length (gate_at c k).pins))
  gate_bounds_lem m k i a l s =
      ap (λ (row : Row). bounds_from row i) (row_of_gate asks c classes m k a)
      ∙ listed_at (gate_bounds low (gate_at c k) hs (gate_class low (gate_at c k) hs)) 16 i None s
      ∙ ap (λ (x : Class). cond (is_constant x) None (gathered (from_place low i (gate_at c k) hs) (length (gate_at c k).pins))) (sym (ap class_of (row_of_gate asks c classes m k a)))
      ∙ ap (cond (is_constant (row_at (settled_to asks c classes m) (c.inputs + k)).class) None)
      (pin_bounds_lem m k i hs a l
      ∙ ap (λ (held : List (Option Bool)). gathered (from_place (settled_to asks c classes m) i (gate_at c k) held) (length (gate_at c k).pins)) (sym (gate_held m k a)))
    where
      low : List Row
      low = settled_to asks c classes (c.inputs + k)

      hs : List (Option Bool)
      hs = held_pins asks low (gate_at c k)

  -- there are no bounds from a number past sixteen
  pub far_bounds : (m n i : ℕ) → n < m → n < net_count c → 16 ≤ i → bounds_from (row_at (settled_to asks c classes m) n) i ≡ None
  far_bounds m n i a l s = elim (net_cases c n l) [
    | inl p ↦ ap (λ (row : Row). bounds_from row i) (row_of_input asks c classes m n a p) ∙ listed_past (input_bounds (get_or classes n C000) n) 16 i None s
    | inr p ↦ gate p.0 p.2
  ]
    where
      low : ℕ → List Row
      low k = settled_to asks c classes (c.inputs + k)

      hs : ℕ → List (Option Bool)
      hs k = held_pins asks (low k) (gate_at c k)

      gate : (k : ℕ) → n ≡ c.inputs + k → bounds_from (row_at (settled_to asks c classes m) n) i ≡ None
      gate k e =
          ap (λ (x : ℕ). bounds_from (row_at (settled_to asks c classes m) x) i) e
          ∙ ap (λ (row : Row). bounds_from row i) (row_of_gate asks c classes m k (omega arith))
          ∙ listed_past (gate_bounds (low k) (gate_at c k) (hs k) (gate_class (low k) (gate_at c k) (hs k))) 16 i None s

  -- the bounds of an input
  tight_input : (m n i : ℕ) → n < m → n < c.inputs → i < 16 → TightBounds c (settled_to asks c classes m) i n
  tight_input m n i a l s = elim (cases_Bool (is_constant x)) [
    | inl still ↦ tight_constant c rows i n (ap is_constant class ∙ still)
        (bounds ∙ cond-false (not (is_constant x) && eqb i n) _ _ (and_left (not (is_constant x)) (eqb i n) (not_from_true (is_constant x) still)))
    | inr moves ↦ elim (cases_eq n i) [
      | inl e ↦ own e moves
      | inr d ↦ tight_other c rows i n l d
          (bounds ∙ cond-false (not (is_constant x) && eqb i n) _ _ (and_right (not (is_constant x)) (eqb i n) (ne_eqb i n (λ e. d (sym e)))))
    ]
  ]
    where
      rows : List Row
      rows = settled_to asks c classes m

      x : Class
      x = get_or classes n C000

      class : (row_at rows n).class ≡ x
      class = ap class_of (row_of_input asks c classes m n a l)

      bounds : bounds_from (row_at rows n) i ≡ input_bounds x n i
      bounds = ap (λ (row : Row). bounds_from row i) (row_of_input asks c classes m n a l) ∙ listed_at (input_bounds x n) 16 i None s

      own : n ≡ i → is_constant x ≡ false → TightBounds c rows i n
      own e moves =
          subst (TightBounds c rows i) (sym e)
          (tight_own c rows i (omega arith)
          (subst (Live rows) e (record { has = omega (arith, rows_length asks c classes m); moves = ap is_constant class ∙ moves }))
          (ap (λ (j : ℕ). bounds_from (row_at rows j) i) (sym e) ∙ bounds
          ∙ cond-true (not (is_constant x) && eqb i n) _ _ (and_from (not (is_constant x)) (eqb i n) (not_from_false (is_constant x) moves) (eq-eqb i n (sym e)))))

  -- the bounds of a gate, where those at its pins are tight
  tight_settled :
      (m k i : ℕ) → c.inputs + k < m → k < length c.gates → i < 16 →
      ((place : ℕ) → place < length (gate_at c k).pins → TightBounds c (settled_to asks c classes m) i (get_or (gate_at c k).pins place 0)) →
      TightBounds c (settled_to asks c classes m) i (c.inputs + k)
  tight_settled m k i a l s pins = elim (cases_Bool (is_constant (row_at rows (c.inputs + k)).class)) [
    | inl still ↦ tight_constant c rows i (c.inputs + k) still (gate_bounds_lem m k i a l s ∙ cond-true (is_constant (row_at rows (c.inputs + k)).class) None _ still)
    | inr moves ↦ tight_gate c rows i k l (record { has = omega (arith, rows_length asks c classes m); moves = moves }) pins
        (gate_bounds_lem m k i a l s ∙ cond-false (is_constant (row_at rows (c.inputs + k)).class) None _ moves)
  ]
    where
      rows : List Row
      rows = settled_to asks c classes m

  tight_below : (m i : ℕ) → i < 16 → (b n : ℕ) → n < b → n < m → n < net_count c → TightBounds c (settled_to asks c classes m) i n
  tight_below m i s zero n d a l = absurd (omega arith)
  tight_below m i s (suc b) n d a l = elim (net_cases c n l) [
    | inl p ↦ tight_input m n i a p s
    | inr p ↦ gate p.0 p.1 p.2 (tight_below m i s b)
  ]
    where
      gate :
          (k : ℕ) → k < length c.gates → n ≡ c.inputs + k →
          ((j : ℕ) → j < b → j < m → j < net_count c → TightBounds c (settled_to asks c classes m) i j) → TightBounds c (settled_to asks c classes m) i n
      gate k p e below =
          subst (TightBounds c (settled_to asks c classes m) i) (sym e)
          (tight_settled m k i (omega arith) p s
          (λ place q. let u = (gate_good c valid k p).lower place q in below (get_or (gate_at c k).pins place 0) (omega arith) (omega arith) (omega arith)))

  -- every net's bounds are tight, from every number
  pub tight_rows : (m n i : ℕ) → n < m → n < net_count c → TightBounds c (settled_to asks c classes m) i n
  tight_rows m n i a l = elim (cases_lt i 16) [
    | inl s ↦ tight_below m i s (suc n) n (omega arith) a l
    | inr s ↦ tight_absent c (settled_to asks c classes m) i n (far_bounds m n i a l s)
        (λ lo hi p. let u = path_input p in let v = (counts_good c valid).few_inputs in omega arith)
  ]
