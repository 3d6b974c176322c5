-- Bounds grow by at most 65,535 ticks from net to net. Assumes nothing.
use Rattle.std.proofs.Common.{◌≡◌, ℕ, ◌*◌, ◌<◌, ◌≤◌, Bool, T, List, length, Some, None, Option, sym, subst, arith}
use Rattle.classes.specs.declared.class.Class.{Class}
use Rattle.netlist.specs.Circuit.{PlainCircuit, PlainGate, net_count, valid_circuit, valid_gate}
use Rattle.runs.specs.declared.row.Bounds.{Bounds}
use Rattle.runs.specs.declared.row.Row.{Row}
use Rattle.runs.specs.Gathered.{unless_held}
use Rattle.runs.specs.Row.{bounds_from, row_at}
use Rattle.runs.proofs.Circuits.{counts_good, good_gate}
use Rattle.settling_theory.specs.Settled.{Asks, pin_net, settled_to}
use Rattle.settling_theory.proofs.Meaning.{settled_bounds_fit}
use Rattle.settling_theory.proofs.Prefix.{rows_length}
use Rattle.ordering.specs.TieTable.{AtMost}
use Rattle.settling.specs.Asked.{Small}

at_most_unheld : (m : ℕ) (held : Option Bool) (o : Option Bounds) → AtMost m o → AtMost m (unless_held held o)
at_most_unheld m None o h = h
at_most_unheld m (Some v) o h = λ b e. grind arith

-- the bounds at a pin of one of 256 nets leave room for the gate's delay
pub room : (rows : List Row) (g : PlainGate) → T (valid_gate (length rows) g) → Small rows → (held : Option Bool) (i place : ℕ) → place < length g.pins
    → AtMost (65535 * 255) (unless_held held (bounds_from (row_at rows (pin_net g place)) i))
room rows g valid small held i place l =
    let below = (good_gate (length rows) g valid).lower place l in
    at_most_unheld (65535 * 255) held (bounds_from (row_at rows (pin_net g place)) i)
    (λ b e. let fit = small.each (pin_net g place) below i b e in (omega (arith, fit.0, below, small.few), omega (arith, fit.1, below, small.few)))

-- rows that settling has written so far are small
pub settled_small : (asks : Asks) (c : PlainCircuit) (classes : List Class) → T (valid_circuit c) → (n : ℕ) (rows : List Row) → n ≤ net_count c
    → rows ≡ settled_to asks c classes n → Small rows
settled_small asks c classes valid n rows l is =
    let counts = counts_good c valid in
    let size = rows_length asks c classes n in
    subst Small (sym is) (record {
      few = omega (arith, counts.few_inputs, counts.few_gates);
      each = λ k h i b e.
          let fits = settled_bounds_fit asks c classes valid n k i b (omega arith) (omega arith) e in
          (omega (arith, fits.ordered, fits.summed, counts.some_input), omega (arith, fits.summed, counts.some_input));
    })
