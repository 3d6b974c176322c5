-- The values of the nets below n are worked out.
use Rattle.std.proofs.Common.{◌≡◌, length, take}
use Rattle.netlist.specs.View.{plain}
use Rattle.settling_theory.specs.Rest.{values_to}
use Rattle.settling.specs.Resting.{input_letter}
use Rattle.settling.proofs.resting.value_of.Given as goal

abbrev pub invariant-loop-n : goal.invariant-loop-n
invariant-loop-n l = (length l.values ≡ 256) × (take l.n l.values ≡ values_to (input_letter l.letter l.classes) (plain l.circuit) l.n)
