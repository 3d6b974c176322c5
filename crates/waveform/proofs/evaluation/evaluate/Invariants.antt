-- The loop has folded in the pins before the index; what is left gives the whole fold.
use Rattle.std.proofs.Common.{◌≡◌, drop}
use Rattle.waveform.specs.Algebra.{folded_in, joined, unit_of}
use Rattle.waveform.proofs.evaluation.evaluate.Given as goal

abbrev pub invariant-loop-pin : goal.invariant-loop-pin
invariant-loop-pin g l =
    let ops = g.V.SwitchingAlgebra.ops in
    folded_in (joined ops l.function) l.value (drop l.pin-index l.pins)
    ≡ folded_in (joined ops l.function) (unit_of ops l.function) l.pins
