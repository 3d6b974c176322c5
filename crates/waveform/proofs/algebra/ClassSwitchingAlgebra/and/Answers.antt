-- Neither is a constant, nor are the two one clean class: the class of the start and the end.
use Rattle.std.proofs.Common.{rules, ◌≡◌, ◌&&◌, false}
use Rattle.classes.specs.Class.{is_clean}
use Rattle.waveform.specs.Ops.{same_class}
use Rattle.waveform.proofs.Operations.{conj_free, other_code}
use Rattle.waveform.proofs.algebra.ClassSwitchingAlgebra.and.Goals as goal
use Rattle.waveform.proofs.algebra.ClassSwitchingAlgebra.and.Goals.{then-is_clean+else-eq, else-is_clean}

pub returns-in_default-2 : goal.returns-in_default-2
returns-in_default-2 c =
    let n = c.in_default in
    let apart : is_clean c.args.self && same_class c.args.self c.args.other ≡ false = elim c.if-is_clean.branch [
      | then-is_clean+else-eq w ↦ let o = other_code c.args.self c.args.other (search rules) in search rules
      | else-is_clean w ↦ search rules
    ] in
    let e = conj_free c.args.self c.args.other n.not-C000-0 n.not-C111-0 n.not-C000-1 n.not-C111-1 apart in
    search rules
