-- Neither is a constant: the class of the start and the end.
use Rattle.std.proofs.Common.{rules}
use Rattle.waveform.proofs.Operations.{excl_free}
use Rattle.waveform.proofs.algebra.ClassSwitchingAlgebra.xor.Goals as goal

pub returns-in_default : goal.returns-in_default
returns-in_default c =
    let n = c.in_default in
    let e = excl_free c.args.self c.args.other n.not-C000-0 n.not-C111-0 n.not-C000-1 n.not-C111-1 in
    search rules
