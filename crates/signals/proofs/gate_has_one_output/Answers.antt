-- The contract of `gate_has_one_output` is the lemma.
use Rattle.signals.proofs.Outputs.{one_output}
use Rattle.signals.proofs.gate_has_one_output.Goals as goal

pub returns : goal.returns
returns c = one_output
