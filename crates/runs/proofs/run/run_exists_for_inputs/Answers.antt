-- The contract of `run_exists_for_inputs` is the lemma.
use Rattle.runs.proofs.Runs.{run_for_inputs}
use Rattle.runs.proofs.run.run_exists_for_inputs.Goals as goal

pub returns : goal.returns
returns c = run_for_inputs
