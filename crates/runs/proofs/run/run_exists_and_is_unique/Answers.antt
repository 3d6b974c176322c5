-- The contract of `run_exists_and_is_unique` is the lemma.
use Rattle.runs.proofs.Runs.{run_exists}
use Rattle.runs.proofs.run.run_exists_and_is_unique.Goals as goal

pub returns : goal.returns
returns c = run_exists
