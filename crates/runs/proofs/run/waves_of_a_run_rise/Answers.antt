-- The contract of `waves_of_a_run_rise` is the lemma.
use Rattle.runs.proofs.Runs.{all_waves_rise}
use Rattle.runs.proofs.run.waves_of_a_run_rise.Goals as goal

pub returns : goal.returns
returns c = all_waves_rise
