-- The contract of `run_exists_where_met` is the lemma.
use Rattle.settling_theory.proofs.RestHolds.{run_exists_where_met}
use Rattle.settling_theory.proofs.rest.run_exists_where_met.Goals as goal

pub returns : goal.returns
returns c = run_exists_where_met
