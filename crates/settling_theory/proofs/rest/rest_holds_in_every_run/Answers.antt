-- The contract of `rest_holds_in_every_run` is the lemma.
use Rattle.settling_theory.proofs.RestHolds.{rest_holds}
use Rattle.settling_theory.proofs.rest.rest_holds_in_every_run.Goals as goal

pub returns : goal.returns
returns c = rest_holds
