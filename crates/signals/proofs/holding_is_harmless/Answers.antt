-- The contract of `holding_is_harmless` is the lemma.
use Rattle.signals.proofs.Holding.{holding_is_harmless}
use Rattle.signals.proofs.holding_is_harmless.Goals as goal

pub returns : goal.returns
returns c = holding_is_harmless
