-- The contract of `settled_bounds_fit` is the lemma.
use Rattle.settling_theory.proofs.Meaning.{settled_bounds_fit}
use Rattle.settling_theory.proofs.rows.settled_bounds_fit.Goals as goal

pub returns : goal.returns
returns c = settled_bounds_fit
