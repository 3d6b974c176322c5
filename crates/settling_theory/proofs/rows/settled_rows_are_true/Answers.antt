-- The contract of `settled_rows_are_true` is the lemma.
use Rattle.settling_theory.proofs.Meaning.{settled_rows_true}
use Rattle.settling_theory.proofs.rows.settled_rows_are_true.Goals as goal

pub returns : goal.returns
returns c = settled_rows_true
