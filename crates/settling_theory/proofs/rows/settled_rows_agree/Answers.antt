-- The contract of `settled_rows_agree` is the lemma.
use Rattle.settling_theory.proofs.Meaning.{settled_rows_agree}
use Rattle.settling_theory.proofs.rows.settled_rows_agree.Goals as goal

pub returns : goal.returns
returns c = settled_rows_agree
