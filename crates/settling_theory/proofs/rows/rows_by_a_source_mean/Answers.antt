-- The first law of the source is all that the rows need.
use Rattle.settling_theory.proofs.Meaning.{settled_rows_mean}
use Rattle.settling_theory.proofs.rows.rows_by_a_source_mean.Goals as goal

pub returns : goal.returns
returns g c = settled_rows_mean g.S.OrderSource.says g.met.S.OrderSource.first
