-- The second law of the source gives the waveforms of the inputs.
use Rattle.settling_theory.proofs.RestHolds.{run_exists_where_met}
use Rattle.settling_theory.proofs.rest.run_exists_for_a_source.Goals as goal

pub returns : goal.returns
returns g c = λ x c' classes valid. run_exists_where_met (g.S.OrderSource.held x) c' classes valid (g.met.S.OrderSource.second x classes)
