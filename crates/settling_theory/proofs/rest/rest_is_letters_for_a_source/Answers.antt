-- The first and the second law of the source are all that is needed.
use Rattle.settling_theory.proofs.RestLetters.{rest_is_letters_for}
use Rattle.settling_theory.proofs.rest.rest_is_letters_for_a_source.Goals as goal

pub returns : goal.returns
returns g c = rest_is_letters_for g.S.OrderSource.held g.S.OrderSource.says g.met.S.OrderSource.first g.met.S.OrderSource.second
