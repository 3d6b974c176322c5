-- The contract of `rest_is_letters_where_met` is the lemma.
use Rattle.settling_theory.proofs.RestLetters.{rest_is_letters}
use Rattle.settling_theory.proofs.rest.rest_is_letters_where_met.Goals as goal

pub returns : goal.returns
returns c = rest_is_letters
