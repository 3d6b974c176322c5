-- The contract of `twelve_examples_hold` is the lemma.
use Rattle.settling_theory.proofs.Worked.{twelve_examples}
use Rattle.settling_theory.proofs.examples.twelve_examples_hold.Goals as goal

pub returns : goal.returns
returns c = twelve_examples
