-- The contract of `waveforms_are_determined` is the lemma.
use Rattle.signals.proofs.Waveforms.{determined}
use Rattle.signals.proofs.waveforms_are_determined.Goals as goal

pub returns : goal.returns
returns c = determined
