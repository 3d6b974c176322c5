-- Letters, flip counts and rising flips are kept by a move later.
use Rattle.waveform.proofs.Delay.{classes_ignore_delay}
use Rattle.waveform.proofs.theorems.classes_ignore_delay.Goals as goal

pub returns : goal.returns
returns c = classes_ignore_delay
