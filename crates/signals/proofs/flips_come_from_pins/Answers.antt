-- The contract of `flips_come_from_pins` is the lemma.
use Rattle.signals.proofs.Outputs.{flips_from_pins}
use Rattle.signals.proofs.flips_come_from_pins.Goals as goal

pub returns : goal.returns
returns c = flips_from_pins
