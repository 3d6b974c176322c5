-- The contract of `flips_come_from_unheld_pins` is the lemma.
use Rattle.signals.proofs.Holding.{flips_from_unheld}
use Rattle.signals.proofs.flips_come_from_unheld_pins.Goals as goal

pub returns : goal.returns
returns c = flips_from_unheld
