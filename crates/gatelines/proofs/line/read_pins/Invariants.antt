-- The words read so far are classes, and the pins as long as they fit.
use Rattle.gatelines.proofs.Pins.{Held}
use Rattle.gatelines.proofs.line.read_pins.Given as goal

abbrev pub invariant-loop-word : goal.invariant-loop-word
invariant-loop-word l = Held l.fn.words l.word-iterator l.pins.items l.added
