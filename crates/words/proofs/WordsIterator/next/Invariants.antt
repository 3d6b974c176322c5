-- What is left has the words that were left.
use Rattle.std.proofs.Common.{◌≡◌, length}
use Rattle.words.specs.Words.{words}
use Rattle.words.proofs.WordsIterator.next.Given as goal

abbrev pub invariant-loop-part : goal.invariant-loop-part
invariant-loop-part l = words l.initial.self-inside.left.now ≡ words l.self-inside.left.now

abbrev pub decreases-loop-part : goal.decreases-loop-part
decreases-loop-part l = length l.self-inside.left.now
