-- What is left of the pins gives the whole answer.
use Rattle.std.proofs.Common.{◌≡◌, drop, None}
use Rattle.ordering.specs.Stem.{all_tied, live_ties}
use Rattle.ordering.proofs.stem.join.Given as goal

abbrev pub invariant-loop-k : goal.invariant-loop-k
invariant-loop-k l =
    all_tied l.all (live_ties l.rows l.ties l.row l.k (drop l.k l.pins)) ≡ all_tied None (live_ties l.rows l.ties l.row 0 l.pins)
