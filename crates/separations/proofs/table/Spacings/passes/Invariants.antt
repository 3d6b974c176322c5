-- The times are those after the passes so far.
use Rattle.std.proofs.Common.{◌≡◌}
use Rattle.separations.specs.Check.{times_after}
use Rattle.separations.proofs.table.Spacings.passes.Given as goal

abbrev pub invariant-loop : goal.invariant-loop
invariant-loop l = l.at ≡ times_after l.self.rows l.counter
