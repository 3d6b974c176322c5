-- Each number is looked at.
use Rattle.std.proofs.Common.{rules, tests}
use Rattle.ordering.proofs.Ranges.{some_by_any}
use Rattle.ordering.proofs.same_input.has_only_input.Goals as goal

pub returns : goal.returns
returns c = some_by_any c.any.ensures.ran (cc) (λ k b q h. search (rules, tests))
