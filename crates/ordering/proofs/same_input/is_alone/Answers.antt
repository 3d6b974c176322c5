-- Each number is looked at.
use Rattle.std.proofs.Common.{rules, tests}
use Rattle.ordering.proofs.Ranges.{every_by_all}
use Rattle.ordering.proofs.same_input.is_alone.Goals as goal

pub returns : goal.returns
returns c = every_by_all c.all.ensures.ran (cc) (λ k b q h. search (rules, tests))
