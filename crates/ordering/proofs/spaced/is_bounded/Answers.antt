-- Each place is looked at.
use Rattle.std.proofs.Common.{is_some, None, ◌∙◌, rules, tests}
use Rattle.std.proofs.lemmas.Iterator.{YieldsList-from_slice}
use Rattle.std.proofs.lemmas.Iterator.Search.{any_from_yields_List}
use Rattle.ordering.proofs.Ranges.{some_of_list}
use Rattle.ordering.proofs.spaced.is_bounded.Goals as goal

pub returns : goal.returns
returns c =
    any_from_yields_List _ _ _ _ c.any.ensures.ran (YieldsList-from_slice c.args.row.now.bounds (cc)) (λ x b q h. search (rules, tests))
    ∙ some_of_list is_some c.args.row.now.bounds None 16 (search rules)
