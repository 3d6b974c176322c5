-- The array is the list of the times after the pass.
use Rattle.std.proofs.Common.{rules}
use Rattle.separations.specs.Check.{latest, passed}
use Rattle.separations.proofs.Arrays.{from_fn_list}
use Rattle.separations.proofs.table.Spacings.pass.Goals as goal

pub returns : goal.returns
unfolding passed
returns c =
    from_fn_list _ (λ b. latest c.args.self.now.rows c.args.times.now.at b 16) _ c.from_fn.result 16
    (λ i y q l k. search rules) c.from_fn.ensures.items
