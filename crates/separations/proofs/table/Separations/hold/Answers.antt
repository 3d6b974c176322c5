-- A separation that is refused at once leaves what is held as it was; one that passes the test is held.
use Rattle.std.proofs.Common.{rules, ◌≡◌, refl, Err}
use Rattle.std.proofs.lemmas.Int.{to_z-of_z}
use Rattle.separations.specs.Holding.{held_by}
use Rattle.separations.proofs.Exact.{placed_accepted}
use Rattle.separations.proofs.table.Separations.hold.Goals as goal

pub returns-in_err-separation : goal.returns-in_err-separation
returns-in_err-separation c =
    let e : c.from_residual.result ≡ Err c.in_err-separation.field-0.0 = search rules in
    let fits = c.ranges.s in
    rw e (refl, simp to_z-of_z at (c.in_err-separation.ensures (held_by c.args.self.now)))

pub returns : goal.returns
returns c =
    placed_accepted c.args.self.now.spacings c.in_ok-separation.separation c.with_larger-spacings.result
    c.args.a c.args.b c.args.s c.with_larger-spacings.ensures (search rules) (search rules) (search rules) (search rules)
