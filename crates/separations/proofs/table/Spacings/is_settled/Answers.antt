-- The times after the seventeenth pass are compared with those before it.
use Rattle.std.proofs.Common.{◌≡◌, sym, ◌∙◌}
use Rattle.std.proofs.lemmas.Slice.Eq.{slice_eq-Decides}
use Rattle.std.proofs.lemmas.Bool.Decides.{Decides-eqb}
use Rattle.separations.specs.Check.{times_after}
use Rattle.separations.proofs.Passes.{after_more}
use Rattle.separations.proofs.table.Spacings.is_settled.Goals as goal

pub returns : goal.returns
returns c =
    let before = c.passes-times.ensures in
    let after : c.pass.result ≡ times_after c.args.self.now.rows 17 =
    c.pass.ensures ∙ after_more c.args.self.now.rows c.passes-times.result.at 16 before in
    let equal = slice_eq-Decides Decides-eqb c.pass.result c.passes-times.result.at c.eq.result c.eq.ensures in
    (λ t. sym after ∙ (equal.0 t ∙ before), λ e. equal.1 (after ∙ (e ∙ sym before)))
