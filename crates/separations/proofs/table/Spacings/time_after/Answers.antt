-- Each input more raises the latest time.
use Rattle.std.proofs.Common.{rules, ◌≡◌, ◌≤◌, ◌^◌, length, List, [], get_or, ℤ, pos, ◌≤ℤ◌, None, Some, Option, sym, ap, ◌∙◌, arith}
use Rattle.separations.specs.Check.{latest, raised}
use Rattle.separations.proofs.Passes.{latest_none, latest_more}
use Rattle.separations.proofs.Exact.{full_rows, full_row, formed_limited}
use Rattle.separations.proofs.Folds.{zip_reaches, zip_serves}
use Rattle.separations.proofs.table.Spacings.time_after.Goals as goal

pub fold-requires-clause-callable : goal.fold-requires-clause-callable
fold-requires-clause-callable c =
    let rows = c.args.self.now.rows in
    let at = c.args.times.now.at in
    let long : length at ≡ 16 = search rules in
    zip_serves rows at c.zip.result (search rules) (search rules) _ _ (λ k time. Unit {0})
    (λ k time x next q here j call. (search rules, tt)) _ tt
    (λ k time x here j.
    let high = here.high in
    let row = here.left [] in
    let wide : length x.0.now ≡ 16 = ap length row ∙ full_row rows c.args.self.now.full k (omega arith) in
    let low : x.1.now ≤ 2 ^ 20 = rw (here.right 0) (c.args.times.now.moderate k (omega arith)) in
    let limit : (s : ℤ) → get_or x.0.now c.args.b None ≡ Some s → s ≤ℤ pos 65535 =
    λ s t. formed_limited rows c.args.self.now.formed k c.args.b s (omega arith) c.requires
    (ap (λ (row : List (Option ℤ)). get_or row c.args.b None) (sym row) ∙ t) in
    search rules)

pub returns : goal.returns
returns c =
    let rows = c.args.self.now.rows in
    let at = c.args.times.now.at in
    zip_reaches rows at c.zip.result (search rules) (search rules) _ _ (λ k time. time ≡ latest rows at c.args.b k)
    (λ k time x next q here j call.
    let step : next ≡ raised (get_or x.0.now c.args.b None) x.1.now time = search rules in
    (search rules, step ∙ latest_more rows at c.args.b k time x.1.now x.0.now j (here.left []) (here.right 0)))
    16 _ _ (full_rows rows c.args.self.now.full) (search rules) (latest_none rows at c.args.b) c.fold.ensures.ran
