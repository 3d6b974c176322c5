-- Each turn takes in one more pin.
use Rattle.std.proofs.Common.{sym, ◌∙◌, rules}
use Rattle.ordering.proofs.TieSteps.{join_skips, join_takes, join_stops, join_ends}
use Rattle.ordering.proofs.stem.join.Goals as goal
use Rattle.ordering.proofs.stem.join.Goals.{then-is_live+in_ok-tie, else-is_live}

pub returns-in_err-tie : goal.returns-in_err-tie
returns-in_err-tie c =
    c.from_residual.ensures
    ∙ join_stops c.args.rows.now c.args.ties.now c.args.row.now c.args.pins.now c.loop-k.k c.loop-k.all _
    c.loop-k-test.true (sym c.is_live.ensures ∙ c.if-is_live.true) (search rules) c.loop-k.invariant

pub loop-k-preserved : goal.loop-k-preserved
loop-k-preserved c =
    elim c.if-is_live.branch [
      | then-is_live+in_ok-tie w ↦
          join_takes c.args.rows.now c.args.ties.now c.args.row.now c.args.pins.now c.loop-k.k c.loop-k.all _ _ w.in_ok-tie.tie
          c.loop-k-test.true (sym c.is_live.ensures ∙ w.if-is_live.true) (search rules) (w.all-is ∙ w.join_bounds-all.ensures) c.loop-k.invariant
      | else-is_live w ↦
          join_skips c.args.rows.now c.args.ties.now c.args.row.now c.args.pins.now c.loop-k.k c.loop-k.all _ _
          c.loop-k-test.true (sym c.is_live.ensures ∙ w.if-is_live.false) w.all-is c.loop-k.invariant
    ]

pub returns : goal.returns
returns c = search (rules, join_ends)
