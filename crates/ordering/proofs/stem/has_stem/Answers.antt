-- Nets without rows and constant nets are not tied, and a stem lies above neither net.
use Rattle.std.proofs.Common.{sym, ◌∙◌, inl, inr, true≢false, arith, rules, tests}
use Rattle.netlist.specs.View.{plain}
use Rattle.ordering.proofs.Ranges.{some_by_any_up_to}
use Rattle.ordering.proofs.TieSteps.{movable_row, no_stem, no_higher_stem}
use Rattle.ordering.proofs.stem.has_stem.Goals as goal
use Rattle.ordering.proofs.stem.has_stem.Goals.{then-can_move, else-can_move}

pub returns-then-can_move-2 : goal.returns-then-can_move-2
returns-then-can_move-2 c =
    let l = movable_row (plain c.args.lent.circuit.now) c.args.lent.rows.now c.args.q
    (elim c.if-can_move.branch [
      | then-can_move w ↦ sym c.can_move.ensures ∙ w.if-can_move.true
      | else-can_move w ↦ absurd (true≢false (sym c.if-can_move-2.true ∙ w.value-is ∙ w.if-can_move.false))
    ]) in
    some_by_any_up_to c.any.ensures.ran c.new.ensures.start c.new.ensures.end c.new.ensures.exhausted (λ k b q h. search (rules, tests))
    ∙ no_higher_stem (plain c.args.lent.circuit.now) c.args.lent.circuit.now.valid c.args.lent.rows.now c.args.q c.args.p _ (omega (arith, c.min.ensures)) (omega (arith, c.min.ensures))

pub returns-else-can_move-2 : goal.returns-else-can_move-2
returns-else-can_move-2 c =
    c.if-can_move-2.false
    ∙ no_stem (plain c.args.lent.circuit.now) c.args.lent.circuit.now.valid c.args.lent.rows.now c.args.q c.args.p
    (elim c.if-can_move.branch [
      | then-can_move w ↦ inr (sym w.can_move-then-can_move.ensures ∙ sym w.value-is ∙ c.if-can_move-2.false)
      | else-can_move w ↦ inl (sym c.can_move.ensures ∙ w.if-can_move.false)
    ])
