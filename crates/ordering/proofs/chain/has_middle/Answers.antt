-- Nothing lies between nets without rows; each net is looked at.
use Rattle.std.proofs.Common.{sym, ◌∙◌, inl, inr, rules, tests}
use Rattle.netlist.specs.View.{plain}
use Rattle.ordering.specs.ChainLaws.{no_middle}
use Rattle.ordering.proofs.Ranges.{some_by_any}
use Rattle.ordering.proofs.chain.has_middle.Goals as goal
use Rattle.ordering.proofs.chain.has_middle.Goals.{then-has_row, else-has_row}

pub returns-then-has_row-2 : goal.returns-then-has_row-2
returns-then-has_row-2 g c = some_by_any c.any.ensures.ran (cc) (λ k b q h. search (rules, tests))

pub returns-else-has_row-2 : goal.returns-else-has_row-2
returns-else-has_row-2 g c =
    c.if-has_row-2.false
    ∙ no_middle g.S.OrderSource.says g.met.S.OrderSource.third _ (plain c.args.lent.circuit.now) c.args.lent.rows.now c.args.q c.args.p
    (elim c.if-has_row.branch [
      | then-has_row w ↦ inr (sym w.has_row-then-has_row.ensures ∙ sym w.value-is ∙ c.if-has_row-2.false)
      | else-has_row w ↦ inl (sym c.has_row.ensures ∙ w.if-has_row.false)
    ])
