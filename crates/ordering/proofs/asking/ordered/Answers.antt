-- The source's first law says what a yes means.
use Rattle.std.proofs.Common.{sym, ◌∙◌}
use Rattle.netlist.specs.View.{plain}
use Rattle.ordering.proofs.asking.ordered.Goals as goal

pub returns-clause-holds : goal.returns-clause-holds
returns-clause-holds g c =
    λ yes. g.met.S.OrderSource.first (g.S.OrderSource.held c.args.source.now) (plain c.args.circuit.now) c.args.rows.now c.args.q c.args.p
    c.args.circuit.now.valid (sym c.answer.ensures ∙ yes)
