-- Each turn puts in the tie of one more net.
use Rattle.std.proofs.Common.{arith}
use Rattle.netlist.specs.View.{plain}
use Rattle.ordering.proofs.TieSteps.{table_starts, table_grows}
use Rattle.ordering.proofs.stem.ties_to.Goals as goal

pub loop-n-init : goal.loop-n-init
loop-n-init c = table_starts (plain c.args.lent.circuit.now) c.args.lent.circuit.now.valid c.args.lent.rows.now c.args.s c.untied-ties.result c.untied-ties.ensures

pub loop-n-preserved : goal.loop-n-preserved
loop-n-preserved c =
    table_grows (plain c.args.lent.circuit.now) c.args.lent.circuit.now.valid c.args.lent.rows.now c.args.s c.loop-n.ties c.loop-n.n
    (omega (arith, c.ranges.top)) c.loop-n.invariant c.tie_of.result c.tie_of.ensures.told c.tie_of.ensures.small c.from.result c.from.ensures

-- the last turn
pub returns-2 : goal.returns-2
returns-2 c =
    let full = table_grows (plain c.args.lent.circuit.now) c.args.lent.circuit.now.valid c.args.lent.rows.now c.args.s c.loop-n.ties c.loop-n.n
    (omega (arith, c.ranges.top)) c.loop-n.invariant c.tie_of.result c.tie_of.ensures.told c.tie_of.ensures.small c.from.result c.from.ensures in
    λ k l. full.1 k (omega arith)
