-- The table has the ties of the nets below n.
use Rattle.netlist.specs.View.{plain}
use Rattle.ordering.proofs.TieSteps.{HasTies}
use Rattle.ordering.proofs.stem.ties_to.Given as goal

abbrev pub invariant-loop-n : goal.invariant-loop-n
invariant-loop-n l = HasTies (plain l.lent.circuit.now) l.lent.rows.now l.s l.ties l.n
