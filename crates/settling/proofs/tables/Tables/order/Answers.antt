-- Settled rows are true in these runs, and so is a yes.
use Rattle.settling.specs.Tables.{circuit_of, classes_of, rows_of}
use Rattle.settling.proofs.Laws.{settled_told}
use Rattle.settling.proofs.tables.Tables.order.Goals as goal

pub returns-clause-settled : goal.returns-clause-settled
returns-clause-settled g c = λ yes is run of driven met.
    let tables = c.args.self.now in
    let theorems = settled_told g.S.OrderSource.says g.S.OrderSource.held g.met.S.OrderSource.first g.met.S.OrderSource.second
    c.args.source.now (circuit_of tables) tables.circuit.valid (classes_of tables) (rows_of tables) is in
    c.answer.ensures.holds yes run of met (theorems.means.true_in_runs run of driven met)
