-- Rest is true in every run.
use Rattle.settling.specs.Tables.{circuit_of, classes_of}
use Rattle.settling.proofs.Laws.{rest_true}
use Rattle.settling.proofs.resting.rest.Goals as goal

pub returns-clause-holds : goal.returns-clause-holds
returns-clause-holds c =
    let t = c.args.tables.now in
    rest_true (circuit_of t) (classes_of t) t.circuit.valid c.args.net c.values_of.result c.values_of.ensures
