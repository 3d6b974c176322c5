-- The rows below n are settled, and nothing else has changed.
use Rattle.std.proofs.Common.{◌≡◌, take}
use Rattle.settling_theory.specs.Settled.{settled_to}
use Rattle.settling.specs.Asked.{asked}
use Rattle.settling.specs.Tables.{circuit_of, classes_of, rows_of}
use Rattle.settling.proofs.settling.settle.Given as goal

abbrev pub invariant-loop-n : goal.invariant-loop-n
invariant-loop-n g l =
    (take l.n (rows_of l.tables) ≡ settled_to (asked g.S.OrderSource l.source l.initial.tables.circuit) (circuit_of l.initial.tables) (classes_of l.initial.tables) l.n)
    × (l.tables.circuit ≡ l.initial.tables.circuit) × (classes_of l.tables ≡ classes_of l.initial.tables)
