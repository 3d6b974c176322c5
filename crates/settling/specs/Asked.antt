-- What a source answers over rows, and how far the rows' bounds can grow. Assumes nothing.
use Rattle.std.specs.Prelude.{ℕ, ◌*◌, ◌<◌, ◌≤◌, List, length}
use Rattle.netlist.specs.declared.circuit.Circuit.{Circuit}
use Rattle.netlist.specs.View.{plain}
use Rattle.ordering.specs.TieTable.{AtMost}
use Rattle.ordering.specs.declared.source.OrderSource.{Ghosts}
use Rattle.runs.specs.declared.row.Row.{Row}
use Rattle.runs.specs.Row.{bounds_from, row_at}
use Rattle.settling_theory.specs.Settled.{Asks}

-- the answers of a source over the rows that it is lent
abbrev pub asked : {S : Type 0} → Ghosts S → S → Circuit → Asks
asked g s c = g.says (g.held s) (plain c)

-- at most 256 rows, and the bounds of each net are at most 65,535 ticks for each net below it
pub record Small (rows : List Row) : Type 0 where
  pub few : length rows ≤ 256
  pub each : (k : ℕ) → k < length rows → (i : ℕ) → AtMost (65535 * k) (bounds_from (row_at rows k) i)
