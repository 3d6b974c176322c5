-- What a chain layer says over the source below it. Assumes nothing.
use Rattle.std.specs.Prelude.{ℕ, Bool, ◌&&◌, ◌||◌, List}
use Rattle.netlist.specs.Circuit.{PlainCircuit}
use Rattle.runs.specs.declared.row.Row.{Row}
use Rattle.ordering.specs.Source.{Says}
use Rattle.ordering.specs.Rows.{some_below, row_count, clean_net}

-- net m is clean, q comes before it and p after it
abbrev pub through : (ℕ → ℕ → Bool) → PlainCircuit → List Row → ℕ → ℕ → ℕ → Bool
through before c rows q p m = clean_net c rows m && before q m && before m p

-- the source below says so, of q and p or through some clean net that has a row
abbrev pub chained : Says → Says
chained under seps c rows q p = under seps c rows q p || some_below (through (under seps c rows) c rows q p) (row_count c rows)
