-- What the same-input source says. Assumes nothing.
use Rattle.std.specs.Prelude.{ℕ, Bool, not, ◌&&◌, ◌||◌, List, is_some, ◌==◌}
use Rattle.netlist.specs.Circuit.{PlainCircuit}
use Rattle.runs.specs.declared.row.Row.{Row}
use Rattle.runs.specs.Row.{bounds_from, row_at}
use Rattle.ordering.specs.Source.{Says}
use Rattle.ordering.specs.Rows.{some_below, every_below, has_row, clean_input, below}

-- number j is i, or gives no bounds at either row
abbrev pub none_but : ℕ → Row → Row → ℕ → Bool
none_but i x y j = j == i || not (is_some (bounds_from x j) || is_some (bounds_from y j))

-- input i is clean, the first row's greatest bound from it lies below the second row's least, and no other number gives bounds at either
abbrev pub only_input : PlainCircuit → List Row → Row → Row → ℕ → Bool
only_input c rows x y i = clean_input c rows i && below (bounds_from x i) (bounds_from y i) && every_below (none_but i x y) 16

-- both nets have rows, and one and the same clean input alone orders them
abbrev pub same_input : Says
same_input seps c rows q p = has_row c rows q && has_row c rows p && some_below (only_input c rows (row_at rows q) (row_at rows p)) 16
