-- What the spaced source says. Assumes nothing.
use Rattle.std.specs.Prelude.{ℕ, Bool, true, false, cond, ◌&&◌, List, ℤ, pos, ◌+ℤ◌, is_some, Some, None, Option, ◌==◌, int_lt, nat_lt}
use Rattle.netlist.specs.Circuit.{PlainCircuit}
use Rattle.runs.specs.declared.row.Bounds.{Bounds}
use Rattle.runs.specs.declared.row.Row.{Row}
use Rattle.runs.specs.Row.{bounds_from, row_at}
use Rattle.separations.specs.Separations.{Separation, spacing_in}
use Rattle.ordering.specs.Source.{Says}
use Rattle.ordering.specs.Rows.{some_below, every_below, has_row, clean_input}

-- there is a spacing, and the first greatest bound lies below the second least with the spacing added
abbrev pub spaced_by : Option ℤ → Bounds → Bounds → Bool
spaced_by None x y = false
spaced_by (Some s) x y = int_lt (pos x.hi) (pos y.lo +ℤ s)

-- number j with bounds at the first row and number i with bounds at the second agree: the same clean input, the first greatest
-- bound below the second least, or two inputs whose separation is held and spaces the bounds
abbrev pub agreed : List Separation → PlainCircuit → List Row → ℕ → ℕ → Option Bounds → Option Bounds → Bool
agreed seps c rows j i None y = true
agreed seps c rows j i (Some x) None = true
agreed seps c rows j i (Some x) (Some y) = cond (j == i) (clean_input c rows i && nat_lt x.hi y.lo) (spaced_by (spacing_in j i seps) x y)

-- what the two rows have from these numbers agrees
abbrev pub agrees : List Separation → PlainCircuit → List Row → Row → Row → ℕ → ℕ → Bool
agrees seps c rows x y j i = agreed seps c rows j i (bounds_from x j) (bounds_from y i)

-- number j at the first row agrees with every number at the second
abbrev pub agrees_with_all : List Separation → PlainCircuit → List Row → Row → Row → ℕ → Bool
agrees_with_all seps c rows x y j = every_below (agrees seps c rows x y j) 16

-- number i gives bounds at the row
abbrev pub bounded_by : Row → ℕ → Bool
bounded_by row i = is_some (bounds_from row i)

-- both nets have rows with bounds from at least one number, and every pair of numbers agrees
abbrev pub spaced : Says
spaced seps c rows q p =
    has_row c rows q && has_row c rows p && some_below (bounded_by (row_at rows q)) 16 && some_below (bounded_by (row_at rows p)) 16
    && every_below (agrees_with_all seps c rows (row_at rows q) (row_at rows p)) 16
