-- The bounds of a gate's net, worked out pin after pin from the rows of the nets at its pins. Assumes nothing.
use Rattle.std.specs.Prelude.{ℕ, zero, suc, ◌+◌, min, max, Bool, List, Some, None, Option, slice_index, slice_index_or}
use Rattle.netlist.specs.Circuit.{PlainGate}
use Rattle.runs.specs.declared.row.Bounds.{Bounds}
use Rattle.runs.specs.declared.row.Row.{Row}
use Rattle.runs.specs.Row.{bounds_from, row_at}

-- the bounds after the gate's delay
abbrev pub delayed : PlainGate → Option Bounds → Option Bounds
delayed g None = None
delayed g (Some b) = Some (record { lo = b.lo + g.least; hi = b.hi + g.greatest })

-- the narrowest bounds that contain both
abbrev pub joined : Option Bounds → Option Bounds → Option Bounds
joined None y = y
joined (Some x) None = Some x
joined (Some x) (Some y) = Some (record { lo = min x.lo y.lo; hi = max x.hi y.hi })

-- a held pin gives no bounds
abbrev pub unless_held : Option Bool → Option Bounds → Option Bounds
unless_held None o = o
unless_held (Some v) o = None

-- what one pin place gives from input i: the bounds of the pin's net after the gate's delay, unless the place is held
abbrev pub from_place : List Row → ℕ → PlainGate → List (Option Bool) → ℕ → Option Bounds
from_place rows i g held place = delayed g (unless_held (slice_index_or held place None) (bounds_from (row_at rows (slice_index g.pins place)) i))

-- what the first places give together
abbrev pub gathered : (ℕ → Option Bounds) → ℕ → Option Bounds
gathered from zero = None
gathered from (suc m) = joined (gathered from m) (from m)
