-- Reading the rows lent: which nets have rows, and which of them can move or are clean. Assumes nothing.
use Rattle.std.specs.Prelude.{ℕ, zero, suc, min, Bool, true, false, not, ◌&&◌, ◌||◌, List, length, Some, None, Option, nat_lt}
use Rattle.classes.specs.Class.{is_constant, is_clean}
use Rattle.netlist.specs.Circuit.{PlainCircuit, net_count}
use Rattle.runs.specs.declared.row.Bounds.{Bounds}
use Rattle.runs.specs.declared.row.Row.{Row}
use Rattle.runs.specs.Row.{row_at}

-- the test passes at some number below n
unfoldable pub some_below : (ℕ → Bool) → ℕ → Bool
some_below test zero = false
some_below test (suc n) = some_below test n || test n

-- the test passes at every number below n
unfoldable pub every_below : (ℕ → Bool) → ℕ → Bool
every_below test zero = true
every_below test (suc n) = every_below test n && test n

-- how many nets have rows: rows past the circuit's nets are not looked at
abbrev pub row_count : PlainCircuit → List Row → ℕ
row_count c rows = min (net_count c) (length rows)

-- the net has a row
abbrev pub has_row : PlainCircuit → List Row → ℕ → Bool
has_row c rows n = nat_lt n (row_count c rows)

-- the net has a row and its class is not constant
abbrev pub can_move : PlainCircuit → List Row → ℕ → Bool
can_move c rows n = has_row c rows n && not (is_constant (row_at rows n).class)

-- the net has a row and its class is clean
abbrev pub clean_net : PlainCircuit → List Row → ℕ → Bool
clean_net c rows n = has_row c rows n && is_clean (row_at rows n).class

-- the number is an input of the circuit, it has a row, and its class is clean
abbrev pub clean_input : PlainCircuit → List Row → ℕ → Bool
clean_input c rows i = nat_lt i c.inputs && clean_net c rows i

-- both have bounds, and the greatest of the one lies below the least of the other
abbrev pub below : Option Bounds → Option Bounds → Bool
below None y = false
below (Some x) None = false
below (Some x) (Some y) = nat_lt x.hi y.lo
