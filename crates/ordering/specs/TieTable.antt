-- The table of ties that the stem layer fills: nets that are left out by their number, and how far its bounds can grow. Assumes nothing.
use Rattle.std.specs.Prelude.{◌≡◌, ℕ, ◌*◌, ◌<◌, ◌≤◌, Bool, not, ◌&&◌, ◌||◌, List, Some, None, Option, ◌==◌, nat_lt, slice_index_or}
use Rattle.netlist.specs.Circuit.{PlainCircuit}
use Rattle.runs.specs.declared.row.Bounds.{Bounds}

-- the bounds, if any, are at most this many ticks
abbrev pub AtMost : ℕ → Option Bounds → Type 0
AtMost limit o = (b : Bounds) → o ≡ Some b → (b.lo ≤ limit) × (b.hi ≤ limit)

-- each tie of a net below n is at most 65,535 ticks for each net below that one
abbrev pub SmallBelow : List (Option Bounds) → ℕ → Type 0
SmallBelow ties n = (k : ℕ) → k < n → AtMost (65535 * k) (slice_index_or ties k None)

-- net n lies below net s, or is an input other than s
abbrev pub is_apart : PlainCircuit → ℕ → ℕ → Bool
is_apart c s n = nat_lt n s || (not (n == s) && nat_lt n c.inputs)
