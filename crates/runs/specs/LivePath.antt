-- Live paths: the ways by which a flip of an input can come to a net, and bounds that are exactly their delay sums. Assumes nothing.
use Rattle.std.specs.Prelude.{◌≡◌, ℕ, ◌+◌, ◌<◌, ◌≤◌, false, List, length, Some, None, slice_index}
use Rattle.classes.specs.Class.{is_constant}
use Rattle.netlist.specs.Circuit.{PlainCircuit}
use Rattle.runs.specs.declared.row.Bounds.{Bounds}
use Rattle.runs.specs.declared.row.Row.{Row}
use Rattle.runs.specs.Run.{gate_at}
use Rattle.runs.specs.Row.{bounds_from, held_at, row_at}

-- the net has a row, and its class is not constant
pub record Live (rows : List Row) (n : ℕ) : Type 0 where
  pub has : n < length rows
  pub moves : is_constant (row_at rows n).class ≡ false

-- a live path from input i to a net, with its sum of least delays and its sum of greatest delays:
-- it goes through live nets, both ends included, and through pin places that are not held
pub data LivePath (c : PlainCircuit) (rows : List Row) (i : ℕ) : ℕ → ℕ → ℕ → Type 0 where
  -- an input alone is a path of sums 0
  start : i < c.inputs → Live rows i → LivePath c rows i i 0 0
  -- a path to the net at a place of gate k goes on to the gate's own net
  step : (k place : ℕ) {lo hi : ℕ} → k < length c.gates → place < length (gate_at c k).pins →
      held_at (row_at rows (c.inputs + k)) place ≡ None → Live rows (c.inputs + k) →
      LivePath c rows i (slice_index (gate_at c k).pins place) lo hi →
      LivePath c rows i (c.inputs + k) (lo + (gate_at c k).least) (hi + (gate_at c k).greatest)

-- no live path leads from input i to net n
abbrev pub NoPath : PlainCircuit → List Row → ℕ → ℕ → Type 0
NoPath c rows i n = (lo hi : ℕ) → LivePath c rows i n lo hi → ⊥

-- these bounds are the least and the greatest delay sum over all live paths from input i to net n
pub record Tight (c : PlainCircuit) (rows : List Row) (i n : ℕ) (b : Bounds) : Type 0 where
  pub lowest : (hi : ℕ) × LivePath c rows i n b.lo hi
  pub highest : (lo : ℕ) × LivePath c rows i n lo b.hi
  pub between : (lo hi : ℕ) → LivePath c rows i n lo hi → (b.lo ≤ lo) × (hi ≤ b.hi)

-- the bounds from input i in the row of net n are tight, and there are none exactly if there is no live path
pub record TightBounds (c : PlainCircuit) (rows : List Row) (i n : ℕ) : Type 0 where
  pub given : (b : Bounds) → bounds_from (row_at rows n) i ≡ Some b → Tight c rows i n b
  pub absent : bounds_from (row_at rows n) i ≡ None → NoPath c rows i n
