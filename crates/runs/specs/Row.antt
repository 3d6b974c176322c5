-- Rows and what makes them true in a run. Assumes nothing.
use Rattle.std.specs.Prelude.{◌≡◌, ℕ, ◌+◌, ◌-◌, ◌<◌, ◌≤◌, Bool, List, [], length, Some, None, Option, slice_index, slice_index_or}
use Rattle.signals.specs.Waveform.{FlipsAt}
use Rattle.classes.specs.declared.class.Class.TheVariants.{CXXX}
use Rattle.classes.specs.Class.{In}
use Rattle.netlist.specs.Circuit.{PlainCircuit, net_count}
use Rattle.runs.specs.declared.row.Bounds.{Bounds}
use Rattle.runs.specs.declared.row.Row.{Row}
use Rattle.runs.specs.Run.{Run, wave, input_wave, gate_at}

-- the bounds from an input, or none
abbrev pub bounds_from : Row → ℕ → Option Bounds
bounds_from row i = slice_index_or row.bounds i None

-- the value at which a pin place is held, or none
abbrev pub held_at : Row → ℕ → Option Bool
held_at row k = slice_index_or row.held k None

-- a flip at tick t comes lo to hi ticks after a flip of some input that has bounds there
pub record Bounded (c : PlainCircuit) (run : Run) (row : Row) (t : ℕ) : Type 0 where
  pub input : ℕ
  pub bounds : Bounds
  pub cause : ℕ
  pub given : bounds_from row input ≡ Some bounds
  pub flips : FlipsAt (input_wave c run input) cause
  pub after : cause + bounds.lo ≤ t
  pub until : t ≤ cause + bounds.hi

-- a flip of gate k at tick t comes the gate's delay after a flip of a pin that is not held
pub record Caused (c : PlainCircuit) (run : Run) (row : Row) (k t : ℕ) : Type 0 where
  pub place : ℕ
  pub cause : ℕ
  pub exists : place < length (gate_at c k).pins
  pub unheld : held_at row place ≡ None
  pub flips : FlipsAt (wave run (slice_index (gate_at c k).pins place)) cause
  pub delayed : t ≡ cause + slice_index run.delays k

-- the row of net n is true in the run
pub record RowTrue (c : PlainCircuit) (run : Run) (n : ℕ) (row : Row) : Type 0 where
  pub class : In row.class (wave run n)
  pub bounded : (t : ℕ) → FlipsAt (wave run n) t → Bounded c run row t
  pub caused : c.inputs ≤ n → (t : ℕ) → FlipsAt (wave run n) t → Caused c run row (n - c.inputs) t

-- the row of a net; where there is none, a row of class XXX without bounds or held pins
abbrev pub row_at : List Row → ℕ → Row
row_at rows n = slice_index_or rows n (record { class = CXXX; bounds = []; held = [] })

-- a net has a row if it is a net of the circuit and the rows reach it
abbrev pub HasRow : PlainCircuit → List Row → ℕ → Type 0
HasRow c rows n = (n < net_count c) × (n < length rows)

-- every row of a net is true in the run; rows past the circuit's nets are not looked at
abbrev pub RowsTrue : PlainCircuit → List Row → Run → Type 0
RowsTrue c rows run = (n : ℕ) (d : Row) → HasRow c rows n → RowTrue c run n (slice_index_or rows n d)
