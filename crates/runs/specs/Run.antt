-- Runs: one delay for each gate, one waveform for each net, obeying the gate rule. Assumes nothing.
use Rattle.std.specs.Prelude.{◌≡◌, ℕ, ◌+◌, ◌<◌, ◌≤◌, false, cond, List, [], map, length, ℤ, pos, ◌+ℤ◌, ◌≤ℤ◌, nat_lt, slice_index, slice_index_or}
use Rattle.signals.specs.Waveform.{Waveform, Rising, FlipsAt, constant}
use Rattle.signals.specs.GateRule.{GateRule}
pub use Rattle.signals.specs.Holding.{Before}
use Rattle.classes.specs.declared.class.Class.{Class}
use Rattle.classes.specs.declared.class.Class.TheVariants.{C000}
use Rattle.functions.specs.declared.function.Function.TheVariants.{Buf}
use Rattle.classes.specs.Class.{In}
use Rattle.functions.specs.Function.{described}
use Rattle.netlist.specs.Circuit.{PlainGate, PlainCircuit, net_count}

-- what happens in a run: the delay of each gate and the waveform of each net, inputs first
pub record Run : Type 0 where
  pub delays : List ℕ
  pub waves : List Waveform

-- the waveform of a net
abbrev pub wave : Run → ℕ → Waveform
wave run n = slice_index_or run.waves n (constant false)

-- the waveform of an input; a number that is no input of the circuit never flips
abbrev pub input_wave : PlainCircuit → Run → ℕ → Waveform
input_wave c run i = cond (nat_lt i c.inputs) (wave run i) (constant false)

-- the gate at this place among the gates
abbrev pub gate_at : PlainCircuit → ℕ → PlainGate
gate_at c k = slice_index_or c.gates k (record { function = Buf; least = 0; greatest = 0; pins = [] })

-- a run of the circuit: every delay lies within its gate's bounds, and every gate obeys the gate rule
pub record RunOf (c : PlainCircuit) (run : Run) : Type 0 where
  pub delay_count : length run.delays ≡ length c.gates
  pub wave_count : length run.waves ≡ net_count c
  pub inputs_rise : (i : ℕ) → i < c.inputs → Rising (wave run i)
  pub within : (k : ℕ) → k < length c.gates → ((gate_at c k).least ≤ slice_index run.delays k) × (slice_index run.delays k ≤ (gate_at c k).greatest)
  pub obeys : (k : ℕ) → k < length c.gates →
      GateRule (described (gate_at c k).function).truth (map (wave run) (gate_at c k).pins) (slice_index run.delays k) (wave run (c.inputs + k))

-- each input's waveform lies in its class; an input that the list does not reach is constant 0
abbrev pub InClasses : PlainCircuit → List Class → Run → Type 0
InClasses c classes run = (i : ℕ) → i < c.inputs → In (slice_index_or classes i C000) (wave run i)

-- every flip of v comes at least s ticks after every flip of w
abbrev pub Separated : Waveform → Waveform → ℤ → Type 0
Separated w v s = (t u : ℕ) → FlipsAt w t → FlipsAt v u → (pos t +ℤ s) ≤ℤ pos u
