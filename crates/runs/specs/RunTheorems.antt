-- What holds of every run. Each statement stands in the contract of a public function. Assumes nothing.
use Rattle.std.specs.Prelude.{◌≡◌, ℕ, ◌<◌, ◌≤◌, false, T, List, length, take, slice_index, slice_index_or}
use Rattle.signals.specs.Waveform.{Waveform, Rising, constant}
use Rattle.netlist.specs.Circuit.{PlainCircuit, valid_circuit, net_count}
use Rattle.runs.specs.Run.{Run, RunOf, wave, gate_at}

-- one delay for each gate, within the gate's bounds
pub record DelaysWithin (c : PlainCircuit) (delays : List ℕ) : Type 0 where
  pub count : length delays ≡ length c.gates
  pub within : (k : ℕ) → k < length c.gates → ((gate_at c k).least ≤ slice_index delays k) × (slice_index delays k ≤ (gate_at c k).greatest)

-- one waveform for each input, each of them rising
pub record InputsRise (c : PlainCircuit) (ins : List Waveform) : Type 0 where
  pub count : length ins ≡ c.inputs
  pub rise : (i : ℕ) → i < c.inputs → Rising (slice_index_or ins i (constant false))

-- a run of the circuit with these delays and these waveforms at its inputs
pub record RunWith (c : PlainCircuit) (delays : List ℕ) (ins : List Waveform) (run : Run) : Type 0 where
  pub of : RunOf c run
  pub delayed : run.delays ≡ delays
  pub driven : take c.inputs run.waves ≡ ins

-- for given delays and input waveforms a valid circuit has a run, and just one
abbrev pub RunExists : Type 0
RunExists =
    (c : PlainCircuit) → T (valid_circuit c) → (delays : List ℕ) → DelaysWithin c delays → (ins : List Waveform) → InputsRise c ins →
    (run : Run) × RunWith c delays ins run × ((other : Run) → RunWith c delays ins other → other ≡ run)

-- every valid circuit has a run for given input waveforms: the least delays are always within bounds
abbrev pub RunForInputs : Type 0
RunForInputs =
    (c : PlainCircuit) → T (valid_circuit c) → (ws : ℕ → Waveform) → ((i : ℕ) → i < c.inputs → Rising (ws i)) →
    (run : Run) × RunOf c run × ((i : ℕ) → i < c.inputs → wave run i ≡ ws i)

-- the waveform of every net of a run rises
abbrev pub WavesRise : Type 0
WavesRise = (c : PlainCircuit) (run : Run) → RunOf c run → (n : ℕ) → n < net_count c → Rising (wave run n)
