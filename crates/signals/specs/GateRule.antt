-- The gate rule: which waveform a gate makes of the waveforms at its pins. Assumes nothing.
use Rattle.std.specs.Prelude.{◌≡◌, ℕ, Bool, List, map}
use Rattle.signals.specs.Waveform.{Waveform, Rising, at, later}

-- the first values of the pins, in order
abbrev pub firsts : List Waveform → List Bool
firsts pins = map (λ w. w.first) pins

-- the values of the pins at one tick, in order; all pins are sampled together
abbrev pub sampled : ℕ → List Waveform → List Bool
sampled t pins = map (λ w. at w t) pins

-- the output without delay of a function of Booleans: its first value is that of the pins' first values,
-- its value at each tick that of the pins at that tick
pub record Pointwise (f : List Bool → Bool) (pins : List Waveform) (out : Waveform) : Type 0 where
  pub rises : Rising out
  pub starts : out.first ≡ f (firsts pins)
  pub follows : (t : ℕ) → at out t ≡ f (sampled t pins)

-- the output of a gate: the output without delay, every flip moved later by the gate's delay
pub record GateRule (f : List Bool → Bool) (pins : List Waveform) (delay : ℕ) (out : Waveform) : Type 0 where
  pub undelayed : Waveform
  pub pointwise : Pointwise f pins undelayed
  pub delayed : out ≡ later delay undelayed
