-- What holds of every waveform and every gate. Each statement stands in the contract of a public function. Assumes nothing.
use Rattle.std.specs.Prelude.{◌≡◌, ℕ, ◌<◌, Bool, false, List, length, slice_index_or}
use Rattle.signals.specs.Waveform.{Waveform, Rising, FlipsAt, at, constant}
use Rattle.signals.specs.GateRule.{Pointwise, GateRule}

-- the same first value and the same value at every tick: the same waveform
abbrev pub Determined : Type 0
Determined = (w v : Waveform) → Rising w → Rising v → w.first ≡ v.first → ((t : ℕ) → at w t ≡ at v t) → w ≡ v

-- for given pins and delay a gate has an output, and just one
abbrev pub OneOutput : Type 0
OneOutput =
    (f : List Bool → Bool) (pins : List Waveform) (delay : ℕ) →
    (out : Waveform) × GateRule f pins delay out × ((other : Waveform) → GateRule f pins delay other → other ≡ out)

-- every flip of the output without delay is a flip of some pin at that tick
abbrev pub FlipsFromPins : Type 0
FlipsFromPins =
    (f : List Bool → Bool) (pins : List Waveform) (out : Waveform) → Pointwise f pins out →
    (t : ℕ) → FlipsAt out t → (k : ℕ) × (k < length pins) × FlipsAt (slice_index_or pins k (constant false)) t
