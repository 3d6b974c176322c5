-- Waveforms: what a wire does over time, as a first value and the ticks at which it flips. Assumes nothing.
use Rattle.std.specs.Prelude.{ℕ, ◌+◌, Bool, true, false, cond, not, ◌&&◌, ◌||◌, T, List, [], ◌∷◌, map, ◌==◌, nat_le}

-- the value before any flip, then a flip at each of these ticks
pub record Waveform : Type 0 where
  pub first : Bool
  pub flips : List ℕ

-- the ticks rise strictly, and none lies before `low`
abbrev pub rising_from : ℕ → List ℕ → Bool
rising_from low [] = true
rising_from low (t ∷ ts) = nat_le low t && rising_from (t + 1) ts

-- the flips rise strictly; every rule about waveforms asks this of them
abbrev pub Rising : Waveform → Type 0
Rising w = T (rising_from 0 w.flips)

-- a value, inverted once for each of these flips that lies at or before tick t
abbrev pub flipped_by : ℕ → Bool → List ℕ → Bool
flipped_by t b [] = b
flipped_by t b (f ∷ fs) = cond (nat_le f t) (flipped_by t (not b) fs) (flipped_by t b fs)

-- the value at a tick: a flip's new value is seen from its tick on
abbrev pub at : Waveform → ℕ → Bool
at w t = flipped_by t w.first w.flips

-- a value, inverted once for each of these flips
abbrev pub flipped_by_all : Bool → List ℕ → Bool
flipped_by_all b [] = b
flipped_by_all b (f ∷ fs) = flipped_by_all (not b) fs

-- the value after the last flip
abbrev pub final : Waveform → Bool
final w = flipped_by_all w.first w.flips

-- the tick is among these
abbrev pub has : ℕ → List ℕ → Bool
has t [] = false
has t (f ∷ fs) = f == t || has t fs

-- the waveform flips at this tick
abbrev pub FlipsAt : Waveform → ℕ → Type 0
FlipsAt w t = T (has t w.flips)

-- a waveform that never flips
abbrev pub constant : Bool → Waveform
constant b = record { first = b; flips = [] }

-- the waveform with every flip moved later by d ticks
abbrev pub later : ℕ → Waveform → Waveform
later d w = record { first = w.first; flips = map (λ t. t + d) w.flips }
