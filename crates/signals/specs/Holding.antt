-- Pins of a gate held at a constant, and what makes that harmless. Assumes nothing.
use Rattle.std.specs.Prelude.{◌≡◌, ℕ, ◌<◌, Bool, false, ◌≢◌, ◌⊎◌, List, [], ◌∷◌, length, Some, None, Option, slice_index_or}
use Rattle.signals.specs.Waveform.{Waveform, FlipsAt, final, constant}
use Rattle.signals.specs.GateRule.{Pointwise}

-- every flip of the one comes strictly before every flip of the other
abbrev pub Before : Waveform → Waveform → Type 0
Before w v = (t u : ℕ) → FlipsAt w t → FlipsAt v u → t < u

-- the value is among these
abbrev pub Among : Bool → List Bool → Type 0
Among c [] = ⊥
Among c (b ∷ bs) = (b ≡ c) ⊎ Among c bs

-- the control value at one pin fixes the output, whatever the others are
abbrev pub Controlled : (List Bool → Bool) → Bool → Type 0
Controlled f cv = (bs cs : List Bool) → Among cv bs → Among cv cs → f bs ≡ f cs

-- the waveform at pin place k
abbrev pub pin_at : List Waveform → ℕ → Waveform
pin_at ws k = slice_index_or ws k (constant false)

-- the value at which pin place k is held, if it is; places past the list of holds are not held
abbrev pub hold_at : List (Option Bool) → ℕ → Option Bool
hold_at hs k = slice_index_or hs k None

-- one pin, constant at the value at which it is held, or as it is
abbrev pub held_pin : Option Bool → Waveform → Waveform
held_pin None w = w
held_pin (Some b) w = constant b

-- the pins with each held one replaced by a constant
abbrev pub with_held : List (Option Bool) → List Waveform → List Waveform
with_held [] ws = ws
with_held (h ∷ hs) [] = []
with_held (h ∷ hs) (w ∷ ws) = held_pin h w ∷ with_held hs ws

-- pin place k may be held at its first value: another pin place ends at control, and all its flips come before those of k
pub record HeldAtStart (cv : Bool) (ws : List Waveform) (k : ℕ) (b : Bool) : Type 0 where
  pub value : b ≡ (pin_at ws k).first
  pub holder : ℕ
  pub within : holder < length ws
  pub other : holder ≢ k
  pub ends : final (pin_at ws holder) ≡ cv
  pub before : Before (pin_at ws holder) (pin_at ws k)

-- pin place k may be held at its final value: another pin place starts at control, and all its flips come after those of k
pub record HeldAtEnd (cv : Bool) (ws : List Waveform) (k : ℕ) (b : Bool) : Type 0 where
  pub value : b ≡ final (pin_at ws k)
  pub holder : ℕ
  pub within : holder < length ws
  pub other : holder ≢ k
  pub starts : (pin_at ws holder).first ≡ cv
  pub after : Before (pin_at ws k) (pin_at ws holder)

-- pin place k may be held at b
abbrev pub HeldAt : Bool → List Waveform → ℕ → Bool → Type 0
HeldAt cv ws k b = HeldAtStart cv ws k b ⊎ HeldAtEnd cv ws k b

-- every held pin place may be held at its value
abbrev pub AllHeld : Bool → List Waveform → List (Option Bool) → Type 0
AllHeld cv ws hs = (k : ℕ) (b : Bool) → k < length ws → hold_at hs k ≡ Some b → HeldAt cv ws k b

-- with the held pins at their constants the gate has the same output
abbrev pub HoldingIsHarmless : Type 0
HoldingIsHarmless =
    (f : List Bool → Bool) (cv : Bool) (ws : List Waveform) (hs : List (Option Bool)) (out : Waveform) →
    Controlled f cv → AllHeld cv ws hs → Pointwise f ws out → Pointwise f (with_held hs ws) out

-- every flip of the output without delay is a flip, at that tick, of some pin place that is not held
abbrev pub FlipsFromUnheld : Type 0
FlipsFromUnheld =
    (f : List Bool → Bool) (cv : Bool) (ws : List Waveform) (hs : List (Option Bool)) (out : Waveform) →
    Controlled f cv → AllHeld cv ws hs → Pointwise f ws out →
    (t : ℕ) → FlipsAt out t → (k : ℕ) × (k < length ws) × (hold_at hs k ≡ None) × FlipsAt (pin_at ws k) t
