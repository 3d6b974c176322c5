-- What it means that a value holds all that a gate can give, and that it is the narrowest such value. Assumes nothing.
use Rattle.std.specs.Prelude.{Bool, List, [], ◌∷◌}
use Rattle.signals.specs.Waveform.{Waveform}
use Rattle.signals.specs.GateRule.{Pointwise}

-- each pin's waveform is one that its value stands for; pins are independent, even two that are one net
abbrev pub Members : {V : Type 0} → (V → Waveform → Type 0) → List V → List Waveform → Type 0
Members stands [] [] = Unit {0}
Members stands [] (w ∷ ws) = ⊥
Members stands (x ∷ xs) [] = ⊥
Members stands (x ∷ xs) (w ∷ ws) = stands x w × Members stands xs ws

-- the value contains every output of the function, without delay, for all waveforms that the pins stand for
abbrev pub Contains : {V : Type 0} → (V → Waveform → Type 0) → (List Bool → Bool) → List V → V → Type 0
Contains stands truth pins v =
    (ws : List Waveform) → Members stands pins ws → (out : Waveform) → Pointwise truth ws out → stands v out

-- the value contains every output, and lies within each value that does
pub record Narrowest {V : Type 0} (stands : V → Waveform → Type 0) (truth : List Bool → Bool) (pins : List V) (v : V) : Type 0 where
  pub contains : Contains stands truth pins v
  pub least : (u : V) → Contains stands truth pins u → (w : Waveform) → stands v w → stands u w

-- the one value stands for some, not all, of the waveforms that the other stands for
abbrev pub Narrower : {V : Type 0} → (V → Waveform → Type 0) → V → V → Type 0
Narrower stands u v = ((w : Waveform) → stands u w → stands v w) × (((w : Waveform) → stands v w → stands u w) → ⊥)
