-- Delays do not change classes. Assumes nothing.
use Rattle.std.specs.Prelude.{ℕ}
use Rattle.signals.specs.Waveform.{Waveform, later}
use Rattle.classes.specs.declared.class.Class.{Class}
use Rattle.classes.specs.Class.{In}

-- a waveform lies in a class exactly if it does with every flip moved later
abbrev pub ClassesIgnoreDelay : Type 0
ClassesIgnoreDelay = (c : Class) (d : ℕ) (w : Waveform) → (In c w → In c (later d w)) × (In c (later d w) → In c w)
