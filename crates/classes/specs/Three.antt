-- The three values 0, 1 and X, which are also the letters of a class's start and end. Assumes nothing.
use Rattle.std.specs.Prelude.{◌≡◌, ℕ, Bool, true, not, T, []}
use Rattle.signals.specs.Waveform.{Waveform}
use Rattle.classes.specs.declared.three.Three.{Three}
use Rattle.classes.specs.declared.three.Three.TheVariants.{Zero, One, Unknown}

-- what a three-valued value is: its number, its letter's character, and which Boolean values it allows
pub record Description : Type 0 where
  pub number : ℕ
  pub letter : ℕ
  pub allows : Bool → Bool

abbrev pub described : Three → Description
described Zero = record { number = 0; letter = 48; allows = not }
described One = record { number = 1; letter = 49; allows = λ b. b }
described Unknown = record { number = 2; letter = 88; allows = λ b. true }

-- a value stands for the constant waveforms whose value it allows
pub record Stands (v : Three) (w : Waveform) : Type 0 where
  pub still : w.flips ≡ []
  pub allowed : T ((described v).allows w.first)
