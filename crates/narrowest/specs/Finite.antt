-- Tests over all Booleans, all three values and all classes, and what a passed test says of each. Assumes nothing.
use mathlib.Core.Path.{◌≡◌, refl}
use mathlib.Core.Bool.{Bool, true, false, ◌&&◌}
use lib.Dec.{T}
use Rattle.std.proofs.Math.Facts.{and_yes, yes_and}
use Rattle.signals.proofs.Waveforms.{same_bool}
use Rattle.classes.specs.declared.three.Three.{Three}
use Rattle.classes.specs.declared.three.Three.TheVariants.{Zero, One, Unknown}
use Rattle.classes.specs.declared.class.Class.{Class}
use Rattle.waveform.specs.Classes.{classes, every}
use Rattle.waveform.specs.ClassSound.{gives}

-- a test that passes wherever the first does
pub gives_from : (a b : Bool) → (T a → T b) → T (gives a b)
gives_from true b h = h tt
gives_from false b h = tt

-- the same Boolean
pub same_is : (a b : Bool) → T (same_bool a b) → a ≡ b
same_is true true h = refl
same_is true false h = absurd h
same_is false true h = absurd h
same_is false false h = refl

-- a test at both Booleans
abbrev pub at_booleans : (Bool → Bool) → Bool
at_booleans p = p false && p true

pub at_boolean : (p : Bool → Bool) → T (at_booleans p) → (b : Bool) → T (p b)
at_boolean p h true = (and_yes (p false) (p true) h).1
at_boolean p h false = (and_yes (p false) (p true) h).0

pub at_booleans_lem : (p : Bool → Bool) → ((b : Bool) → T (p b)) → T (at_booleans p)
at_booleans_lem p h = yes_and (p false) (p true) (h false) (h true)

-- a test at one Boolean at least; the second is tried only where the first fails
abbrev pub at_some : (Bool → Bool) → Bool
at_some p = elim (p false) [ true ↦ true | false ↦ p true ]

pub at_some_lem : (p : Bool → Bool) → T (at_some p) → (b : Bool) × T (p b)
at_some_lem p h = go (p false) (λ t. t) h
  where
    go : (q : Bool) → (T q → T (p false)) → T (elim q [ true ↦ true | false ↦ p true ]) → (b : Bool) × T (p b)
    go true here t = (false, here tt)
    go false here t = (true, t)

-- a test at all three values
abbrev pub at_values : (Three → Bool) → Bool
at_values p = p Zero && (p One && p Unknown)

pub at_value : (p : Three → Bool) → T (at_values p) → (x : Three) → T (p x)
at_value p h Zero = (and_yes (p Zero) _ h).0
at_value p h One = (and_yes (p One) _ (and_yes (p Zero) _ h).1).0
at_value p h Unknown = (and_yes (p One) _ (and_yes (p Zero) _ h).1).1

-- a test at all thirteen classes, read by `for_each`
abbrev pub at_classes : (Class → Bool) → Bool
at_classes p = every p classes
