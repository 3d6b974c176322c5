-- What a line says: its words name a gate function and the classes of its pins. Assumes nothing.
use Rattle.std.specs.Prelude.{◌≡◌, ℕ, ◌<◌, T, List, ◌∷◌, map, length, Ok, Err, Result, ◌≢◌}
use Rattle.classes.specs.declared.class.Class.{Class}
use Rattle.functions.specs.declared.function.Function.{Function}
use Rattle.classes.specs.Class.{letters}
use Rattle.functions.specs.Function as function
use Rattle.waveform.specs.Algebra.{evaluated}
use Rattle.waveform.specs.Ops.{class_ops}
use Rattle.words.specs.Words.{words}
use Rattle.gatelines.specs.declared.fault.LineFault.{LineFault}
use Rattle.gatelines.specs.declared.fault.LineFault.TheVariants.{UnknownFunction, UnknownClass, TooFewPins, TooManyPins}

-- the words are the letters of these classes
abbrev pub Classes : List (List ℕ) → List Class → Type 0
Classes ws cs = ws ≡ map letters cs

-- the line names this function, and these classes for its pins
abbrev pub Gate : List ℕ → Function → List Class → Type 0
Gate text f cs = words text ≡ ((function.described f).name ∷ map letters cs)

-- what the line says: the class of the gate's output, or what is wrong, of several things the first in this order
abbrev pub Says : List ℕ → Result Class LineFault → Type 0
Says text (Ok c) = (f : Function) × (cs : List Class) × Gate text f cs × T (function.takes_pins f (length cs)) × (c ≡ evaluated class_ops f cs)
Says text (Err UnknownFunction) = (f : Function) (ws : List (List ℕ)) → words text ≢ ((function.described f).name ∷ ws)
Says text (Err UnknownClass) =
    (f : Function) × (ws : List (List ℕ)) × (words text ≡ ((function.described f).name ∷ ws)) × ((cs : List Class) → Classes ws cs → ⊥)
Says text (Err TooFewPins) = (f : Function) × (cs : List Class) × Gate text f cs × (length cs < (function.described f).fewest)
Says text (Err TooManyPins) = (f : Function) × (cs : List Class) × Gate text f cs × ((function.described f).most < length cs)

-- why the words give no pins: some word is no class, or there are more than eight
abbrev pub NoPins : List (List ℕ) → LineFault → Type 0
NoPins ws UnknownClass = (cs : List Class) → Classes ws cs → ⊥
NoPins ws TooManyPins = (cs : List Class) × Classes ws cs × (8 < length cs)
NoPins ws UnknownFunction = ⊥
NoPins ws TooFewPins = ⊥
