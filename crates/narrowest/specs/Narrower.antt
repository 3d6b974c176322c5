-- That of classes the narrower ones are just those that hold some, not all, of the waveforms. Assumes nothing.
use Rattle.classes.specs.declared.class.Class.{Class}
use Rattle.classes.specs.Class.{In}
use Rattle.classes.specs.Class as class
use Rattle.waveform.specs.Narrowest.{Narrower}

-- one class is narrower than another by what the two stand for exactly if it is by the definition of classes
abbrev pub NarrowerClasses : Type 0
NarrowerClasses = (c d : Class) → (class.Narrower c d → Narrower In c d) × (Narrower In c d → class.Narrower c d)
