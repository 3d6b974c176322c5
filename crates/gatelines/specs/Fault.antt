-- What is printed of a line's fault. Assumes nothing.
use Rattle.std.specs.Prelude.{ℕ, List, codes}
use Rattle.gatelines.specs.declared.fault.LineFault.{LineFault}
use Rattle.gatelines.specs.declared.fault.LineFault.TheVariants.{UnknownFunction, UnknownClass, TooFewPins, TooManyPins}

-- the words for each fault
abbrev pub fault_text : LineFault → List ℕ
fault_text UnknownFunction = codes "unknown function"
fault_text UnknownClass = codes "unknown class"
fault_text TooFewPins = codes "too few pins"
fault_text TooManyPins = codes "too many pins"
