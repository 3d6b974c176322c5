-- How a refused separation is told. Assumes nothing.
use Rattle.refusals.specs.declared.refusal.Layer.TheVariants.{Bench, Source}
use Rattle.refusals.specs.declared.refusal.Refusal.{Refusal}
use Rattle.separations.specs.declared.fault.SeparationFault.{SeparationFault}
use Rattle.separations.specs.declared.fault.SeparationFault.TheVariants as fault

-- each fault's number, layer and place: the input's number where there is no such input, else 0
abbrev pub told : SeparationFault → Refusal
told (fault.NoSuchInput n) = record { number = 9; layer = Bench; place = n }
told fault.NotTaken = record { number = 12; layer = Source; place = 0 }
told fault.Malformed = record { number = 13; layer = Source; place = 0 }
told fault.Contradictory = record { number = 14; layer = Source; place = 0 }
