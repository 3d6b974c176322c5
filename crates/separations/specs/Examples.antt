-- Worked examples of the definitions. Assumes nothing.
use Rattle.std.specs.Prelude.{◌≡◌, true, List, [], pos, negsuc}
use Rattle.separations.specs.declared.fault.SeparationFault.TheVariants as fault
use Rattle.separations.specs.Separations.{Separation, with_larger}
use Rattle.separations.specs.Answer.{Accepted, Refused}
use Rattle.separations.specs.Fault.{told}

-- (0, 1, 5) alone is held
abbrev pub only_five : List Separation
only_five = with_larger 0 1 (pos 5) []

-- then (1, 0, -5) is accepted and held beside it, and (1, 0, -4) is refused as contradictory, by number 14
abbrev pub SeparationExamples : Type 0
SeparationExamples =
    Accepted true only_five 1 0 (negsuc 4) (with_larger 1 0 (negsuc 4) only_five)
    × Refused true only_five 1 0 (negsuc 3) fault.Contradictory
    × ((told fault.Contradictory).number ≡ 14)
