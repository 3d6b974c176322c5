-- The list that the separations of the program hold. Assumes nothing.
use Rattle.std.specs.Prelude.{List}
use Rattle.separations.specs.Separations.{Separation, held}
use Rattle.separations.specs.declared.table.Separations.{Separations}

-- the separations that are held, by rising first input, then by rising second input
abbrev pub held_by : Separations → List Separation
held_by x = held x.spacings.rows
