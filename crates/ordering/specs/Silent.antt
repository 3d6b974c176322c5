-- What the silent source says. Assumes nothing.
use Rattle.std.specs.Prelude.{false}
use Rattle.ordering.specs.Source.{Says}

-- never yes
abbrev pub silent : Says
silent seps c rows q p = false
