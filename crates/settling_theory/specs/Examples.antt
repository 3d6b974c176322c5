-- Twelve worked examples, computed by the definitions themselves: eight gates, two separations, two settlings. Assumes nothing.
use Rattle.std.specs.Prelude.{◌≡◌, ℕ, true, List, [], ◌∷◌, Some, None}
use Rattle.functions.specs.declared.function.Function.TheVariants.{Not, Buf, And}
use Rattle.classes.specs.declared.class.Class.{Class}
use Rattle.classes.specs.declared.class.Class.TheVariants.{C000, C0R1, C0X0}
use Rattle.waveform.specs.Examples.{GateExamples}
use Rattle.netlist.specs.Circuit.{PlainCircuit}
use Rattle.runs.specs.declared.row.Row.{Row}
use Rattle.runs.specs.Row.{bounds_from, row_at}
use Rattle.separations.specs.Examples.{SeparationExamples}
use Rattle.ordering.specs.Source.{Says}
use Rattle.ordering.specs.Spaced.{spaced}
use Rattle.ordering.specs.Chain.{chained}
use Rattle.ordering.specs.Stem.{stemmed}
use Rattle.settling_theory.specs.Settled.{settled}

-- two inputs; net 2 is NOT of input 0 after 1 to 2 ticks, net 3 is BUF of input 0 after `least` to 6 ticks, net 4 is AND of both after 1 tick
abbrev pub forked : ℕ → PlainCircuit
forked least = record {
  inputs = 2;
  gates =
      record { function = Not; least = 1; greatest = 2; pins = 0 ∷ [] }
      ∷ record { function = Buf; least = least; greatest = 6; pins = 0 ∷ [] }
      ∷ record { function = And; least = 1; greatest = 1; pins = 2 ∷ 3 ∷ [] }
      ∷ [];
}

-- input 0 rises once, input 1 stays at 0
abbrev pub one_rise : List Class
one_rise = C0R1 ∷ C000 ∷ []

-- what a stem layer over a chain layer over the spaced source says
abbrev pub piled : Says
piled = stemmed (chained spaced)

-- the settled rows, with no separations held
abbrev pub forked_rows : ℕ → List Row
forked_rows least = settled (piled [] (forked least)) (forked least) one_rise

-- the settled row of net 4
abbrev pub row_of_and : ℕ → Row
row_of_and least = row_at (forked_rows least) 4

-- with net 3 at least 4 ticks late the NOT is done before the BUF begins, so the AND stays at 0;
-- with 2 ticks it may flip, 2 to 7 ticks after input 0
abbrev pub SettlingExamples : Type 0
SettlingExamples =
    (piled [] (forked 4) (forked_rows 4) 2 3 ≡ true)
    × ((row_of_and 4).class ≡ C000)
    × (bounds_from (row_of_and 4) 0 ≡ None)
    × ((row_of_and 2).class ≡ C0X0)
    × (bounds_from (row_of_and 2) 0 ≡ Some (record { lo = 2; hi = 7 }))

-- all twelve
abbrev pub TwelveExamples : Type 0
TwelveExamples = GateExamples × SeparationExamples × SettlingExamples
