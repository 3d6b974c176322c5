-- Holding a pin at one of its letters: start and end as one rule. Assumes nothing.
use Rattle.std.specs.Prelude.{ℕ, Bool, List, Option}
use Rattle.netlist.specs.Circuit.{PlainGate}
use Rattle.runs.specs.declared.row.Row.{Row}
use Rattle.runs.specs.Row.{row_at}
use Rattle.settling_theory.specs.Settled.{Asks, ends_before, held_where, pin_net, starts_after}
use Rattle.settling.specs.declared.letter.Hold.{Hold}
use Rattle.settling.specs.declared.letter.Letter.{Letter}
use Rattle.settling.specs.declared.letter.Letter.TheVariants.{Start, End}
use Rattle.settling.specs.Resting.{letter_of}

-- place q may hold place p at this letter: for the start it ends at control and is before p, for the end it starts at control and p is before it
abbrev pub may_hold_at : Letter → Asks → List Row → PlainGate → Bool → ℕ → ℕ → Bool
may_hold_at Start = ends_before
may_hold_at End = starts_after

-- the same at the letter and the control value of a hold
abbrev pub may_hold : Asks → List Row → PlainGate → Hold → ℕ → ℕ → Bool
may_hold asks rows g hold p q = may_hold_at hold.letter asks rows g hold.control p q

-- the value at which place p is held at the letter: what its own letter fixes, if another place may hold it
abbrev pub held_there : Asks → List Row → PlainGate → Hold → ℕ → Option Bool
held_there asks rows g hold p = held_where (may_hold asks rows g hold p) (letter_of hold.letter (row_at rows (pin_net g p)).class) g p
