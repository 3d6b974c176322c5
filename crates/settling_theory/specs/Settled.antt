-- The rows that settling gives: held pins, class and bounds of each net, worked out in rising order. Assumes nothing.
use Rattle.std.specs.Prelude.{ℕ, zero, suc, ◌-◌, Bool, true, false, cond, not, ◌&&◌, ◌||◌, List, [], ◌∷◌, ◌++◌, length, Some, None, Option, ◌==◌, nat_lt, slice_index, slice_index_or}
use Rattle.classes.specs.declared.three.Three.{Three}
use Rattle.classes.specs.declared.three.Three.TheVariants.{Zero, One, Unknown}
use Rattle.classes.specs.declared.class.Class.{Class}
use Rattle.classes.specs.declared.class.Class.TheVariants.{C000, C111}
use Rattle.classes.specs.Class as class
use Rattle.functions.specs.Function as function
use Rattle.waveform.specs.Algebra.{evaluated}
use Rattle.waveform.specs.Ops.{class_ops}
use Rattle.netlist.specs.Circuit.{PlainGate, PlainCircuit, net_count}
use Rattle.runs.specs.declared.row.Bounds.{Bounds}
use Rattle.runs.specs.declared.row.Row.{Row}
use Rattle.runs.specs.Run.{gate_at}
use Rattle.runs.specs.Row.{row_at}
use Rattle.runs.specs.Gathered.{from_place, gathered}

-- what a source answers over the rows that it is lent: does every flip of q come before every flip of p?
abbrev pub Asks : Type 0
Asks = List Row → ℕ → ℕ → Bool

-- the list of a function's values at the first places
abbrev pub listed : {X : Type 0} → (ℕ → X) → ℕ → List X
listed f zero = []
listed f (suc n) = listed f n ++ f n ∷ []

-- the start letter of a net's class, read off its row
abbrev pub start_of : List Row → ℕ → Three
start_of rows n = (class.described (row_at rows n).class).start

-- the end letter of a net's class
abbrev pub end_of : List Row → ℕ → Three
end_of rows n = (class.described (row_at rows n).class).finish

-- the value that a letter fixes, if it is 0 or 1
abbrev pub fixed_by : Three → Option Bool
fixed_by Zero = Some false
fixed_by One = Some true
fixed_by Unknown = None

-- the letter is this value
abbrev pub is_value : Three → Bool → Bool
is_value Zero v = not v
is_value One v = v
is_value Unknown v = false

-- the net at a pin place of a gate
abbrev pub pin_net : PlainGate → ℕ → ℕ
pin_net g place = slice_index g.pins place

-- some place other than p among the first m passes a test
abbrev pub some_other : (ℕ → Bool) → ℕ → ℕ → Bool
some_other passes p zero = false
some_other passes p (suc m) = some_other passes p m || (not (m == p) && passes m)

-- place q ends at control and is before place p
abbrev pub ends_before : Asks → List Row → PlainGate → Bool → ℕ → ℕ → Bool
ends_before asks rows g control p q = is_value (end_of rows (pin_net g q)) control && asks rows (pin_net g q) (pin_net g p)

-- place q starts at control and place p is before it
abbrev pub starts_after : Asks → List Row → PlainGate → Bool → ℕ → ℕ → Bool
starts_after asks rows g control p q = is_value (start_of rows (pin_net g q)) control && asks rows (pin_net g p) (pin_net g q)

-- this value where the test passes
abbrev pub when : Bool → Option Bool → Option Bool
when passes o = cond passes o None

-- the first of the two that is there
abbrev pub or_else : Option Bool → Option Bool → Option Bool
or_else None y = y
or_else (Some x) y = Some x

-- the value that a place's own letter fixes, if some other place of the gate passes a test
abbrev pub held_where : (ℕ → Bool) → Three → PlainGate → ℕ → Option Bool
held_where passes letter g p = when (some_other passes p (length g.pins)) (fixed_by letter)

-- the value at which a pin place is held at its start: another place that ends at control is before it
abbrev pub held_at_start : Asks → List Row → PlainGate → Bool → ℕ → Option Bool
held_at_start asks rows g control p =
    when (some_other (ends_before asks rows g control p) p (length g.pins)) (fixed_by (start_of rows (pin_net g p)))

-- the value at which a pin place is held at its end: it is before another place that starts at control
abbrev pub held_at_end : Asks → List Row → PlainGate → Bool → ℕ → Option Bool
held_at_end asks rows g control p =
    when (some_other (starts_after asks rows g control p) p (length g.pins)) (fixed_by (end_of rows (pin_net g p)))

-- held at its start, failing that at its end; a gate without a control value holds no pin
abbrev pub held_by : Asks → List Row → PlainGate → Option Bool → ℕ → Option Bool
held_by asks rows g None p = None
held_by asks rows g (Some control) p = or_else (held_at_start asks rows g control p) (held_at_end asks rows g control p)

-- the value at which one place is held; past the gate's pins none is
abbrev pub held_pin : Asks → List Row → PlainGate → ℕ → Option Bool
held_pin asks rows g p = cond (nat_lt p (length g.pins)) (held_by asks rows g (function.described g.function).control p) None

-- the value at which each of eight places is held
abbrev pub held_pins : Asks → List Row → PlainGate → List (Option Bool)
held_pins asks rows g = listed (held_pin asks rows g) 8

-- a held pin evaluates as that constant, any other as the class of its net
abbrev pub pin_class : Class → Option Bool → Class
pin_class c None = c
pin_class c (Some false) = C000
pin_class c (Some true) = C111

-- what a pin place evaluates as
abbrev pub class_at : List Row → PlainGate → List (Option Bool) → ℕ → Class
class_at rows g held place = pin_class (row_at rows (pin_net g place)).class (slice_index_or held place None)

-- what each pin evaluates as
abbrev pub pin_classes : List Row → PlainGate → List (Option Bool) → List Class
pin_classes rows g held = listed (λ place. pin_class (row_at rows (pin_net g place)).class (slice_index_or held place None)) (length g.pins)

-- the class of the gate's net
abbrev pub gate_class : List Row → PlainGate → List (Option Bool) → Class
gate_class rows g held = evaluated class_ops g.function (pin_classes rows g held)

-- a constant class has no bounds; else, over the pins not held, the least delay plus the smallest lo, the greatest plus the largest hi
abbrev pub gate_bounds : List Row → PlainGate → List (Option Bool) → Class → ℕ → Option Bounds
gate_bounds rows g held c i = cond (class.is_constant c) None (gathered (from_place rows i g held) (length g.pins))

-- the row of a gate's net, from the rows below it
abbrev pub gate_row : Asks → List Row → PlainGate → Row
gate_row asks rows g = record {
  class = gate_class rows g (held_pins asks rows g);
  bounds = listed (gate_bounds rows g (held_pins asks rows g) (gate_class rows g (held_pins asks rows g))) 16;
  held = held_pins asks rows g;
}

-- an input has its stimulus as class and, unless that is constant, bounds 0 to 0 from itself
abbrev pub input_bounds : Class → ℕ → ℕ → Option Bounds
input_bounds c n i = cond (not (class.is_constant c) && i == n) (Some (record { lo = 0; hi = 0 })) None

-- the row of an input
abbrev pub input_row : Class → ℕ → Row
input_row c n = record { class = c; bounds = listed (input_bounds c n) 16; held = listed (λ place. None) 8 }

-- the row of net n, given the rows of all lower nets
abbrev pub row_for : Asks → PlainCircuit → List Class → List Row → ℕ → Row
row_for asks c classes rows n =
    cond (nat_lt n c.inputs) (input_row (slice_index_or classes n C000) n) (gate_row asks rows (gate_at c (n - c.inputs)))

-- the rows of the first nets: each is worked out from the rows below it
abbrev pub settled_to : Asks → PlainCircuit → List Class → ℕ → List Row
settled_to asks c classes zero = []
settled_to asks c classes (suc n) = settled_to asks c classes n ++ row_for asks c classes (settled_to asks c classes n) n ∷ []

-- the rows of all nets
abbrev pub settled : Asks → PlainCircuit → List Class → List Row
settled asks c classes = settled_to asks c classes (net_count c)
