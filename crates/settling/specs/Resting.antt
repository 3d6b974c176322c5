-- Rest of one net: the letter that is asked for, and none for a number that is no net. Assumes nothing.
use Rattle.std.specs.Prelude.{ℕ, cond, List, Some, None, Option, nat_lt, slice_index_or}
use Rattle.classes.specs.declared.three.Three.{Three}
use Rattle.classes.specs.declared.class.Class.{Class}
use Rattle.classes.specs.declared.class.Class.TheVariants.{C000}
use Rattle.classes.specs.Class.{described}
use Rattle.netlist.specs.Circuit.{PlainCircuit, net_count}
use Rattle.settling_theory.specs.Rest.{rest}
use Rattle.settling.specs.declared.letter.Letter.{Letter}
use Rattle.settling.specs.declared.letter.Letter.TheVariants.{Start, End}

-- the start or the end letter of a class
abbrev pub letter_of : Letter → Class → Three
letter_of Start c = (described c).start
letter_of End c = (described c).finish

-- that letter of each input
abbrev pub input_letter : Letter → List Class → ℕ → Three
input_letter letter classes i = letter_of letter (slice_index_or classes i C000)

-- rest of a net, or none for a number that is no net
abbrev pub rest_of : PlainCircuit → List Class → ℕ → Option (Three × Three)
rest_of c classes n = cond (nat_lt n (net_count c)) (Some (rest c classes n)) None
