-- The tables as plain values: the circuit, the class of each input, the row of each net. Assumes nothing.
use Rattle.std.specs.Prelude.{ℕ, cond, List, replicate, Some, None, vec_items, Option, nat_lt, slice_index_or, slice_set}
use Rattle.classes.specs.declared.class.Class.{Class}
use Rattle.classes.specs.declared.class.Class.TheVariants.{C000, CXXX}
use Rattle.netlist.specs.Circuit.{PlainCircuit}
use Rattle.netlist.specs.View.{plain}
use Rattle.runs.specs.declared.row.Row.{Row}
use Rattle.settling.specs.declared.tables.Tables.{Tables}

-- the circuit
abbrev pub circuit_of : Tables → PlainCircuit
circuit_of t = plain t.circuit

-- the class of each input
abbrev pub classes_of : Tables → List Class
classes_of t = t.classes

-- the row of each net
abbrev pub rows_of : Tables → List Row
rows_of t = vec_items t.rows

-- the row of a net before the first settling: class XXX, no bounds, nothing held
abbrev pub plain_row : Row
plain_row = record { class = CXXX; bounds = replicate 16 None; held = replicate 8 None }

-- the class of an input, or none for a number that is no input
abbrev pub class_of_input : PlainCircuit → List Class → ℕ → Option Class
class_of_input c classes i = cond (nat_lt i c.inputs) (Some (slice_index_or classes i C000)) None

-- the classes after one input has been given a class; a number that is no input changes nothing
abbrev pub stimulated : PlainCircuit → List Class → ℕ → Class → List Class
stimulated c classes i class = cond (nat_lt i c.inputs) (slice_set classes i class) classes
