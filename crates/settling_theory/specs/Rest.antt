-- Rest: the start value and the end value of each net, by three-valued evaluation and without settling. Assumes nothing.
use Rattle.std.specs.Prelude.{ℕ, zero, suc, ◌-◌, cond, List, [], ◌∷◌, ◌++◌, map, nat_lt, slice_index_or}
use Rattle.classes.specs.declared.three.Three.{Three}
use Rattle.classes.specs.declared.three.Three.TheVariants.{Unknown}
use Rattle.classes.specs.declared.class.Class.{Class}
use Rattle.classes.specs.declared.class.Class.TheVariants.{C000}
use Rattle.classes.specs.Class.{described}
use Rattle.waveform.specs.Algebra.{evaluated}
use Rattle.waveform.specs.Ops.{three_ops}
use Rattle.netlist.specs.Circuit.{PlainCircuit, PlainGate, net_count}
use Rattle.runs.specs.Run.{gate_at}

-- the value of a net among values worked out so far
abbrev pub value_at : List Three → ℕ → Three
value_at values n = slice_index_or values n Unknown

-- the value of a gate's net from the values of lower nets
abbrev pub gate_value : List Three → PlainGate → Three
gate_value values g = evaluated three_ops g.function (map (value_at values) g.pins)

-- the value of net n from the values of the inputs and of the nets below it
abbrev pub value_for : (ℕ → Three) → PlainCircuit → List Three → ℕ → Three
value_for inputs c values n = cond (nat_lt n c.inputs) (inputs n) (gate_value values (gate_at c (n - c.inputs)))

-- the values of the first nets, from the values of the inputs
abbrev pub values_to : (ℕ → Three) → PlainCircuit → ℕ → List Three
values_to inputs c zero = []
values_to inputs c (suc n) =
    values_to inputs c n ++ cond (nat_lt n c.inputs) (inputs n) (evaluated three_ops (gate_at c (n - c.inputs)).function (map (value_at (values_to inputs c n)) (gate_at c (n - c.inputs)).pins)) ∷ []

-- the start values of all nets: the starts of the input classes, through the gates
abbrev pub start_values : PlainCircuit → List Class → List Three
start_values c classes = values_to (λ i. (described (slice_index_or classes i C000)).start) c (net_count c)

-- the end values of all nets
abbrev pub end_values : PlainCircuit → List Class → List Three
end_values c classes = values_to (λ i. (described (slice_index_or classes i C000)).finish) c (net_count c)

-- rest of a net: its start value and its end value
abbrev pub rest : PlainCircuit → List Class → ℕ → Three × Three
rest c classes n = (value_at (start_values c classes) n, value_at (end_values c classes) n)
