-- The gates of the program as plain values. Assumes nothing.
use Rattle.std.specs.Prelude.{List, map, vec_items}
use Rattle.netlist.specs.declared.gate.Gate.{Gate}
use Rattle.netlist.specs.Circuit.{PlainGate}

-- a gate of the program, as a plain value
abbrev pub plain_gate : Gate → PlainGate
plain_gate g = record { function = g.function; least = g.least; greatest = g.greatest; pins = vec_items g.pins }

abbrev pub plain_gates : List Gate → List PlainGate
plain_gates gs = map plain_gate gs
