-- The circuits of the program as plain values. Assumes nothing.
use Rattle.std.specs.Prelude.{vec_items}
use Rattle.netlist.specs.declared.circuit.Circuit.{Circuit}
use Rattle.netlist.specs.Circuit.{PlainCircuit}
use Rattle.netlist.specs.Plain.{plain_gates}

-- a circuit of the program, as a plain value
abbrev pub plain : Circuit → PlainCircuit
plain c = record { inputs = c.inputs; gates = plain_gates (vec_items c.gates) }
