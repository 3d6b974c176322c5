-- The gate at a place of the program's circuit is that of the plain circuit.
use Rattle.std.proofs.Common.{arith}
use Rattle.netlist.specs.View.{plain}
use Rattle.runs.proofs.Circuits.{gate_read}
use Rattle.runs.proofs.gate.gate_of.Goals as goal

pub returns : goal.returns
returns c =
    gate_read (plain c.args.circuit.now) c.args.circuit.now.valid c.gates.result.now c.args.net c.in_ok-place.place c.gates.ensures
    (omega (arith, c.in_ok-place.ensures.0, c.from.ensures, c.from-2.ensures, c.inputs.ensures)) (omega (arith, c.in_ok-place.ensures.1, c.from.ensures, c.from-2.ensures, c.inputs.ensures))
    c.get.result c.get.ensures.lookup
