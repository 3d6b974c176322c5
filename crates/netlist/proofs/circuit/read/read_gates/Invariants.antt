-- The gates taken so far are those of the bytes up to the place of the reader.
use Rattle.std.proofs.Common.{◌≡◌, ◌+◌, vec_items, vec_len}
use Rattle.netlist.specs.Plain.{plain_gates}
use Rattle.netlist.specs.Step.{GatesTaken}
use Rattle.netlist.proofs.circuit.read.read_gates.Given as goal

abbrev pub invariant-loop-own : goal.invariant-loop-own
invariant-loop-own l = record {
  same : l.reader.bytes.now ≡ l.initial.reader.bytes.now;
  count : l.own ≡ l.fn.head.inputs + vec_len l.gates;
  taken : GatesTaken l.initial.reader.bytes.now l.initial.reader.at l.fn.head.inputs (plain_gates (vec_items l.gates)) l.reader.at;
}
