-- The layout of a circuit file: how a circuit is written out as bytes. Assumes nothing.
use Rattle.std.specs.Prelude.{ℕ, ◌/◌, ◌%◌, List, [], ◌∷◌, ◌++◌, length}
use Rattle.functions.specs.Function.{described}
use Rattle.netlist.specs.Circuit.{PlainGate, PlainCircuit}

-- a number in two bytes, the low one first
abbrev pub two_bytes : ℕ → List ℕ
two_bytes n = (n % 256) ∷ (n / 256) ∷ []

-- a record: the payload's length, the kind, the payload
abbrev pub record_bytes : ℕ → List ℕ → List ℕ
record_bytes kind payload = two_bytes (length payload) ++ (two_bytes kind ++ payload)

-- the head: a record of kind 1 with the input count and the gate count
abbrev pub head_bytes : ℕ → ℕ → List ℕ
head_bytes inputs gates = record_bytes 1 (inputs ∷ gates ∷ [])

-- a gate: a record of kind 2 with the function code, the least and the greatest delay, and the pins
abbrev pub gate_bytes : PlainGate → List ℕ
gate_bytes g = record_bytes 2 ((described g.function).code ∷ (two_bytes g.least ++ (two_bytes g.greatest ++ g.pins)))

-- gates one after the other
abbrev pub gates_bytes : List PlainGate → List ℕ
gates_bytes [] = []
gates_bytes (g ∷ gs) = gate_bytes g ++ gates_bytes gs

-- the circuit's bytes: its head, then its gates
abbrev pub layout : PlainCircuit → List ℕ
layout c = head_bytes c.inputs (length c.gates) ++ gates_bytes c.gates
