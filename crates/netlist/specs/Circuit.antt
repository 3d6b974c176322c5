-- Circuits as plain values, and which of them are valid. Assumes nothing.
use Rattle.std.specs.Prelude.{ℕ, ◌+◌, Bool, true, ◌&&◌, List, [], ◌∷◌, length, nat_le, nat_lt}
use Rattle.functions.specs.declared.function.Function.{Function}
use Rattle.functions.specs.Function.{takes_pins}

-- a gate: its function, its least and greatest delay in ticks, and the nets at its pins
pub record PlainGate : Type 0 where
  pub function : Function
  pub least : ℕ
  pub greatest : ℕ
  pub pins : List ℕ

-- a circuit: how many inputs, and the gates in order; nets are numbered from 0, inputs first and then gates
pub record PlainCircuit : Type 0 where
  pub inputs : ℕ
  pub gates : List PlainGate

-- every number of the list is below the limit
abbrev pub all_below : ℕ → List ℕ → Bool
all_below limit [] = true
all_below limit (n ∷ ns) = nat_lt n limit && all_below limit ns

-- a gate whose own net has this number is valid: as many pins as its function takes, each a lower net,
-- the least delay not above the greatest, and that one at most 65,535
abbrev pub valid_gate : ℕ → PlainGate → Bool
valid_gate own g =
    takes_pins g.function (length g.pins) && all_below own g.pins && nat_le g.least g.greatest && nat_le g.greatest 65535

-- each gate is valid, the first having this number for its own net
abbrev pub valid_gates : ℕ → List PlainGate → Bool
valid_gates own [] = true
valid_gates own (g ∷ gs) = valid_gate own g && valid_gates (own + 1) gs

-- 1 to 16 inputs and at most 240 gates
abbrev pub good_head : ℕ → ℕ → Bool
good_head inputs gates = nat_le 1 inputs && nat_le inputs 16 && nat_le gates 240

-- the circuit keeps every limit
abbrev pub valid_circuit : PlainCircuit → Bool
valid_circuit c = good_head c.inputs (length c.gates) && valid_gates c.inputs c.gates

-- how many nets there are
abbrev pub net_count : PlainCircuit → ℕ
net_count c = c.inputs + length c.gates
