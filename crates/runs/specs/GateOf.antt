-- Which nets have gates behind them, and which gate. Assumes nothing.
use Rattle.std.specs.Prelude.{◌≡◌, ℕ, ◌-◌, ◌<◌, ◌≤◌, Bool, ◌&&◌, T, nat_le, nat_lt}
use Rattle.netlist.specs.Circuit.{PlainCircuit, PlainGate, net_count, valid_gate}
use Rattle.runs.specs.Run.{gate_at}

-- the number is a net, and no input
abbrev pub has_gate : PlainCircuit → ℕ → Bool
has_gate c n = nat_le c.inputs n && nat_lt n (net_count c)

-- the net has a gate, this one, and it is valid there
pub record GateOf (c : PlainCircuit) (n : ℕ) (g : PlainGate) : Type 0 where
  pub past_inputs : c.inputs ≤ n
  pub net : n < net_count c
  pub same : g ≡ gate_at c (n - c.inputs)
  pub valid : T (valid_gate n g)
