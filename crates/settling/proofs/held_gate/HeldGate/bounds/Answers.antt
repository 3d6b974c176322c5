-- The array lists what is given from each input.
use Rattle.std.proofs.Common.{◌∙◌, rules}
use Rattle.separations.proofs.Arrays.{from_fn_list}
use Rattle.netlist.specs.Plain.{plain_gate}
use Rattle.settling_theory.specs.Settled.{gate_bounds}
use Rattle.settling.proofs.Places.{listed_map}
use Rattle.settling.proofs.held_gate.HeldGate.bounds.Goals as goal

pub returns : goal.returns
returns c =
    let gate = c.args.self.now in
    from_fn_list _ (gate_bounds gate.at.below.now (plain_gate gate.at.gate.now) gate.held.now c.args.class) _ c.from_fn.result 16 (λ i y q l k. search rules) c.from_fn.ensures.items
    ∙ listed_map (gate_bounds gate.at.below.now (plain_gate gate.at.gate.now) gate.held.now c.args.class) 16
