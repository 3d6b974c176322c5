-- The front of the array lists the values at the pins.
use Rattle.std.proofs.Common.{length, sym, ◌∙◌, arith, rules, tests}
use Rattle.classes.specs.declared.three.Three.TheVariants.{Unknown}
use Rattle.netlist.specs.Plain.{plain_gate}
use Rattle.runs.proofs.Circuits.{good_gate, pins_few}
use Rattle.settling_theory.specs.Rest.{value_at}
use Rattle.settling_theory.specs.Settled.{pin_net}
use Rattle.settling_theory.proofs.Letters.{map_places}
use Rattle.settling.proofs.Places.{listed_front}
use Rattle.settling.proofs.resting.pin_values.Goals as goal

pub returns : goal.returns
returns c =
    let at = c.args.at.now in
    let g = plain_gate at.gate.now in
    let few = pins_few g.function (length g.pins) (good_gate (length at.below.now) g at.valid).pin_count in
    listed_front _ (λ k. value_at at.below.now (pin_net g k)) Unknown _ c.from_fn.result (length g.pins) 8 (omega (arith, few.1)) (λ i y q l k. search (rules, tests)) c.from_fn.ensures.items
    ∙ sym (map_places (value_at at.below.now) g.pins)
