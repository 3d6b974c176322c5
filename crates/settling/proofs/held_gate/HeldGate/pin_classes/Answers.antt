-- The front of the array lists what each pin evaluates as.
use Rattle.std.proofs.Common.{length, arith, rules, tests}
use Rattle.classes.specs.declared.class.Class.TheVariants.{C000}
use Rattle.netlist.specs.Plain.{plain_gate}
use Rattle.runs.proofs.Circuits.{good_gate, pins_few}
use Rattle.settling_theory.specs.Settled.{class_at}
use Rattle.settling.proofs.Places.{listed_front}
use Rattle.settling.proofs.held_gate.HeldGate.pin_classes.Goals as goal

pub returns : goal.returns
returns c =
    let at = c.args.self.now.at in
    let g = plain_gate at.gate.now in
    let few = pins_few g.function (length g.pins) (good_gate (length at.below.now) g at.valid).pin_count in
    listed_front _ (class_at at.below.now g c.args.self.now.held.now) C000 _ c.from_fn.result (length g.pins) 8 (omega (arith, few.1)) (λ i y q l k. search (rules, tests)) c.from_fn.ensures.items
