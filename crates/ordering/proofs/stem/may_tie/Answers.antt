-- What the pins tell, told of the net.
use Rattle.std.proofs.Common.{sym, ap, ◌∙◌, arith}
use Rattle.std.proofs.lemmas.Bool.{ltb-true, ltb-false}
use Rattle.netlist.specs.Circuit.{PlainGate}
use Rattle.netlist.specs.Plain.{plain_gate}
use Rattle.netlist.specs.View.{plain}
use Rattle.ordering.specs.Rows.{row_count}
use Rattle.ordering.specs.Stem.{ties_below}
use Rattle.ordering.proofs.TieSteps.{alike_pins, apart_untied, pins_fit, tie_loose, tie_past}
use Rattle.ordering.proofs.stem.may_tie.Goals as goal

pub returns-in_default : goal.returns-in_default
returns-in_default c = λ _. tie_past (plain c.args.lent.circuit.now) c.args.lent.rows.now c.args.s c.args.n (ltb-false _ _ c.in_default.ensures)

pub returns-then-is_apart : goal.returns-then-is_apart
returns-then-is_apart c =
    λ _. apart_untied (plain c.args.lent.circuit.now) c.args.lent.circuit.now.valid c.args.lent.rows.now c.args.s c.args.n (sym c.is_apart.ensures ∙ c.if-is_apart.true)

pub may_tie_pins-requires : goal.may_tie_pins-requires
may_tie_pins-requires c =
    let l = ltb-true c.args.n _ c.in-Some.ensures.0 in
    pins_fit (plain_gate c.in-Some-gate_of.gate.now) c.args.n _ c.in-Some-gate_of.ensures.valid (omega (arith, l)) _ c.as_slice.ensures.value

pub returns : goal.returns
returns c =
    λ e. let whole = plain c.args.lent.circuit.now in
    let rows = c.args.lent.rows.now in
    tie_loose whole c.args.lent.circuit.now.valid rows c.args.s c.args.n (ltb-true _ _ c.in-Some.ensures.0) c.if-n-s.false
    (alike_pins rows (ties_below whole rows c.args.s (row_count whole rows)) c.in-Some.ensures.1
    (c.as_slice.ensures.value ∙ ap (λ (g : PlainGate). g.pins) c.in-Some-gate_of.ensures.same) (c.may_tie_pins.ensures e))
