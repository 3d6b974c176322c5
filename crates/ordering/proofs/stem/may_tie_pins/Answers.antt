-- A live pin that is not tied is enough.
use Rattle.std.proofs.Common.{sym, ◌∙◌}
use Rattle.netlist.specs.View.{plain}
use Rattle.ordering.proofs.TieSteps.{apart_untied, loose_pin}
use Rattle.ordering.proofs.stem.may_tie_pins.Goals as goal

pub returns-then-is_live : goal.returns-then-is_live
returns-then-is_live c =
    λ _. loose_pin c.args.lent.rows.now _ c.args.row.now c.args.pins.now c.loop-k.k c.loop-k-test.true (sym c.is_live.ensures ∙ c.if-is_live.true)
    (apart_untied (plain c.args.lent.circuit.now) c.args.lent.circuit.now.valid c.args.lent.rows.now c.args.s _ (sym c.is_apart.ensures ∙ c.if-is_apart.true))
