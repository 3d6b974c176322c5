-- The bounds of a lower net leave room for one more delay.
use Rattle.std.proofs.Common.{◌*◌, get_or, None, sym, ap, ◌∙◌, subst}
use Rattle.netlist.specs.Plain.{plain_gate}
use Rattle.runs.specs.declared.row.Row.{Row}
use Rattle.runs.specs.Gathered.{unless_held}
use Rattle.runs.specs.Row.{bounds_from}
use Rattle.ordering.specs.TieTable.{AtMost}
use Rattle.settling.proofs.Growth.{room}
use Rattle.settling.proofs.held_gate.HeldGate.from_place.Goals as goal

pub delay-requires : goal.delay-requires
delay-requires c =
    let at = c.args.self.now.at in
    let held = get_or c.args.self.now.held.now c.args.place None in
    let told = c.unless_held.ensures ∙ ap (λ (row : Row). unless_held held (bounds_from row c.args.i)) (c.known.ensures _) in
    subst (AtMost (65535 * 255)) (sym told)
    (room at.below.now (plain_gate at.gate.now) at.valid c.args.self.now.small held c.args.i c.args.place c.requires.1)
