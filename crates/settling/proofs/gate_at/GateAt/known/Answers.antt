-- The nets at the pins of a valid gate are lower than its own, so they are below.
use Rattle.std.proofs.Common.{◌<◌, length, get_or, ap, ◌∙◌, arith, rules}
use Rattle.std.proofs.lemmas.List.{get_or_default}
use Rattle.netlist.specs.Plain.{plain_gate}
use Rattle.runs.proofs.Circuits.{good_gate}
use Rattle.settling.proofs.gate_at.GateAt.known.Goals as goal

lower : goal.bounds-self-from
lower g c =
    let at = c.args.self.now in
    let good = good_gate (length at.below.now) (plain_gate at.gate.now) at.valid in
    omega (arith, c.net.ensures, c.from.ensures, good.lower c.args.place c.requires)

pub bounds-self-from : goal.bounds-self-from
bounds-self-from = lower

pub offset_bounds-self-from : goal.offset_bounds-self-from
offset_bounds-self-from g c = let within : c.from.result < length c.args.self.now.below.now = lower g c in search rules

pub returns : goal.returns
returns g c =
    let at = c.args.self.now in
    let good = good_gate (length at.below.now) (plain_gate at.gate.now) at.valid in
    let lower = good.lower c.args.place c.requires in
    λ d. get_or_default at.below.now c.from.result c.index-self-from.result d (omega (arith, c.from.ensures, c.net.ensures, lower))
    ∙ ap (λ n. get_or at.below.now n d) (c.from.ensures ∙ c.net.ensures)
