-- The pins of a valid gate are few and lower, so their ties are small, and the sums fit.
use Rattle.std.proofs.Common.{◌+◌, ◌*◌, arith}
use Rattle.netlist.specs.Plain.{plain_gate}
use Rattle.ordering.proofs.TieSteps.{gate_sums, delayed_small, pins_fit}
use Rattle.ordering.proofs.stem.tie_behind.Goals as goal

pub join-requires : goal.join-requires
join-requires c = pins_fit (plain_gate c.args.gate.now) c.args.n _ c.requires.0 c.requires.1.0 _ c.as_slice.ensures.value

pub overflow_add-result : goal.overflow_add-result
overflow_add-result c =
    let sums = gate_sums c.args.rows.now c.args.ties.now c.args.row.now (plain_gate c.args.gate.now) c.args.n c.requires.0 c.requires.1.1
    _ c.as_slice.ensures.value c.join.result c.join.ensures c.in_ok-all.all c.in_ok-all.was in
    omega (arith, sums.low, c.from.ensures, c.ranges.n)

pub overflow_add-result-2 : goal.overflow_add-result-2
overflow_add-result-2 c =
    let sums = gate_sums c.args.rows.now c.args.ties.now c.args.row.now (plain_gate c.args.gate.now) c.args.n c.requires.0 c.requires.1.1
    _ c.as_slice.ensures.value c.join.result c.join.ensures c.in_ok-all.all c.in_ok-all.was in
    omega (arith, sums.high, c.from-2.ensures, c.ranges.n)

pub returns-clause-small : goal.returns-clause-small
returns-clause-small c =
    let sums = gate_sums c.args.rows.now c.args.ties.now c.args.row.now (plain_gate c.args.gate.now) c.args.n c.requires.0 c.requires.1.1
    _ c.as_slice.ensures.value c.join.result c.join.ensures c.in_ok-all.all c.in_ok-all.was in
    λ b e. delayed_small (65535 * c.args.n) (record { lo = c.in_ok-all.all.lo + c.from.result; hi = c.in_ok-all.all.hi + c.from-2.result }) b e
    (omega (arith, sums.low, c.from.ensures)) (omega (arith, sums.high, c.from-2.ensures))
