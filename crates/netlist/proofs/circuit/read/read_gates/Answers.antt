-- Each turn takes one more gate.
use Rattle.std.proofs.Common.{vec_items, arith, rules}
use Rattle.netlist.proofs.Gates.{passed_more}
use Rattle.netlist.proofs.circuit.read.read_gates.Goals as goal

pub loop-own-preserved : goal.loop-own-preserved
loop-own-preserved c =
    let told = c.in_ok-read_gate.ensures in
    let pushed = c.in_ok-push.ensures in
    let so_far = c.loop-own.invariant in
    record {
      same = search rules;
      count = omega (arith, pushed.len);
      taken = rw pushed.items (passed_more c.args.reader.now c.loop-own.reader c.read_gate.new.reader c.args.head.inputs c.loop-own.own (vec_items c.loop-own.gates) c.in_ok-read_gate.field-0 so_far.same so_far.taken (omega (arith, so_far.count, c.loop-own.gates.ok.0)) told.taken.0 told.taken.1);
    }
