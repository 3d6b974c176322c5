-- The fold of all pins is the gate's value, and contains the gate's output.
use Rattle.std.proofs.Common.{sym, subst}
use Rattle.waveform.specs.Algebra.{joined}
use Rattle.functions.specs.Function.{described}
use Rattle.waveform.specs.Narrowest.{Contains}
use Rattle.waveform.specs.Contains.{evaluated_contains}
use Rattle.waveform.proofs.Folding.{fold_more, fold_ends}
use Rattle.waveform.proofs.evaluation.evaluate.Goals as goal

pub loop-pin-preserved : goal.loop-pin-preserved
loop-pin-preserved g c =
    fold_more (joined g.V.SwitchingAlgebra.ops c.args.function) _ _ _ _ _ _ c.loop-pin-test.true c.pin-item.is c.fold_in-value.ensures c.loop-pin.invariant

pub returns : goal.returns
returns g c =
    let a = g.V.SwitchingAlgebra in
    let f = c.args.function in
    let pins = c.args.pins.now in
    let e = fold_ends a.ops f pins c.loop-pin.value c.finish.result c.loop-pin.pin-index c.loop-pin-test.false c.loop-pin.invariant c.finish.ensures in
    record {
      fold = e;
      contains = subst (Contains a.stands (described f).truth pins) (sym e) (evaluated_contains a.ops a.stands g.met.V.SwitchingAlgebra.sound f pins);
    }
