-- Each turn works out the value of one more net.
use Rattle.std.proofs.Common.{length, take, refl, rules, ◌+◌, ap, ◌∙◌, arith, length-set}
use Rattle.std.proofs.lemmas.List.{length-take-le}
use Rattle.netlist.specs.View.{plain}
use Rattle.netlist.specs.Circuit.{net_count}
use Rattle.settling_theory.specs.Rest.{value_at, value_for, values_to}
use Rattle.settling_theory.proofs.Prefix.{grown_more}
use Rattle.settling.specs.Resting.{input_letter}
use Rattle.settling.proofs.Values.{value_there}
use Rattle.settling.proofs.resting.value_of.Goals as goal
use Rattle.settling.proofs.resting.value_of.Goals.{else-loop-n-test, then-loop-n-test+else-n-last}

pub value_for-requires : goal.value_for-requires
value_for-requires c = (omega (arith, c.requires), length-take-le _ c.loop-n.values (omega (arith, c.loop-n.invariant.0, c.ranges.net)) ∙ omega arith)

pub loop-n-preserved : goal.loop-n-preserved
loop-n-preserved c =
    let inputs = input_letter c.args.letter c.args.classes.now in
    let circuit = plain c.args.circuit.now in (
      length-set c.loop-n.values c.loop-n.n c.value_for.result ∙ c.loop-n.invariant.0,
      grown_more (value_for inputs circuit) (values_to inputs circuit) refl (λ n. refl) c.loop-n.values c.loop-n.n c.value_for.result
          (omega (arith, c.loop-n.invariant.0, c.ranges.net)) c.value_for.ensures c.loop-n.invariant.1,
    )

-- the last turn
pub returns : goal.returns
returns c =
    let inputs = input_letter c.args.letter c.args.classes.now in
    let circuit = plain c.args.circuit.now in
    elim c.loop-n-test.branch [
      | else-loop-n-test w ↦ search (rules, arith)
      | then-loop-n-test+else-n-last w ↦
          let full = grown_more (value_for inputs circuit) (values_to inputs circuit) refl (λ n. refl) c.loop-n.values c.loop-n.n w.value_for.result
          (omega (arith, c.loop-n.invariant.0, c.ranges.net)) w.value_for.ensures c.loop-n.invariant.1 in
          let long = ap length w.values-is ∙ length-set c.loop-n.values c.loop-n.n w.value_for.result ∙ c.loop-n.invariant.0 in
          value_there inputs circuit c.loop-n-test.values c.from-last.result (c.loop-n.n + 1) (net_count circuit) _
          (omega arith) (omega (arith, long, w.loop-n-test.true, c.from-last.ensures, c.ranges.net)) (omega (arith, c.from-last.ensures, c.requires))
          (ap (take (c.loop-n.n + 1)) w.values-is ∙ full)
          ∙ ap (value_at (values_to inputs circuit (net_count circuit))) c.from-last.ensures
    ]
