-- The twelve worked examples hold, by computation. Assumes nothing.
use Rattle.std.proofs.Common.{refl}
use Rattle.waveform.specs.Examples.{GateExamples}
use Rattle.separations.proofs.Worked.{examples}
use Rattle.ordering.specs.Rows.{some_below, every_below}
use Rattle.settling_theory.specs.Examples.{SettlingExamples, TwelveExamples}

gate_examples : GateExamples
gate_examples = (refl, refl, refl, refl, refl, refl, refl, refl)

settling_examples : SettlingExamples
unfolding some_below every_below
settling_examples = (refl, refl, refl, refl, refl)

pub twelve_examples : TwelveExamples
twelve_examples = (gate_examples, examples, settling_examples)
