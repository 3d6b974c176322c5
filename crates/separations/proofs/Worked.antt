-- The worked examples, shown by the definitions. Assumes nothing.
use Rattle.std.proofs.Common.{◌*◌, pos, negsuc, refl, arith, lit≤}
use Rattle.std.proofs.lemmas.Int.{ints}
use Rattle.separations.specs.Examples.{SeparationExamples}
use Rattle.separations.specs.Separations.{WellFormed}

accepted_formed : WellFormed 1 0 (negsuc 4)
accepted_formed = record { differ = omega arith; least = omega (arith, ints); greatest = omega (arith, ints) }

refused_formed : WellFormed 1 0 (negsuc 3)
refused_formed = record { differ = omega arith; least = omega (arith, ints); greatest = omega (arith, ints) }

pub examples : SeparationExamples
examples = (
  record {
    first = lit≤ tt;
    second = lit≤ tt;
    taken = refl;
    formed = accepted_formed;
    times = λ i. pos (5 * i);
    met = (omega (arith, ints), (omega (arith, ints), tt));
    larger = refl;
  },
  (lit≤ tt, lit≤ tt, refl, refused_formed, λ times m. omega (arith, ints, m.0, m.1.0)),
  refl,
)
