-- The layers that find faults, and the letter of each. Assumes nothing.
use Rattle.std.specs.Prelude.{ℕ}
use Rattle.refusals.specs.declared.refusal.Layer.{Layer}
use Rattle.refusals.specs.declared.refusal.Layer.TheVariants.{Reader, Circuit, Bench, Source}

-- the letter, as the code of its character: R for the reader, C for the circuit, B for the bench, S for the order source
abbrev pub letter : Layer → ℕ
letter Reader = 82
letter Circuit = 67
letter Bench = 66
letter Source = 83
