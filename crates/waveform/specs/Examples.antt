-- Worked gates, computed by the definitions themselves. Assumes nothing.
use Rattle.std.specs.Prelude.{◌≡◌, [], ◌∷◌}
use Rattle.functions.specs.declared.function.Function.{Function}
use Rattle.functions.specs.declared.function.Function.TheVariants.{And, Nand, Or, Xor}
use Rattle.classes.specs.declared.class.Class.{Class}
use Rattle.classes.specs.declared.class.Class.TheVariants.{C000, C0R1, C1F0, C0X0, C1X1, C0XX, C1XX, CXX0, CXXX}
use Rattle.waveform.specs.Algebra.{evaluated}
use Rattle.waveform.specs.Ops.{class_ops}

-- the class of a gate with two pins of these classes
abbrev pub gate : Function → Class → Class → Class
gate f c d = evaluated class_ops f (c ∷ d ∷ [])

-- what eight gates make of their pins
abbrev pub GateExamples : Type 0
GateExamples =
    (gate And C0R1 C1F0 ≡ C0X0)
    × (gate Or C0R1 C1F0 ≡ C1X1)
    × (gate Xor C0R1 C1F0 ≡ C1X1)
    × (gate And C0R1 C0R1 ≡ C0R1)
    × (gate Xor C0R1 C0R1 ≡ C0X0)
    × (gate And C000 CXXX ≡ C000)
    × (gate Nand C0XX C1XX ≡ C1XX)
    × (gate And CXX0 C0XX ≡ C0X0)
