-- The operations of the two algebras that are used here: the three values and the thirteen classes. Assumes nothing.
use Rattle.std.specs.Prelude.{Bool, cond, ◌&&◌, ◌||◌, ◌==◌}
use Rattle.classes.specs.declared.three.Three.{Three}
use Rattle.classes.specs.declared.three.Three.TheVariants.{Zero, One, Unknown}
use Rattle.classes.specs.declared.class.Class.{Class}
use Rattle.classes.specs.declared.class.Class.TheVariants.{C000, C111, C0R1, C1F0, C0X0, C0X1, C1X0, C1X1, C0XX, C1XX, CXX0, CXX1, CXXX}
use Rattle.classes.specs.Class.{described, is_clean}
use Rattle.waveform.specs.Algebra.{Ops}

abbrev pub neg_three : Three → Three
neg_three Zero = One
neg_three One = Zero
neg_three Unknown = Unknown

abbrev pub conj_three : Three → Three → Three
conj_three Zero y = Zero
conj_three One y = y
conj_three Unknown Zero = Zero
conj_three Unknown One = Unknown
conj_three Unknown Unknown = Unknown

abbrev pub excl_three : Three → Three → Three
excl_three Zero y = y
excl_three One y = neg_three y
excl_three Unknown y = Unknown

abbrev pub three_ops : Ops Three
three_ops = record { zero = Zero; one = One; neg = neg_three; conj = conj_three; excl = excl_three }

-- the class of this start and this end whose middle is X
abbrev pub free_class : Three → Three → Class
free_class Zero Zero = C0X0
free_class Zero One = C0X1
free_class Zero Unknown = C0XX
free_class One Zero = C1X0
free_class One One = C1X1
free_class One Unknown = C1XX
free_class Unknown Zero = CXX0
free_class Unknown One = CXX1
free_class Unknown Unknown = CXXX

-- the same class, by its code
abbrev pub same_class : Class → Class → Bool
same_class c d = (described c).code == (described d).code

abbrev pub neg_class : Class → Class
neg_class C000 = C111
neg_class C111 = C000
neg_class C0R1 = C1F0
neg_class C1F0 = C0R1
neg_class C0X0 = C1X1
neg_class C0X1 = C1X0
neg_class C1X0 = C0X1
neg_class C1X1 = C0X0
neg_class C0XX = C1XX
neg_class C1XX = C0XX
neg_class CXX0 = CXX1
neg_class CXX1 = CXX0
neg_class CXXX = CXXX

-- a constant 0 wins, a constant 1 gives the other back, two equal clean classes stay; all else may flip at will
abbrev pub conj_class : Class → Class → Class
conj_class c d =
    cond (same_class c C000 || same_class d C000) C000
    (cond (same_class c C111) d
    (cond (same_class d C111) c
    (cond (is_clean c && same_class c d) c
    (free_class (conj_three (described c).start (described d).start) (conj_three (described c).finish (described d).finish)))))

-- a constant 0 gives the other back, a constant 1 its inverse; all else may flip at will
abbrev pub excl_class : Class → Class → Class
excl_class c d =
    cond (same_class c C000) d
    (cond (same_class d C000) c
    (cond (same_class c C111) (neg_class d)
    (cond (same_class d C111) (neg_class c)
    (free_class (excl_three (described c).start (described d).start) (excl_three (described c).finish (described d).finish)))))

abbrev pub class_ops : Ops Class
class_ops = record { zero = C000; one = C111; neg = neg_class; conj = conj_class; excl = excl_class }
