-- Facts about all thirteen classes, settled by trying each, and the laws of their operations. Assumes nothing.
use Rattle.std.specs.Prelude.{◌≡◌, ℕ, zero, suc, ◌<◌, Bool, true, false, ◌&&◌, T, List, [], ◌∷◌, length, get_or, slice_index_or, refl}
use Rattle.std.proofs.Common.{sym, ap, subst, ◌∙◌, arith, eqb→eq, lit<}
use Rattle.classes.specs.declared.class.Class.{Class}
use Rattle.classes.specs.declared.class.Class.TheVariants.{C000, C111, C0R1, C1F0, C0X0, C0X1, C1X0, C1X1, C0XX, C1XX, CXX0, CXX1, CXXX}
use Rattle.waveform.specs.Algebra.{Lawful}
use Rattle.classes.specs.Class.{described}
use Rattle.waveform.specs.Ops.{same_class, neg_class, conj_class, excl_class, class_ops}

-- the classes in the order of their codes
abbrev pub classes : List Class
classes = C000 ∷ C111 ∷ C0R1 ∷ C1F0 ∷ C0X0 ∷ C0X1 ∷ C1X0 ∷ C1X1 ∷ C0XX ∷ C1XX ∷ CXX0 ∷ CXX1 ∷ CXXX ∷ []

-- a class stands at its code
pub at_code : (c : Class) → slice_index_or classes (described c).code CXXX ≡ c
at_code C000 = refl
at_code C111 = refl
at_code C0R1 = refl
at_code C1F0 = refl
at_code C0X0 = refl
at_code C0X1 = refl
at_code C1X0 = refl
at_code C1X1 = refl
at_code C0XX = refl
at_code C1XX = refl
at_code CXX0 = refl
at_code CXX1 = refl
at_code CXXX = refl

pub code_below : (c : Class) → (described c).code < 13
code_below C000 = lit< tt
code_below C111 = lit< tt
code_below C0R1 = lit< tt
code_below C1F0 = lit< tt
code_below C0X0 = lit< tt
code_below C0X1 = lit< tt
code_below C1X0 = lit< tt
code_below C1X1 = lit< tt
code_below C0XX = lit< tt
code_below C1XX = lit< tt
code_below CXX0 = lit< tt
code_below CXX1 = lit< tt
code_below CXXX = lit< tt

-- two classes of one code are one
pub same_class_lem : (c d : Class) → T (same_class c d) → c ≡ d
same_class_lem c d h =
    sym (at_code c) ∙ ap (λ n. get_or classes n CXXX) (eqb→eq (described c).code (described d).code h) ∙ at_code d

-- the test passes for each of these
abbrev pub every : (Class → Bool) → List Class → Bool
every p [] = true
every p (c ∷ cs) = p c && every p cs

every_at : (p : Class → Bool) (cs : List Class) (k : ℕ) → k < length cs → T (every p cs) → T (p (slice_index_or cs k CXXX))
every_at p [] k h t = absurd (omega arith)
every_at p (c ∷ cs) zero h t = head (p c) t
  where
    head : (b : Bool) → T (b && every p cs) → T b
    head true t = tt
    head false t = t
every_at p (c ∷ cs) (suc k) h t = every_at p cs k (omega arith) (tail (p c) t)
  where
    tail : (b : Bool) → T (b && every p cs) → T (every p cs)
    tail true t = t
    tail false t = absurd t

-- a test that passes for all thirteen passes for any class
pub for_each : (p : Class → Bool) → T (every p classes) → (c : Class) → T (p c)
for_each p t c = subst (λ (x : Class). T (p x)) (at_code c) (every_at p classes (described c).code (code_below c) t)

-- equations between classes by one test
pub by1 : (f g : Class → Class) → T (every (λ x. same_class (f x) (g x)) classes) → (x : Class) → f x ≡ g x
by1 f g t x = same_class_lem (f x) (g x) (for_each (λ a. same_class (f a) (g a)) t x)

pub by2 : (f g : Class → Class → Class) → T (every (λ x. every (λ y. same_class (f x y) (g x y)) classes) classes) → (x y : Class) → f x y ≡ g x y
by2 f g t x = by1 (f x) (g x) (for_each (λ a. every (λ b. same_class (f a b) (g a b)) classes) t x)

pub by3 : (f g : Class → Class → Class → Class) → T (every (λ x. every (λ y. every (λ z. same_class (f x y z) (g x y z)) classes) classes) classes) → (x y z : Class) → f x y z ≡ g x y z
by3 f g t x = by2 (f x) (g x) (for_each (λ a. every (λ b. every (λ c. same_class (f a b c) (g a b c)) classes) classes) t x)

pub class_laws : Lawful class_ops
class_laws = record {
  conj_assoc = by3 (λ x y z. conj_class (conj_class x y) z) (λ x y z. conj_class x (conj_class y z)) tt;
  conj_comm = by2 conj_class (λ x y. conj_class y x) tt;
  conj_one = by1 (conj_class C111) (λ x. x) tt;
  excl_assoc = by3 (λ x y z. excl_class (excl_class x y) z) (λ x y z. excl_class x (excl_class y z)) tt;
  excl_comm = by2 excl_class (λ x y. excl_class y x) tt;
  excl_zero = by1 (excl_class C000) (λ x. x) tt;
  neg_neg = by1 (λ x. neg_class (neg_class x)) (λ x. x) tt;
}
