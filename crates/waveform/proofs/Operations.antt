-- Where the operations of the classes go by the ends of their arguments alone. Assumes nothing.
use Rattle.std.proofs.Common.{◌≡◌, false, T, ◌&&◌, sym, refl, subst}
use Rattle.std.proofs.lemmas.Bool.{false_from_ne_true}
use Rattle.classes.specs.declared.class.Class.{Class}
use Rattle.classes.specs.declared.class.Class.TheVariants.{C000, C111}
use Rattle.classes.specs.Class.{described, is_clean}
use Rattle.waveform.specs.Ops.{conj_three, excl_three, free_class, same_class, conj_class, excl_class}
use Rattle.waveform.specs.Classes.{same_class_lem}

-- classes that differ have different codes
pub other_code : (c d : Class) → (c ≡ d → ⊥) → same_class c d ≡ false
other_code c d h = false_from_ne_true (same_class c d) (λ e. h (same_class_lem c d (subst T (sym e) tt)))

module _ (c d : Class) (c0 : c ≡ C000 → ⊥) (c1 : c ≡ C111 → ⊥) (d0 : d ≡ C000 → ⊥) (d1 : d ≡ C111 → ⊥) where
  -- two classes that are no constants, and are not one clean class
  pub conj_free : (is_clean c && same_class c d) ≡ false
      → conj_class c d ≡ free_class (conj_three (described c).start (described d).start) (conj_three (described c).finish (described d).finish)
  conj_free e =
      let p = other_code c C000 c0 in let q = other_code c C111 c1 in let r = other_code d C000 d0 in let s = other_code d C111 d1 in
      rw p (rw q (rw r (rw s (rw e refl))))

  -- two classes that are no constants
  pub excl_free : excl_class c d ≡ free_class (excl_three (described c).start (described d).start) (excl_three (described c).finish (described d).finish)
  excl_free =
      let p = other_code c C000 c0 in let q = other_code c C111 c1 in let r = other_code d C000 d0 in let s = other_code d C111 d1 in
      rw p (rw q (rw r (rw s refl)))
