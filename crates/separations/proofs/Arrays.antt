-- An array made by a closure that changes nothing is the list of a function's values. Assumes nothing.
use Rattle.std.proofs.Common.{◌≡◌, ℕ, zero, suc, ◌+◌, ◌<◌, ◌≤◌, List, [], ◌∷◌, map, get_or, refl, ◌∙◌, subst, ⊎_elim, arith}
use Rattle.std.proofs.lemmas.List.FromFn.{fill_by_all}
use Rattle.std.proofs.lemmas.Bool.{cases_eq}
use Rattle.std.specs.List.{range_with_len}
use Rattle.std.specs.Fn.{Called}
use Rattle.std.specs.Array.{IsFromFnResult, IsFromFnResultFrom}
use denote.Param.Members.{Mut}

module _ {F B : Type 0} (g : Mut F (ℕ × Unit {0}) B) (h : ℕ → B) (f : F) (top : ℕ) where
  -- each call at a number below `top` leaves the closure as it was and gives h of the number
  Pure : Type 0
  Pure = (i : ℕ) (y : B) (q : F) → i < top → Called g f (i, tt) y q → (q ≡ f) × (y ≡ h i)

  filled :
      (ys : List B) (i n : ℕ) → Pure → i + n ≤ top → IsFromFnResultFrom g f ys i n → (k : ℕ) (d : B) → i ≤ k → k < i + n →
      get_or ys k d ≡ h k
  unfolding Pure
  filled ys i zero pure fits e k d low high = absurd (omega arith)
  filled ys i (suc n) pure fits (q, y, at, call, rest) k d low high =
      let one = pure i y q (omega arith) call in
      ⊎_elim
      (λ (p : i ≡ k). subst (λ k. get_or ys k d ≡ h k) p (at.1 d ∙ one.1))
      (λ (p : i ≡ k → ⊥).
      filled ys (i + 1) n pure (omega arith)
      (subst (λ f. IsFromFnResultFrom g f ys (i + 1) n) one.0 rest) k d (omega arith) (omega arith))
      (cases_eq i k)

-- what `array::from_fn` gives, where each call at a number below n leaves the closure as it was and gives h of the number
pub from_fn_list :
    {F B : Type 0} (g : Mut F (ℕ × Unit {0}) B) (h : ℕ → B) (f : F) (ys : List B) (n : ℕ) →
    ((i : ℕ) (y : B) (q : F) → i < n → Called g f (i, tt) y q → (q ≡ f) × (y ≡ h i)) → IsFromFnResult g f ys n →
    ys ≡ map h (range_with_len 0 n)
unfolding Pure
from_fn_list g h f [] n pure e = let long = e.long in subst (λ n. [] ≡ map h (range_with_len 0 n)) long refl
from_fn_list g h f (y ∷ ys) n pure e =
    fill_by_all h (y ∷ ys) n y e.long (λ k l. filled g h f n (y ∷ ys) 0 n pure (omega arith) e.each k y (omega arith) (omega arith))
