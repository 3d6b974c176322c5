-- The start and end letters of classes under gate evaluation, and what a letter of control among the pins decides. Assumes nothing.
use Rattle.std.proofs.Common.{◌≡◌, ℕ, zero, suc, ◌<◌, Bool, true, false, T, eqb, List, [], ◌∷◌, ◌++◌, map, length, get_or, Some, sym, refl, ap, ◌∙◌, ap₂, inl, inr, arith}
use Rattle.std.proofs.lemmas.List.{length-map, get_or-map, map_push, ext_get_or}
use Rattle.std.proofs.lemmas.Bool.{cases_lt}
use Rattle.std.proofs.lemmas.Option.{none-some}
use Rattle.classes.specs.declared.three.Three.{Three}
use Rattle.classes.specs.declared.three.Three.TheVariants.{Zero, One, Unknown}
use Rattle.classes.specs.declared.class.Class.{Class}
use Rattle.functions.specs.declared.function.Function.{Function}
use Rattle.functions.specs.declared.function.Function.TheVariants.{Buf, Not, And, Nand, Or, Nor, Xor, Xnor}
use Rattle.classes.specs.Three as three
use Rattle.functions.specs.Function as function
use Rattle.classes.specs.Class.{described}
use Rattle.waveform.specs.Algebra.{Ops, disj, folded_in, evaluated}
use Rattle.waveform.specs.Ops.{three_ops, conj_three, class_ops}
use Rattle.waveform.specs.Classes.{classes, every, for_each}
use Rattle.settling_theory.specs.Settled.{listed}
use Rattle.settling_theory.specs.Meaning.{letter}
use Rattle.settling_theory.proofs.Prefix.{listed_length, listed_at}

-- a function of each value
pub map_listed : {X Y : Type 0} (h : X → Y) (f : ℕ → X) (n : ℕ) → map h (listed f n) ≡ listed (λ k. h (f k)) n
map_listed h f zero = refl
map_listed h f (suc n) = map_push h (listed f n) (f n) ∙ ap (λ ys. ys ++ h (f n) ∷ []) (map_listed h f n)

-- a function of each number of a list, by places
pub map_places : {X : Type 0} (f : ℕ → X) (ns : List ℕ) → map f ns ≡ listed (λ k. f (get_or ns k 0)) (length ns)
map_places {X} f ns =
    ext_get_or (f 0) (map f ns) (listed at (length ns)) (length-map ns f ∙ sym (listed_length at (length ns)))
    (λ k l. let m : k < length ns = omega (arith, length-map ns f) in get_or-map f ns k 0 (f 0) m ∙ sym (listed_at at (length ns) k (f 0) m))
  where
    at : ℕ → X
    at k = f (get_or ns k 0)

-- the same letter
abbrev pub same_letter : Three → Three → Bool
same_letter x y = eqb (three.described x).number (three.described y).number

pub same_letter_lem : (x y : Three) → T (same_letter x y) → x ≡ y
same_letter_lem Zero Zero h = refl
same_letter_lem Zero One h = absurd h
same_letter_lem Zero Unknown h = absurd h
same_letter_lem One Zero h = absurd h
same_letter_lem One One h = refl
same_letter_lem One Unknown h = absurd h
same_letter_lem Unknown Zero h = absurd h
same_letter_lem Unknown One h = absurd h
same_letter_lem Unknown Unknown h = refl

-- equations between letters of classes by one test
by1 : (f g : Class → Three) → T (every (λ x. same_letter (f x) (g x)) classes) → (x : Class) → f x ≡ g x
by1 f g t x = same_letter_lem (f x) (g x) (for_each (λ a. same_letter (f a) (g a)) t x)

by2 : (f g : Class → Class → Three) → T (every (λ x. every (λ y. same_letter (f x y) (g x y)) classes) classes) → (x y : Class) → f x y ≡ g x y
by2 f g t x = by1 (f x) (g x) (for_each (λ a. every (λ b. same_letter (f a b) (g a b)) classes) t x)

-- a function from one algebra to another that keeps the constants and the operations
pub record Keeps {V W : Type 0} (ops : Ops V) (to : Ops W) (h : V → W) : Type 0 where
  pub zero : h ops.zero ≡ to.zero
  pub one : h ops.one ≡ to.one
  pub neg : (x : V) → h (ops.neg x) ≡ to.neg (h x)
  pub conj : (x y : V) → h (ops.conj x y) ≡ to.conj (h x) (h y)
  pub excl : (x y : V) → h (ops.excl x y) ≡ to.excl (h x) (h y)

-- the start letter keeps them, and so does the end letter
pub start_keeps : Keeps class_ops three_ops (λ c. (described c).start)
start_keeps = record {
  zero = refl;
  one = refl;
  neg = by1 (λ c. (described (class_ops.neg c)).start) (λ c. three_ops.neg (described c).start) tt;
  conj = by2 (λ c d. (described (class_ops.conj c d)).start) (λ c d. three_ops.conj (described c).start (described d).start) tt;
  excl = by2 (λ c d. (described (class_ops.excl c d)).start) (λ c d. three_ops.excl (described c).start (described d).start) tt;
}

pub end_keeps : Keeps class_ops three_ops (λ c. (described c).finish)
end_keeps = record {
  zero = refl;
  one = refl;
  neg = by1 (λ c. (described (class_ops.neg c)).finish) (λ c. three_ops.neg (described c).finish) tt;
  conj = by2 (λ c d. (described (class_ops.conj c d)).finish) (λ c d. three_ops.conj (described c).finish (described d).finish) tt;
  excl = by2 (λ c d. (described (class_ops.excl c d)).finish) (λ c d. three_ops.excl (described c).finish (described d).finish) tt;
}

-- a fold, seen through a function that keeps its step
fold_kept :
    {V W : Type 0} (h : V → W) (op : V → V → V) (to : W → W → W) → ((x y : V) → h (op x y) ≡ to (h x) (h y)) →
    (a : V) (b : W) → h a ≡ b → (xs : List V) → h (folded_in op a xs) ≡ folded_in to b (map h xs)
fold_kept h op to step a b e [] = e
fold_kept h op to step a b e (x ∷ xs) = fold_kept h op to step (op a x) (to b (h x)) (step a x ∙ ap (λ y. to y (h x)) e) xs

module _ {V W : Type 0} (ops : Ops V) (to : Ops W) (h : V → W) (k : Keeps ops to h) where
  disj_kept : (x y : V) → h (disj ops x y) ≡ disj to (h x) (h y)
  disj_kept x y = k.neg _ ∙ ap to.neg (k.conj _ _ ∙ ap₂ to.conj (k.neg x) (k.neg y))

  conj_fold : (xs : List V) → h (folded_in ops.conj ops.one xs) ≡ folded_in to.conj to.one (map h xs)
  conj_fold = fold_kept h ops.conj to.conj k.conj ops.one to.one k.one

  disj_fold : (xs : List V) → h (folded_in (disj ops) ops.zero xs) ≡ folded_in (disj to) to.zero (map h xs)
  disj_fold = fold_kept h (disj ops) (disj to) disj_kept ops.zero to.zero k.zero

  excl_fold : (xs : List V) → h (folded_in ops.excl ops.zero xs) ≡ folded_in to.excl to.zero (map h xs)
  excl_fold = fold_kept h ops.excl to.excl k.excl ops.zero to.zero k.zero

  -- so it keeps gate evaluation
  pub evaluated_kept : (f : Function) (xs : List V) → h (evaluated ops f xs) ≡ evaluated to f (map h xs)
  evaluated_kept Buf xs = conj_fold xs
  evaluated_kept Not xs = k.neg _ ∙ ap to.neg (conj_fold xs)
  evaluated_kept And xs = conj_fold xs
  evaluated_kept Nand xs = k.neg _ ∙ ap to.neg (conj_fold xs)
  evaluated_kept Or xs = disj_fold xs
  evaluated_kept Nor xs = k.neg _ ∙ ap to.neg (disj_fold xs)
  evaluated_kept Xor xs = excl_fold xs
  evaluated_kept Xnor xs = k.neg _ ∙ ap to.neg (excl_fold xs)

-- one value more at the end of a fold
fold_push : {V : Type 0} (op : V → V → V) (a : V) (xs : List V) (y : V) → folded_in op a (xs ++ y ∷ []) ≡ op (folded_in op a xs) y
fold_push op a [] y = refl
fold_push op a (x ∷ xs) y = fold_push op (op a x) xs y

-- a value that wins on either side wins in a fold in which it stands
pub fold_won :
    {V : Type 0} (op : V → V → V) (z : V) → ((x : V) → op z x ≡ z) → ((x : V) → op x z ≡ z) →
    (a : V) (f : ℕ → V) (n k : ℕ) → k < n → f k ≡ z → folded_in op a (listed f n) ≡ z
fold_won op z left right a f zero k l e = absurd (omega arith)
fold_won op z left right a f (suc n) k l e = fold_push op a (listed f n) (f n) ∙ elim (cases_lt k n) [
  | inl p ↦ ap (λ x. op x (f n)) (fold_won op z left right a f n k p e) ∙ left (f n)
  | inr p ↦ ap (op (folded_in op a (listed f n))) (ap f (omega arith) ∙ e) ∙ right (folded_in op a (listed f n))
]

conj_right : (x : Three) → conj_three x Zero ≡ Zero
conj_right Zero = refl
conj_right One = refl
conj_right Unknown = refl

disj_right : (x : Three) → disj three_ops x One ≡ One
disj_right Zero = refl
disj_right One = refl
disj_right Unknown = refl

and_won : (f : ℕ → Three) (n k : ℕ) → k < n → f k ≡ Zero → folded_in conj_three One (listed f n) ≡ Zero
and_won f n k l e = fold_won conj_three Zero (λ x. refl) conj_right One f n k l e

or_won : (f : ℕ → Three) (n k : ℕ) → k < n → f k ≡ One → folded_in (disj three_ops) Zero (listed f n) ≡ One
or_won f n k l e = fold_won (disj three_ops) One (λ x. refl) disj_right Zero f n k l e

same_letters : (a b : Bool) → Some a ≡ Some b → letter b ≡ letter a
same_letters a b e = cc

-- a 0 in each of two conjunctions, a 1 in each of two disjunctions
both_zero :
    (cv : Bool) → Some false ≡ Some cv → (x y : ℕ → Three) (n i j : ℕ) → i < n → x i ≡ letter cv → j < n → y j ≡ letter cv →
    folded_in conj_three One (listed x n) ≡ folded_in conj_three One (listed y n)
both_zero cv s x y n i j a p b q = and_won x n i a (p ∙ same_letters false cv s) ∙ sym (and_won y n j b (q ∙ same_letters false cv s))

both_one :
    (cv : Bool) → Some true ≡ Some cv → (x y : ℕ → Three) (n i j : ℕ) → i < n → x i ≡ letter cv → j < n → y j ≡ letter cv →
    folded_in (disj three_ops) Zero (listed x n) ≡ folded_in (disj three_ops) Zero (listed y n)
both_one cv s x y n i j a p b q = or_won x n i a (p ∙ same_letters true cv s) ∙ sym (or_won y n j b (q ∙ same_letters true cv s))

-- two lists of letters that both have the control value's letter give a gate the same value
pub control_decides :
    (f : Function) (cv : Bool) → (function.described f).control ≡ Some cv → (x y : ℕ → Three) (n i j : ℕ) →
    i < n → x i ≡ letter cv → j < n → y j ≡ letter cv → evaluated three_ops f (listed x n) ≡ evaluated three_ops f (listed y n)
control_decides Buf cv s x y n i j a p b q = absurd (none-some cv s)
control_decides Not cv s x y n i j a p b q = absurd (none-some cv s)
control_decides And cv s x y n i j a p b q = both_zero cv s x y n i j a p b q
control_decides Nand cv s x y n i j a p b q = ap three_ops.neg (both_zero cv s x y n i j a p b q)
control_decides Or cv s x y n i j a p b q = both_one cv s x y n i j a p b q
control_decides Nor cv s x y n i j a p b q = ap three_ops.neg (both_one cv s x y n i j a p b q)
control_decides Xor cv s x y n i j a p b q = absurd (none-some cv s)
control_decides Xnor cv s x y n i j a p b q = absurd (none-some cv s)
