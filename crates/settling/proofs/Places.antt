-- Lists and folds over the first places, as the definitions write them. Assumes nothing.
use Rattle.std.proofs.Common.{◌≡◌, ℕ, zero, suc, ◌+◌, ◌<◌, ◌≤◌, Bool, true, false, cond, not, ◌&&◌, ◌||◌, eqb, ltb, List, [], ◌∷◌, ◌++◌, length, map, take, None, Option, refl, sym, ap, ◌∙◌, ⊎_elim, add-one, arith}
use Rattle.std.proofs.Math.Bool.{or-false}
use Rattle.std.proofs.lemmas.Bool.{cond-true, lt-ltb, or_from, or_left, or_right, cases_eq}
use Rattle.std.proofs.lemmas.List.{take_all}
use Rattle.std.proofs.lemmas.List.Folds.{list_any-append}
use Rattle.std.proofs.lemmas.List.FromFn.{map-range_with_len_more, take-map-range_with_len}
use Rattle.std.proofs.lemmas.List.Sums.{fold-append}
use Rattle.std.specs.List.{fold, list_any, range_with_len}
use Rattle.std.proofs.iter.Yields.{nat_range_steps}
use Rattle.std.proofs.lemmas.Iterator.{YieldsList-from_range}
use Rattle.std.proofs.lemmas.Iterator.Search.{any_from_yields_List}
use Rattle.std.proofs.lemmas.Iterator.Consumers.{fold_from_yields_List}
use Rattle.std.specs.Iterator.{ChecksAny, FoldsItems}
use Rattle.std.specs.declared.ops.Range.{Range}
use Rattle.std.specs.Array.{IsFromFnResult}
use Rattle.std.specs.Fn.{Called}
use denote.Param.Members.{Mut}
use Rattle.separations.proofs.Arrays.{from_fn_list}
use Rattle.runs.specs.declared.row.Bounds.{Bounds}
use Rattle.runs.specs.Gathered.{gathered, joined}
use Rattle.settling_theory.specs.Settled.{listed, some_other}
use Rattle.settling_theory.proofs.Prefix.{listed_alike}

-- one more number, written at the end
range_more : (a b n : ℕ) → a + n ≡ b → range_with_len a (suc n) ≡ range_with_len a n ++ b ∷ []
range_more a b zero e = ap (λ (k : ℕ). k ∷ []) (omega (arith, e))
range_more a b (suc n) e = ap (λ (ks : List ℕ). a ∷ ks) (range_more (a + 1) b n (omega (arith, e)))

-- the values at the first places, in order
pub listed_map : {X : Type 0} (f : ℕ → X) (n : ℕ) → map f (range_with_len 0 n) ≡ listed f n
listed_map f zero = refl
listed_map f (suc n) =
    ap (λ (k : ℕ). map f (range_with_len 0 k)) (sym (add-one n))
    ∙ (map-range_with_len_more f 0 n n (omega arith) ∙ ap (λ (xs : List _). xs ++ f n ∷ []) (listed_map f n))

-- a list whose front holds the function's values, up to its end
pub listed_all : {X : Type 0} (f : ℕ → X) (xs : List X) (n i : ℕ) → length xs ≡ n → n ≤ i → take i xs ≡ listed f i → i ≤ n → xs ≡ listed f n
listed_all f xs n i e l h k =
    let same : i ≡ n = omega arith in let all : length xs ≤ i = omega arith in sym (take_all i xs all) ∙ (h ∙ ap (listed f) same)

-- whether any other place passes
pub other_any : (passes : ℕ → Bool) (p n : ℕ) → list_any (λ q. not (eqb q p) && passes q) (range_with_len 0 n) ≡ some_other passes p n
other_any passes p zero = refl
other_any passes p (suc n) =
    let test : ℕ → Bool = λ q. not (eqb q p) && passes q in
    ap (list_any test) (range_more 0 n n (omega arith)) ∙ (list_any-append test (range_with_len 0 n) (n ∷ [])
    ∙ (ap (λ (b : Bool). b || list_any test (n ∷ [])) (other_any passes p n) ∙ ap (λ (b : Bool). some_other passes p n || b) (or-false (test n))))

-- an other place that passes
found : (passes : ℕ → Bool) (p m q : ℕ) → q < m → (not (eqb q p) && passes q) ≡ true → some_other passes p m ≡ true
found passes p zero q l h = absurd (omega arith)
found passes p (suc m) q l h =
    ⊎_elim
    (λ e. or_right (some_other passes p m) (not (eqb m p) && passes m) (ap (λ (k : ℕ). not (eqb k p) && passes k) e ∙ h))
    (λ e. or_left (some_other passes p m) (not (eqb m p) && passes m) (found passes p m q (omega arith) h))
    (cases_eq m q)

-- no place below 0
pub other_none : (passes : ℕ → Bool) (p : ℕ) → some_other passes p 0 ≡ false
other_none passes p = refl

-- none below q, and not q either
pub other_more : (passes : ℕ → Bool) (p q : ℕ) (r : Bool) → some_other passes p q ≡ false → r ≡ (not (eqb q p) && passes q) → r ≡ false → some_other passes p (q + 1) ≡ false
other_more passes p q r h e f = ap (some_other passes p) (add-one q) ∙ or_from (some_other passes p q) (not (eqb q p) && passes q) h (sym e ∙ f)

-- the answers of the loop: at a place that passes, and at the end
pub other_found : (passes : ℕ → Bool) (p n q : ℕ) (r : Bool) → q < n → r ≡ (not (eqb q p) && passes q) → r ≡ true → true ≡ some_other passes p n
other_found passes p n q r l e f = sym (found passes p n q l (sym e ∙ f))

pub other_all : (passes : ℕ → Bool) (p n q : ℕ) → some_other passes p q ≡ false → n ≤ q → q ≤ n → false ≡ some_other passes p n
other_all passes p n q h k l = let same : q ≡ n = omega arith in sym h ∙ ap (some_other passes p) same

-- what the places give, joined one after another
pub gathered_fold : (from : ℕ → Option Bounds) (n : ℕ) → fold (λ all place. joined all (from place)) None (range_with_len 0 n) ≡ gathered from n
gathered_fold from zero = refl
gathered_fold from (suc n) =
    let step : Option Bounds → ℕ → Option Bounds = λ all place. joined all (from place) in
    ap (fold step None) (range_more 0 n n (omega arith))
    ∙ (fold-append step None (range_with_len 0 n) (n ∷ []) ∙ ap (λ (all : Option Bounds). joined all (from n)) (gathered_fold from n))

-- the front of an array made by a closure that gives f at the first m places and d past them
pub listed_front : {F B : Type 0} (g : Mut F (ℕ × Unit {0}) B) (f : ℕ → B) (d : B) (c : F) (ys : List B) (m n : ℕ) → m ≤ n
    → ((i : ℕ) (y : B) (q : F) → i < n → Called g c (i, tt) y q → (q ≡ c) × (y ≡ cond (ltb i m) (f i) d)) → IsFromFnResult g c ys n
    → take m ys ≡ listed f m
listed_front g f d c ys m n l pure made =
    let h : ℕ → _ = λ i. cond (ltb i m) (f i) d in
    ap (take m) (from_fn_list g h c ys n pure made) ∙ (take-map-range_with_len h 0 n m l ∙ (listed_map h m
    ∙ listed_alike h f m (λ k b. cond-true (ltb k m) (f k) d (lt-ltb k m b))))

module _ {F : Type 0} {g : Mut F (ℕ × Unit {0}) Bool} {s u : Range ℕ} {f : F} {r : Bool} (passes : ℕ → Bool) (p n : ℕ) where
  -- what `(0..n).any(..)` answers, where the closure tests a place other than p
  pub other_by_any : ChecksAny nat_range_steps g s f r u → s ≡ record { start = 0; end = n } →
      ((k : ℕ) (b : Bool) (q : F) → Called g f (k, tt) b q → (q ≡ f) × (b ≡ (not (eqb k p) && passes k))) → r ≡ some_other passes p n
  other_by_any ran from calls = any_from_yields_List _ _ _ _ ran (YieldsList-from_range 0 n n from (omega arith)) calls ∙ other_any passes p n

module _ {F : Type 0} {g : Mut F (Option Bounds × (ℕ × Unit {0})) (Option Bounds)} {s : Range ℕ} {f : F} {r : Option Bounds} (from : ℕ → Option Bounds) (n : ℕ) where
  -- what `(0..n).fold(None, ..)` gives, where the closure joins what each place gives
  pub gathered_by_fold : FoldsItems nat_range_steps g s f None r → s ≡ record { start = 0; end = n } →
      ((all : Option Bounds) (k : ℕ) (b : Option Bounds) (q : F) → Called g f (all, (k, tt)) b q → (q ≡ f) × (b ≡ joined all (from k))) → r ≡ gathered from n
  gathered_by_fold ran is calls =
      fold_from_yields_List g (λ all place. joined all (from place)) None r ran (YieldsList-from_range 0 n n is (omega arith)) calls ∙ gathered_fold from n
