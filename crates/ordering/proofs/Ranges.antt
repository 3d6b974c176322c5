-- A search of the numbers below a limit, as `(0..n).any(f)` and `(0..n).all(f)`, answers what the definitions of such tests say. Assumes nothing.
use Rattle.std.proofs.Common.{◌≡◌, ℕ, zero, suc, ◌+◌, ◌-◌, ◌<◌, ◌≤◌, Bool, true, false, ◌||◌, ◌&&◌, Option, List, [], ◌∷◌, ◌++◌, length, take, take_all, get_or, refl, sym, ap, ◌∙◌, arith}
use Rattle.std.proofs.Math.Bool.{or-false, and-true}
use Rattle.std.proofs.iter.Yields.{nat_range_steps}
use Rattle.std.proofs.lemmas.Iterator.{YieldsList, YieldsList-from_range}
use Rattle.std.proofs.lemmas.Iterator.Search.{any_from_yields_List, all_from_yields_List}
use Rattle.std.proofs.lemmas.List.FromFn.{length-range_with_len}
use Rattle.std.proofs.lemmas.List.Folds.{list_any-append, list_any_more, list_all-append}
use Rattle.std.specs.declared.ops.Range.{Range}
use Rattle.std.specs.Fn.{Mut, Called}
use Rattle.std.specs.Iterator.{ChecksAny, ChecksAll}
use Rattle.std.specs.declared.ops.RangeInclusive.{RangeInclusive}
use Rattle.std.specs.Range.{range_inclusive_start, range_inclusive_end, range_inclusive_exhausted, range_inclusive_left, range_inclusive_len, range_inclusive_steps}
use Rattle.std.proofs.lemmas.Iterator.Consumers.{YieldsList-from_shown}
use Rattle.std.specs.List.{list_any, list_all, range_with_len}
use Rattle.ordering.specs.Rows.{some_below, every_below}

-- one more number
range_more : (a n k : ℕ) → a + n ≡ k → range_with_len a (suc n) ≡ range_with_len a n ++ (k ∷ [])
range_more a zero k e = ap (λ (i : ℕ). i ∷ []) (omega arith)
range_more a (suc n) k e = ap (λ (ks : List ℕ). a ∷ ks) (range_more (a + 1) n k (omega arith))

some_of_range : (test : ℕ → Bool) (n : ℕ) → list_any test (range_with_len 0 n) ≡ some_below test n
unfolding some_below
some_of_range test zero = refl
some_of_range test (suc n) =
    ap (list_any test) (range_more 0 n n (omega arith)) ∙ list_any-append test (range_with_len 0 n) (n ∷ [])
    ∙ ap (λ (b : Bool). list_any test (range_with_len 0 n) || b) (or-false (test n)) ∙ ap (λ (b : Bool). b || test n) (some_of_range test n)

every_of_range : (test : ℕ → Bool) (n : ℕ) → list_all test (range_with_len 0 n) ≡ every_below test n
unfolding every_below
every_of_range test zero = refl
every_of_range test (suc n) =
    ap (list_all test) (range_more 0 n n (omega arith)) ∙ list_all-append test (range_with_len 0 n) (n ∷ [])
    ∙ ap (λ (b : Bool). list_all test (range_with_len 0 n) && b) (and-true (test n)) ∙ ap (λ (b : Bool). b && test n) (every_of_range test n)

-- what `a..=b` has left
abbrev left_of : RangeInclusive ℕ → List ℕ
left_of s = range_with_len (range_inclusive_start s) (range_inclusive_left (λ (a b : ℕ). b - a) s)

-- its steps
abbrev up_steps : RangeInclusive ℕ → Option ℕ → RangeInclusive ℕ → Type 0
up_steps = range_inclusive_steps (λ (a b : ℕ). b - a) (λ (a b : ℕ). b ≡ a + 1)

starts_alike : (a b n : ℕ) → (0 < n → a ≡ b) → range_with_len a n ≡ range_with_len b n
starts_alike a b zero e = refl
starts_alike a b (suc n) e = ap (λ (k : ℕ). range_with_len k (suc n)) (e (omega arith))

not_spent : (a b : ℕ) (spent : Bool) → 0 < range_inclusive_len (λ (x y : ℕ). y - x) a b spent → spent ≡ false
not_spent a b true l = absurd (omega arith)
not_spent a b false l = refl

left_next : (s t : RangeInclusive ℕ) → range_inclusive_left (λ (a b : ℕ). b - a) t + 1 ≡ range_inclusive_left (λ (a b : ℕ). b - a) s →
    (range_inclusive_exhausted t ≡ false → range_inclusive_start t ≡ range_inclusive_start s + 1) → left_of s ≡ range_inclusive_start s ∷ left_of t
left_next s t e next =
    let more : range_inclusive_left (λ (a b : ℕ). b - a) s ≡ suc (range_inclusive_left (λ (a b : ℕ). b - a) t) = omega (arith, e) in
    ap (range_with_len (range_inclusive_start s)) more
    ∙ ap (λ (ks : List ℕ). range_inclusive_start s ∷ ks)
    (starts_alike (range_inclusive_start s + 1) (range_inclusive_start t) (range_inclusive_left (λ (a b : ℕ). b - a) t)
    (λ l. sym (next (not_spent (range_inclusive_start t) (range_inclusive_end t) (range_inclusive_exhausted t) l))))

up_to : (s : RangeInclusive ℕ) → YieldsList up_steps (λ x. x) s (left_of s)
up_to s =
    YieldsList-from_shown up_steps (λ x. x) left_of
    (λ a b h. length-range_with_len (range_inclusive_start a) _ ∙ h.1.0)
    (λ a x b h. left_next a b h.1.1 h.1.2 ∙ ap (λ (k : ℕ). k ∷ left_of b) (sym h.1.0))
    s

-- `0..=top` has the numbers below `top + 1`
from_zero : (top : ℕ) (s : RangeInclusive ℕ) → range_inclusive_start s ≡ 0 → range_inclusive_end s ≡ top → range_inclusive_exhausted s ≡ false →
    left_of s ≡ range_with_len 0 (top + 1)
from_zero top s e f h =
    let len : range_inclusive_left (λ (a b : ℕ). b - a) s ≡ top + 1 =
    ap (range_inclusive_len (λ (a b : ℕ). b - a) (range_inclusive_start s) (range_inclusive_end s)) h ∙ omega (arith, e, f) in
    ap (λ (k : ℕ). range_with_len k (range_inclusive_left (λ (a b : ℕ). b - a) s)) e ∙ ap (range_with_len 0) len

module _ {F : Type 0} {g : Mut F (ℕ × Unit {0}) Bool} {test : ℕ → Bool} {n : ℕ} {s u : Range ℕ} {f : F} {r : Bool} where
  pub some_by_any : ChecksAny nat_range_steps g s f r u → s ≡ record { start = 0; end = n } →
      ((k : ℕ) (b : Bool) (q : F) → Called g f (k, tt) b q → (q ≡ f) × (b ≡ test k)) → r ≡ some_below test n
  some_by_any ran from calls = any_from_yields_List _ _ _ _ ran (YieldsList-from_range 0 n n from (omega arith)) calls ∙ some_of_range test n

  pub every_by_all : ChecksAll nat_range_steps g s f r u → s ≡ record { start = 0; end = n } →
      ((k : ℕ) (b : Bool) (q : F) → Called g f (k, tt) b q → (q ≡ f) × (b ≡ test k)) → r ≡ every_below test n
  every_by_all ran from calls = all_from_yields_List _ _ _ _ ran (YieldsList-from_range 0 n n from (omega arith)) calls ∙ every_of_range test n

module _ {F : Type 0} {g : Mut F (ℕ × Unit {0}) Bool} {test : ℕ → Bool} {top : ℕ} {s u : RangeInclusive ℕ} {f : F} {r : Bool} where
  pub some_by_any_up_to : ChecksAny up_steps g s f r u → range_inclusive_start s ≡ 0 → range_inclusive_end s ≡ top → range_inclusive_exhausted s ≡ false →
      ((k : ℕ) (b : Bool) (q : F) → Called g f (k, tt) b q → (q ≡ f) × (b ≡ test k)) → r ≡ some_below test (top + 1)
  some_by_any_up_to ran start end spent calls =
      any_from_yields_List _ _ _ _ ran (up_to s) calls ∙ ap (list_any test) (from_zero top s start end spent) ∙ some_of_range test (top + 1)

-- a search of a list is one of the places in it
some_of_front : {X : Type 0} (test : X → Bool) (xs : List X) (d : X) (n : ℕ) → n ≤ length xs → list_any test (take n xs) ≡ some_below (λ k. test (get_or xs k d)) n
unfolding some_below
some_of_front test xs d zero l = refl
some_of_front test xs d (suc n) l =
    let more : suc n ≡ n + 1 = omega arith in
    ap (λ (k : ℕ). list_any test (take k xs)) more ∙ list_any_more test xs n d (omega arith)
    ∙ ap (λ (b : Bool). b || test (get_or xs n d)) (some_of_front test xs d n (omega arith))

pub some_of_list : {X : Type 0} (test : X → Bool) (xs : List X) (d : X) (n : ℕ) → length xs ≡ n → list_any test xs ≡ some_below (λ k. test (get_or xs k d)) n
some_of_list test xs d n e =
    ap (list_any test) (sym (take_all n xs (omega (arith, e)))) ∙ some_of_front test xs d n (omega (arith, e))
