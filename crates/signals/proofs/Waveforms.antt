-- Lemmas on waveforms: the value at each instant, the flips, and that the values determine the waveform. Assumes nothing.
use Rattle.std.proofs.Common.{◌≡◌, ℕ, zero, suc, ◌+◌, ◌<◌, ◌≤◌, Bool, true, false, cond, not, ◌||◌, T, eqb, ltb, leb, ◌⊎◌, List, [], ◌∷◌, sym, refl, ap, ◌∙◌, subst, inl, inr, add-one, arith, le→leb, eqb→eq, leb→le}
use lib.Dec.{leb-suc-suc, leb-suc-zero, eqb_refl}
use Rattle.std.proofs.lemmas.Bool.{lt-ltb, le-ltb, cases_lt, cases_order}
use Rattle.std.proofs.Math.Facts.{and_yes, or_yes, yes_and}
use Rattle.signals.specs.Waveform.{Waveform, rising_from, flipped_by, flipped_by_all, at, has}
use Rattle.signals.specs.Theorems.{Determined}

-- one part makes a disjunction of tests
pub from_left : (a b : Bool) → T a → T (a || b)
from_left true b h = tt
from_left false b h = absurd h

pub from_right : (a b : Bool) → T b → T (a || b)
from_right true b h = tt
from_right false b h = h

-- a value is not its inverse
pub not_own_inverse : (b : Bool) → b ≡ not b → ⊥
not_own_inverse true e = subst T e tt
not_own_inverse false e = subst T (sym e) tt

-- whether two Booleans are equal
abbrev pub same_bool : Bool → Bool → Bool
same_bool true b = b
same_bool false b = not b

pub same_or_not : (a b : Bool) → ((same_bool a b ≡ true) × (a ≡ b)) ⊎ ((same_bool a b ≡ false) × (not a ≡ b))
same_or_not true true = inl (refl, refl)
same_or_not true false = inr (refl, refl)
same_or_not false true = inr (refl, refl)
same_or_not false false = inl (refl, refl)

-- the flips of a rising list, taken apart and put together
pub rising_parts : (low t : ℕ) (ts : List ℕ) → T (rising_from low (t ∷ ts)) → (low ≤ t) × T (rising_from (suc t) ts)
rising_parts low t ts h =
    let p = and_yes (leb low t) (rising_from (t + 1) ts) h in
    (leb→le low t p.0, subst (λ (k : ℕ). T (rising_from k ts)) (add-one t) p.1)

pub from_rising_parts : (low t : ℕ) (ts : List ℕ) → low ≤ t → T (rising_from (suc t) ts) → T (rising_from low (t ∷ ts))
from_rising_parts low t ts h r =
    yes_and (leb low t) (rising_from (t + 1) ts) (le→leb low t h) (subst (λ (k : ℕ). T (rising_from k ts)) (sym (add-one t)) r)

-- a lower start will do too
pub rising_from_lower : (low high : ℕ) (ts : List ℕ) → low ≤ high → T (rising_from high ts) → T (rising_from low ts)
rising_from_lower low high [] h r = tt
rising_from_lower low high (t ∷ ts) h r =
    let p = rising_parts high t ts r in from_rising_parts low t ts (omega (arith, p.0)) p.1

-- the ticks of a list
pub has_cases : (t f : ℕ) (fs : List ℕ) → T (has t (f ∷ fs)) → (f ≡ t) ⊎ T (has t fs)
has_cases t f fs h =
    elim (or_yes (eqb f t) (has t fs) h) [ inl p ↦ inl (eqb→eq f t p) | inr p ↦ inr p ]

pub has_here : (t : ℕ) (fs : List ℕ) → T (has t (t ∷ fs))
has_here t fs = from_left (eqb t t) (has t fs) (eqb_refl t)

pub has_there : (t f : ℕ) (fs : List ℕ) → T (has t fs) → T (has t (f ∷ fs))
has_there t f fs h = from_right (eqb f t) (has t fs) h

pub has_or_not : (t : ℕ) (fs : List ℕ) → T (has t fs) ⊎ (T (has t fs) → ⊥)
has_or_not t fs = go (has t fs)
  where
    go : (b : Bool) → T b ⊎ (T b → ⊥)
    go true = inl tt
    go false = inr (λ h. h)

-- no tick of a rising list lies before its start
pub rising_above : (low t : ℕ) (ts : List ℕ) → T (rising_from low ts) → T (has t ts) → low ≤ t
rising_above low t [] r h = absurd h
rising_above low t (f ∷ fs) r h =
    let p = rising_parts low f fs r in
    elim (has_cases t f fs h) [ inl e ↦ omega (arith, p.0) | inr q ↦ omega (arith, p.0, rising_above (suc f) t fs p.1 q) ]

-- a value, inverted once for each of these flips that lies before instant n: instant 0 is before tick 0, instant t + 1 is tick t
abbrev pub seen_by : ℕ → Bool → List ℕ → Bool
seen_by n b [] = b
seen_by n b (f ∷ fs) = cond (ltb f n) (seen_by n (not b) fs) (seen_by n b fs)

-- the value at an instant
abbrev pub seen : Waveform → ℕ → Bool
seen w n = seen_by n w.first w.flips

pub seen_tick : (t : ℕ) (b : Bool) (fs : List ℕ) → flipped_by t b fs ≡ seen_by (suc t) b fs
seen_tick t b [] = refl
seen_tick t b (f ∷ fs) =
    let p = leb-suc-suc f t in let q = seen_tick t (not b) fs in let r = seen_tick t b fs in cc

pub seen_first : (b : Bool) (fs : List ℕ) → seen_by zero b fs ≡ b
seen_first b [] = refl
seen_first b (f ∷ fs) = rw leb-suc-zero (seen_first b fs)

-- a head before the instant, and one that is not
pub seen_past : (n f : ℕ) (b : Bool) (fs : List ℕ) → f < n → seen_by n b (f ∷ fs) ≡ seen_by n (not b) fs
seen_past n f b fs h = rw (lt-ltb f n h)

pub seen_ahead : (n f : ℕ) (b : Bool) (fs : List ℕ) → n ≤ f → seen_by n b (f ∷ fs) ≡ seen_by n b fs
seen_ahead n f b fs h = rw (le-ltb f n h)

-- with no flip from one instant to another the values are equal
pub seen_equal : (n m : ℕ) (b : Bool) (fs : List ℕ) → ((u : ℕ) → T (has u fs) → ltb u n ≡ ltb u m) → seen_by n b fs ≡ seen_by m b fs
seen_equal n m b [] h = refl
seen_equal n m b (f ∷ fs) h =
    let e = h f (has_here f fs) in
    let p = seen_equal n m (not b) fs (λ u k. h u (has_there u f fs k)) in
    let q = seen_equal n m b fs (λ u k. h u (has_there u f fs k)) in
    cc

-- the same before every flip: the first value
pub seen_before : (n : ℕ) (b : Bool) (fs : List ℕ) → ((u : ℕ) → T (has u fs) → n ≤ u) → seen_by n b fs ≡ b
seen_before n b fs h = seen_equal n zero b fs (λ u k. le-ltb u n (h u k) ∙ sym (leb-suc-zero u)) ∙ seen_first b fs

-- the same after every flip: the final value
pub seen_after : (n : ℕ) (b : Bool) (fs : List ℕ) → ((u : ℕ) → T (has u fs) → u < n) → seen_by n b fs ≡ flipped_by_all b fs
seen_after n b [] h = refl
seen_after n b (f ∷ fs) h =
    seen_past n f b fs (h f (has_here f fs)) ∙ seen_after n (not b) fs (λ u k. h u (has_there u f fs k))

pub seen_not : (n : ℕ) (b : Bool) (fs : List ℕ) → seen_by n (not b) fs ≡ not (seen_by n b fs)
seen_not n b [] = refl
seen_not n b (f ∷ fs) =
    elim (cases_lt f n) [
      | inl h ↦ seen_past n f (not b) fs h ∙ seen_not n (not b) fs ∙ ap not (sym (seen_past n f b fs h))
      | inr h ↦ seen_ahead n f (not b) fs h ∙ seen_not n b fs ∙ ap not (sym (seen_ahead n f b fs h))
    ]

-- no flip at a tick: the value stays
pub seen_stays : (t : ℕ) (b : Bool) (fs : List ℕ) → (T (has t fs) → ⊥) → seen_by (suc t) b fs ≡ seen_by t b fs
seen_stays t b fs h = seen_equal (suc t) t b fs alike
  where
    alike : (u : ℕ) → T (has u fs) → ltb u (suc t) ≡ ltb u t
    alike u k = elim (cases_order u t) [
      | inl e ↦ absurd (h (subst (λ (x : ℕ). T (has x fs)) e k))
      | inr (inl l) ↦ lt-ltb u (suc t) (omega arith) ∙ sym (lt-ltb u t l)
      | inr (inr l) ↦ le-ltb u (suc t) l ∙ sym (le-ltb u t (omega arith))
    ]

-- a flip of a rising list at a tick: the value changes
pub seen_flips : (low t : ℕ) (b : Bool) (fs : List ℕ) → T (rising_from low fs) → T (has t fs) → seen_by (suc t) b fs ≡ not (seen_by t b fs)
seen_flips low t b [] r h = absurd h
seen_flips low t b (f ∷ fs) r h =
    let p = rising_parts low f fs r in
    elim (has_cases t f fs h) [ inl e ↦ here e p.1 | inr q ↦ there (rising_above (suc f) t fs p.1 q) (seen_flips (suc f) t (not b) fs p.1 q) ]
  where
    here : f ≡ t → T (rising_from (suc f) fs) → seen_by (suc t) b (f ∷ fs) ≡ not (seen_by t b (f ∷ fs))
    here e p =
        seen_past (suc t) f b fs (omega arith)
        ∙ seen_before (suc t) (not b) fs (λ u k. omega (arith, rising_above (suc f) u fs p k))
        ∙ ap not (sym (seen_ahead t f b fs (omega arith) ∙ seen_before t b fs (λ u k. omega (arith, rising_above (suc f) u fs p k))))

    there : suc f ≤ t → seen_by (suc t) (not b) fs ≡ not (seen_by t (not b) fs) → seen_by (suc t) b (f ∷ fs) ≡ not (seen_by t b (f ∷ fs))
    there l e = seen_past (suc t) f b fs (omega arith) ∙ e ∙ ap not (sym (seen_past t f b fs l))

-- the value changes at a tick: there is a flip
pub flip_from_change : (t : ℕ) (b : Bool) (fs : List ℕ) → (seen_by (suc t) b fs ≡ seen_by t b fs → ⊥) → T (has t fs)
flip_from_change t b fs h = elim (has_or_not t fs) [ inl p ↦ p | inr n ↦ absurd (h (seen_stays t b fs n)) ]

-- before every tick of a rising list: the first value
pub seen_before_rising : (low n : ℕ) (b : Bool) (fs : List ℕ) → n ≤ low → T (rising_from low fs) → seen_by n b fs ≡ b
seen_before_rising low n b fs h r = seen_before n b fs (λ u k. omega (arith, rising_above low u fs r k))

-- a head that comes before every tick of another list is told apart from it
pub head_told : (x : ℕ) (b : Bool) (xs ys : List ℕ) → T (rising_from (suc x) xs) → T (rising_from (suc x) ys) → seen_by (suc x) b (x ∷ xs) ≡ seen_by (suc x) b ys → ⊥
head_told x b xs ys r s e =
    not_own_inverse b
    (sym (seen_before_rising (suc x) (suc x) b ys (omega arith) s) ∙ sym e
    ∙ seen_past (suc x) x b xs (omega arith) ∙ seen_before_rising (suc x) (suc x) (not b) xs (omega arith) r)

-- after equal heads the rests have the same values
pub rests_alike : (x : ℕ) (b : Bool) (xs ys : List ℕ) → T (rising_from (suc x) xs) → T (rising_from (suc x) ys) → ((n : ℕ) → seen_by n b (x ∷ xs) ≡ seen_by n b (x ∷ ys)) → (n : ℕ) → seen_by n (not b) xs ≡ seen_by n (not b) ys
rests_alike x b xs ys r s h n =
    elim (cases_lt x n) [
      | inl l ↦ sym (seen_past n x b xs l) ∙ h n ∙ seen_past n x b ys l
      | inr l ↦ seen_before_rising (suc x) n (not b) xs (omega arith) r ∙ sym (seen_before_rising (suc x) n (not b) ys (omega arith) s)
    ]

-- two rising lists with the same values at every instant are equal
pub same_flips : (low : ℕ) (b : Bool) (xs ys : List ℕ) → T (rising_from low xs) → T (rising_from low ys) → ((n : ℕ) → seen_by n b xs ≡ seen_by n b ys) → xs ≡ ys
same_flips low b [] [] r s h = refl
same_flips low b [] (y ∷ ys) r s h = absurd (head_told y b ys [] (rising_parts low y ys s).1 tt (sym (h (suc y))))
same_flips low b (x ∷ xs) [] r s h = absurd (head_told x b xs [] (rising_parts low x xs r).1 tt (h (suc x)))
same_flips low b (x ∷ xs) (y ∷ ys) r s h =
    elim (cases_order x y) [
      | inl e ↦ level e (same_flips (suc x) (not b) xs ys)
      | inr (inl l) ↦ absurd (head_told x b xs (y ∷ ys) p.1 (from_rising_parts (suc x) y ys l q.1) (h (suc x)))
      | inr (inr l) ↦ absurd (head_told y b ys (x ∷ xs) q.1 (from_rising_parts (suc y) x xs l p.1) (sym (h (suc y))))
    ]
  where
    p : (low ≤ x) × T (rising_from (suc x) xs)
    p = rising_parts low x xs r

    q : (low ≤ y) × T (rising_from (suc y) ys)
    q = rising_parts low y ys s

    level : x ≡ y → (T (rising_from (suc x) xs) → T (rising_from (suc x) ys) → ((n : ℕ) → seen_by n (not b) xs ≡ seen_by n (not b) ys) → xs ≡ ys) → ◌≡◌ {A = List ℕ} (x ∷ xs) (y ∷ ys)
    level e rests =
        let q' : T (rising_from (suc x) ys) = subst (λ (z : ℕ). T (rising_from (suc z) ys)) (sym e) q.1 in
        let h' : (n : ℕ) → seen_by n b (x ∷ xs) ≡ seen_by n b (x ∷ ys) = subst (λ (z : ℕ). (n : ℕ) → seen_by n b (x ∷ xs) ≡ seen_by n b (z ∷ ys)) (sym e) h in
        let k : xs ≡ ys = rests p.1 q' (rests_alike x b xs ys p.1 q' h') in
        cc

-- equal first values and equal values at every tick: equal values at every instant
pub seen_from_at : (w v : Waveform) → w.first ≡ v.first → ((t : ℕ) → at w t ≡ at v t) → (n : ℕ) → seen w n ≡ seen v n
seen_from_at w v e h zero = seen_first w.first w.flips ∙ e ∙ sym (seen_first v.first v.flips)
seen_from_at w v e h (suc t) = sym (seen_tick t w.first w.flips) ∙ h t ∙ seen_tick t v.first v.flips

-- the same first value and the same value at every tick: the same waveform
pub determined : Determined
determined w v r s e h =
    let alike : (n : ℕ) → seen_by n w.first w.flips ≡ seen_by n w.first v.flips =
    subst (λ (b : Bool). (n : ℕ) → seen_by n w.first w.flips ≡ seen_by n b v.flips) (sym e) (seen_from_at w v e h) in
    let k : w.flips ≡ v.flips = same_flips 0 w.first w.flips v.flips r s alike in
    λ i. record { first = e i; flips = k i }
