-- The output of a gate with two pins, all flips of the first before all flips of the second. Assumes nothing.
use Rattle.std.proofs.Common.{◌≡◌, ℕ, suc, ◌<◌, ◌≤◌, Bool, true, false, cond, not, ◌&&◌, T, ltb, ◌⊎◌, List, [], ◌∷◌, ◌++◌, sym, refl, ap, ◌∙◌, inl, inr, zero-le, arith, ltb→lt}
use Rattle.std.proofs.Math.Bool.{not-not}
use Rattle.std.proofs.lemmas.Bool.{cases_lt}
use Rattle.std.proofs.Math.Facts.{and_yes}
use Rattle.signals.specs.Waveform.{Waveform, Rising, rising_from, flipped_by_all, final, has}
use Rattle.signals.specs.GateRule.{Pointwise}
use Rattle.signals.proofs.Waveforms.{same_or_not, rising_parts, from_rising_parts, rising_from_lower, has_cases, seen_by, seen, seen_past, seen_ahead, seen_before_rising, seen_after}
pub use Rattle.signals.proofs.Waveforms.{same_bool}
use Rattle.signals.proofs.Outputs.{pointwise_from_seen}

-- every tick is below k
abbrev pub below : ℕ → List ℕ → Bool
below k [] = true
below k (t ∷ ts) = ltb t k && below k ts

pub below_has : (k t : ℕ) (ts : List ℕ) → T (below k ts) → T (has t ts) → t < k
below_has k t [] b h = absurd h
below_has k t (f ∷ fs) b h =
    let p = and_yes (ltb f k) (below k fs) b in
    let l = ltb→lt f k p.0 in
    elim (has_cases t f fs h) [ inl e ↦ omega arith | inr q ↦ below_has k t fs p.1 q ]

-- the flips of a function of one pin: those of the pin, or none if the function is constant
abbrev pub one_pin : (Bool → Bool) → List ℕ → List ℕ
one_pin g ts = cond (same_bool (g false) (g true)) [] ts

-- the output of a function of two pins, as if the first pin had made all its flips before the second makes one
abbrev pub apart : (List Bool → Bool) → Waveform → Waveform → Waveform
apart f w u =
    record {
      first = f (w.first ∷ u.first ∷ []);
      flips =
          cond (same_bool (f (false ∷ u.first ∷ [])) (f (true ∷ u.first ∷ []))) [] w.flips
          ++ cond (same_bool (f (final w ∷ false ∷ [])) (f (final w ∷ true ∷ []))) [] u.flips;
    }

-- a function of one Boolean is constant or inverts with it
pub constant_or_inverts : (g : Bool → Bool) → ((same_bool (g false) (g true) ≡ true) × ((a b : Bool) → g a ≡ g b)) ⊎ ((same_bool (g false) (g true) ≡ false) × ((a : Bool) → g (not a) ≡ not (g a)))
constant_or_inverts g = elim (same_or_not (g false) (g true)) [ inl p ↦ inl (p.0, stays p.1) | inr p ↦ inr (p.0, turns p.1) ]
  where
    stays : g false ≡ g true → (a b : Bool) → g a ≡ g b
    stays e true true = refl
    stays e true false = sym e
    stays e false true = e
    stays e false false = refl

    turns : not (g false) ≡ g true → (a : Bool) → g (not a) ≡ not (g a)
    turns e true = sym (not-not (g false)) ∙ ap not e
    turns e false = sym e

pub inverted_seen : (g : Bool → Bool) → ((a : Bool) → g (not a) ≡ not (g a)) → (n : ℕ) (b : Bool) (ts : List ℕ) → seen_by n (g b) ts ≡ g (seen_by n b ts)
inverted_seen g h n b [] = refl
inverted_seen g h n b (t ∷ ts) =
    elim (cases_lt t n) [
      | inl l ↦ seen_past n t (g b) ts l ∙ ap (λ (x : Bool). seen_by n x ts) (sym (h b)) ∙ inverted_seen g h n (not b) ts ∙ ap g (sym (seen_past n t b ts l))
      | inr l ↦ seen_ahead n t (g b) ts l ∙ inverted_seen g h n b ts ∙ ap g (sym (seen_ahead n t b ts l))
    ]

pub inverted_all : (g : Bool → Bool) → ((a : Bool) → g (not a) ≡ not (g a)) → (b : Bool) (ts : List ℕ) → flipped_by_all (g b) ts ≡ g (flipped_by_all b ts)
inverted_all g h b [] = refl
inverted_all g h b (t ∷ ts) = ap (λ (x : Bool). flipped_by_all x ts) (sym (h b)) ∙ inverted_all g h (not b) ts

-- a function of one pin: its value at an instant, and its final value
pub one_pin_seen : (g : Bool → Bool) (n : ℕ) (b : Bool) (ts : List ℕ) → seen_by n (g b) (one_pin g ts) ≡ g (seen_by n b ts)
one_pin_seen g n b ts =
    elim (constant_or_inverts g) [ inl p ↦ rw p.0 (p.1 b (seen_by n b ts)) | inr p ↦ rw p.0 (inverted_seen g p.1 n b ts) ]

pub one_pin_all : (g : Bool → Bool) (b : Bool) (ts : List ℕ) → flipped_by_all (g b) (one_pin g ts) ≡ g (flipped_by_all b ts)
one_pin_all g b ts =
    elim (constant_or_inverts g) [ inl p ↦ rw p.0 (p.1 b (flipped_by_all b ts)) | inr p ↦ rw p.0 (inverted_all g p.1 b ts) ]

-- what holds of no flips and of these holds of a list that is kept or left out whole
pub cond_keeps : (P : List ℕ → Bool) (c : Bool) (ts : List ℕ) → T (P []) → T (P ts) → T (P (cond c [] ts))
cond_keeps P true ts h k = h
cond_keeps P false ts h k = k

-- one rising list after another
pub append_rising : (low k : ℕ) (xs ys : List ℕ) → low ≤ k → T (rising_from low xs) → T (below k xs) → T (rising_from k ys) → T (rising_from low (xs ++ ys))
append_rising low k [] ys h r b s = rising_from_lower low k ys h s
append_rising low k (x ∷ xs) ys h r b s =
    let p = rising_parts low x xs r in
    let q = and_yes (ltb x k) (below k xs) b in
    from_rising_parts low x (xs ++ ys) p.0 (append_rising (suc x) k xs ys (ltb→lt x k q.0) p.1 q.1 s)

pub append_seen : (n : ℕ) (b : Bool) (xs ys : List ℕ) → seen_by n b (xs ++ ys) ≡ seen_by n (seen_by n b xs) ys
append_seen n b [] ys = refl
append_seen n b (x ∷ xs) ys =
    elim (cases_lt x n) [
      | inl l ↦ seen_past n x b (xs ++ ys) l ∙ append_seen n (not b) xs ys ∙ ap (λ (c : Bool). seen_by n c ys) (sym (seen_past n x b xs l))
      | inr l ↦ seen_ahead n x b (xs ++ ys) l ∙ append_seen n b xs ys ∙ ap (λ (c : Bool). seen_by n c ys) (sym (seen_ahead n x b xs l))
    ]

pub append_all : (b : Bool) (xs ys : List ℕ) → flipped_by_all b (xs ++ ys) ≡ flipped_by_all (flipped_by_all b xs) ys
append_all b [] ys = refl
append_all b (x ∷ xs) ys = append_all (not b) xs ys

-- the function of the first pin, the second at its first value; and of the second, the first at its final value
abbrev pub by_first : (List Bool → Bool) → Waveform → Bool → Bool
by_first f u x = f (x ∷ u.first ∷ [])

abbrev pub by_second : (List Bool → Bool) → Waveform → Bool → Bool
by_second f w x = f (final w ∷ x ∷ [])

-- the flips below k all before the flips from k on: the output
pub apart_output : (f : List Bool → Bool) (w u : Waveform) (k : ℕ) → Rising w → T (below k w.flips) → T (rising_from k u.flips) → Pointwise f (w ∷ u ∷ []) (apart f w u)
apart_output f w u k r b s = pointwise_from_seen f (w ∷ u ∷ []) (apart f w u) rises shown
  where
    xs : List ℕ
    xs = one_pin (by_first f u) w.flips

    ys : List ℕ
    ys = one_pin (by_second f w) u.flips

    ys_rise : T (rising_from k ys)
    ys_rise = cond_keeps (rising_from k) (same_bool (by_second f w false) (by_second f w true)) u.flips tt s

    rises : Rising (apart f w u)
    rises =
        let c = same_bool (by_first f u false) (by_first f u true) in
        append_rising 0 k xs ys zero-le (cond_keeps (rising_from 0) c w.flips tt r) (cond_keeps (below k) c w.flips tt b) ys_rise

    start : Bool
    start = f (w.first ∷ u.first ∷ [])

    early : (n : ℕ) → n ≤ k → seen (apart f w u) n ≡ f (seen w n ∷ seen u n ∷ [])
    early n l =
        append_seen n start xs ys ∙ seen_before_rising k n (seen_by n start xs) ys l ys_rise ∙ one_pin_seen (by_first f u) n w.first w.flips
        ∙ ap (λ (x : Bool). f (seen w n ∷ x ∷ [])) (sym (seen_before_rising k n u.first u.flips l s))

    late : (n : ℕ) → k ≤ n → seen (apart f w u) n ≡ f (seen w n ∷ seen u n ∷ [])
    late n l =
        let done : seen w n ≡ final w = seen_after n w.first w.flips (λ t h. omega (arith, below_has k t w.flips b h)) in
        append_seen n start xs ys
        ∙ ap (λ (x : Bool). seen_by n x ys) (one_pin_seen (by_first f u) n w.first w.flips ∙ ap (by_first f u) done)
        ∙ one_pin_seen (by_second f w) n u.first u.flips
        ∙ ap (λ (x : Bool). f (x ∷ seen u n ∷ [])) (sym done)

    shown : (n : ℕ) → seen (apart f w u) n ≡ f (seen w n ∷ seen u n ∷ [])
    shown n = elim (cases_lt n k) [ inl l ↦ early n (omega arith) | inr l ↦ late n l ]

-- its final value
pub apart_final : (f : List Bool → Bool) (w u : Waveform) → final (apart f w u) ≡ f (final w ∷ final u ∷ [])
apart_final f w u =
    append_all (f (w.first ∷ u.first ∷ [])) (one_pin (by_first f u) w.flips) (one_pin (by_second f w) u.flips)
    ∙ ap (λ (x : Bool). flipped_by_all x (one_pin (by_second f w) u.flips)) (one_pin_all (by_first f u) w.first w.flips)
    ∙ one_pin_all (by_second f w) u.first u.flips
