-- The output of a gate: that there is one, just one, and that its flips are flips of pins. Assumes nothing.
use Rattle.std.proofs.Common.{◌≡◌, ℕ, zero, suc, ◌+◌, ◌<◌, ◌≤◌, Bool, true, false, not, T, ltb, List, [], ◌∷◌, map, length, get_or, sym, refl, ap, ◌∙◌, inl, inr, suc-le-suc, zero-le, arith}
use Rattle.std.proofs.lemmas.Bool.{lt-ltb, cases_lt}
use Rattle.signals.specs.Waveform.{Waveform, Rising, FlipsAt, rising_from, has, constant, later}
use Rattle.signals.specs.GateRule.{firsts, sampled, Pointwise, GateRule}
use Rattle.signals.specs.Theorems.{OneOutput, FlipsFromPins}
use Rattle.signals.proofs.Waveforms.{same_bool, same_or_not, not_own_inverse, from_rising_parts, rising_from_lower, has_cases, has_or_not, seen_by, seen, seen_tick, seen_first, seen_past, seen_before_rising, seen_stays, seen_flips, seen_equal, determined}

-- the values of the pins at an instant, in order
abbrev pub seen_all : ℕ → List Waveform → List Bool
seen_all n pins = map (λ w. seen w n) pins

pub seen_firsts : (pins : List Waveform) → seen_all zero pins ≡ firsts pins
seen_firsts pins = λ i. map (λ w. seen_first w.first w.flips i) pins

pub seen_sampled : (t : ℕ) (pins : List Waveform) → seen_all (suc t) pins ≡ sampled t pins
seen_sampled t pins = λ i. map (λ w. sym (seen_tick t w.first w.flips) i) pins

-- the output without delay, by one equation at every instant
pub pointwise_seen : (f : List Bool → Bool) (pins : List Waveform) (out : Waveform) → Pointwise f pins out → (n : ℕ) → seen out n ≡ f (seen_all n pins)
pointwise_seen f pins out p zero = seen_first out.first out.flips ∙ p.starts ∙ ap f (sym (seen_firsts pins))
pointwise_seen f pins out p (suc t) = sym (seen_tick t out.first out.flips) ∙ p.follows t ∙ ap f (sym (seen_sampled t pins))

pub pointwise_from_seen : (f : List Bool → Bool) (pins : List Waveform) (out : Waveform) → Rising out → ((n : ℕ) → seen out n ≡ f (seen_all n pins)) → Pointwise f pins out
pointwise_from_seen f pins out r h = record {
  rises = r;
  starts = sym (seen_first out.first out.flips) ∙ h zero ∙ ap f (seen_firsts pins);
  follows = λ t. seen_tick t out.first out.flips ∙ h (suc t) ∙ ap f (seen_sampled t pins);
}

-- a tick is kept where the value changes
abbrev pub kept : Bool → ℕ → List ℕ → List ℕ
kept true t ts = ts
kept false t ts = t ∷ ts

-- the ticks, n of them from `low` on, at which a value at instants changes
abbrev pub changes : (ℕ → Bool) → ℕ → ℕ → List ℕ
changes g low zero = []
changes g low (suc n) = kept (same_bool (g low) (g (suc low))) low (changes g (suc low) n)

pub kept_rising : (b : Bool) (t : ℕ) (ts : List ℕ) → T (rising_from (suc t) ts) → T (rising_from t (kept b t ts))
kept_rising true t ts r = rising_from_lower t (suc t) ts (omega arith) r
kept_rising false t ts r = from_rising_parts t t ts (omega arith) r

pub changes_rising : (g : ℕ → Bool) (low n : ℕ) → T (rising_from low (changes g low n))
changes_rising g low zero = tt
changes_rising g low (suc n) = kept_rising (same_bool (g low) (g (suc low))) low (changes g (suc low) n) (changes_rising g (suc low) n)

-- the flips at those ticks give back the value, if it changes no more after them
pub changes_seen :
    (g : ℕ → Bool) (low n m : ℕ) → low ≤ m → ((i j : ℕ) → n + low ≤ i → n + low ≤ j → g i ≡ g j) →
    seen_by m (g low) (changes g low n) ≡ g m
changes_seen g low zero m h settled = settled low m (omega arith) (omega arith)
changes_seen g low (suc n) m h settled =
    elim (cases_lt low m) [
      | inl l ↦ later_on l (changes_seen g (suc low) n m l (λ i j p q. settled i j (omega arith) (omega arith)))
      | inr l ↦ seen_before_rising low m (g low) (changes g low (suc n)) l (changes_rising g low (suc n)) ∙ ap g (omega arith)
    ]
  where
    later_on : low < m → seen_by m (g (suc low)) (changes g (suc low) n) ≡ g m → seen_by m (g low) (changes g low (suc n)) ≡ g m
    later_on l rest = elim (same_or_not (g low) (g (suc low))) [
      | inl p ↦ rw p.0 (rw p.1 rest)
      | inr p ↦ rw p.0 (seen_past m low (g low) (changes g (suc low) n) l ∙ rw p.1 rest)
    ]

-- a bound past all these ticks
abbrev pub past_ticks : List ℕ → ℕ
past_ticks [] = 0
past_ticks (t ∷ ts) = suc t + past_ticks ts

-- a bound past all flips of these waveforms
abbrev pub past : List Waveform → ℕ
past [] = 0
past (w ∷ ws) = past_ticks w.flips + past ws

pub past_ticks_lem : (u : ℕ) (ts : List ℕ) → T (has u ts) → u < past_ticks ts
past_ticks_lem u [] h = absurd h
past_ticks_lem u (t ∷ ts) h = elim (has_cases u t ts h) [ inl e ↦ omega arith | inr k ↦ omega (arith, past_ticks_lem u ts k) ]

-- past all flips the values stay
pub past_seen : (pins : List Waveform) (i j : ℕ) → past pins ≤ i → past pins ≤ j → seen_all i pins ≡ seen_all j pins
past_seen [] i j h k = refl
past_seen (w ∷ ws) i j h k =
    let p = seen_equal i j w.first w.flips alike in
    let q = past_seen ws i j (omega arith) (omega arith) in
    cc
  where
    alike : (u : ℕ) → T (has u w.flips) → ltb u i ≡ ltb u j
    alike u m = let l = past_ticks_lem u w.flips m in lt-ltb u i (omega arith) ∙ sym (lt-ltb u j (omega arith))

-- there is an output
pub output : (f : List Bool → Bool) (pins : List Waveform) → (out : Waveform) × Pointwise f pins out
output f pins = (out, pointwise_from_seen f pins out (changes_rising g 0 (past pins)) (λ n. changes_seen g 0 (past pins) n zero-le settled))
  where
    g : ℕ → Bool
    g n = f (seen_all n pins)

    out : Waveform
    out = record { first = g 0; flips = changes g 0 (past pins) }

    settled : (i j : ℕ) → past pins + 0 ≤ i → past pins + 0 ≤ j → g i ≡ g j
    settled i j h k = ap f (past_seen pins i j (omega arith) (omega arith))

-- and just one
pub output_unique : (f : List Bool → Bool) (pins : List Waveform) (v w : Waveform) → Pointwise f pins v → Pointwise f pins w → v ≡ w
output_unique f pins v w p q = determined v w p.rises q.rises (p.starts ∙ sym q.starts) (λ t. p.follows t ∙ sym (q.follows t))

-- for given pins and delay a gate has an output, and just one
pub one_output : OneOutput
one_output f pins delay = (later delay o.0, record { undelayed = o.0; pointwise = o.1; delayed = refl }, same)
  where
    o : (out : Waveform) × Pointwise f pins out
    o = output f pins

    same : (other : Waveform) → GateRule f pins delay other → other ≡ later delay o.0
    same other r = r.delayed ∙ ap (later delay) (output_unique f pins r.undelayed o.0 r.pointwise o.1)

-- the values of the pins change at a tick: some pin flips there
pub some_pin_flips : (t : ℕ) (pins : List Waveform) → (seen_all (suc t) pins ≡ seen_all t pins → ⊥) → (k : ℕ) × (k < length pins) × FlipsAt (get_or pins k (constant false)) t
some_pin_flips t [] h = absurd (h refl)
some_pin_flips t (w ∷ ws) h = elim (has_or_not t w.flips) [ inl p ↦ (0, suc-le-suc zero-le, p) | inr n ↦ further (some_pin_flips t ws (rest n)) ]
  where
    rest : (T (has t w.flips) → ⊥) → seen_all (suc t) ws ≡ seen_all t ws → ⊥
    rest n e = let p = seen_stays t w.first w.flips n in h (cc)

    further : ((k : ℕ) × (k < length ws) × FlipsAt (get_or ws k (constant false)) t) → (k : ℕ) × (k < length (w ∷ ws)) × FlipsAt (get_or (w ∷ ws) k (constant false)) t
    further a = (suc a.0, suc-le-suc a.1, a.2)

-- every flip of the output without delay is a flip of some pin at that tick
pub flips_from_pins : FlipsFromPins
flips_from_pins f pins out p t h = some_pin_flips t pins (λ e. not_own_inverse (seen out t) (sym (seen_out e)))
  where
    seen_out : seen_all (suc t) pins ≡ seen_all t pins → not (seen out t) ≡ seen out t
    seen_out e =
        sym (seen_flips 0 t out.first out.flips p.rises h)
        ∙ pointwise_seen f pins out p (suc t) ∙ ap f e ∙ sym (pointwise_seen f pins out p t)
