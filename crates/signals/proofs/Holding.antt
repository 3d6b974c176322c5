-- Holding pins by the rule is harmless: the output is the same, and its flips are flips of pins not held. Assumes nothing.
use Rattle.std.proofs.Common.{◌≡◌, ℕ, zero, suc, ◌+◌, ◌<◌, ◌≤◌, Bool, not, T, ◌⊎◌, List, [], ◌∷◌, length, Some, None, Option, sym, refl, ap, ◌∙◌, subst, inl, inr, suc-le-suc, zero-le, le_of_suc-le-suc, not-suc-le-zero, arith}
use Rattle.std.proofs.lemmas.Bool.{cases_lt}
use Rattle.signals.specs.Waveform.{Waveform, FlipsAt, flipped_by_all, final, has}
use Rattle.signals.specs.Holding.{Before, Among, Controlled, pin_at, hold_at, held_pin, with_held, HeldAt, HeldAtStart, HeldAtEnd, AllHeld, HoldingIsHarmless, FlipsFromUnheld}
use Rattle.signals.proofs.Waveforms.{same_or_not, not_own_inverse, has_here, has_there, seen_by, seen, seen_past, seen_ahead, seen_before, seen_after}
use Rattle.signals.proofs.Outputs.{seen_all, pointwise_seen, pointwise_from_seen, past, past_ticks_lem, flips_from_pins}

-- a value other than the first has had a flip
pub past_flip : (n : ℕ) (b : Bool) (fs : List ℕ) → (seen_by n b fs ≡ b → ⊥) → (u : ℕ) × T (has u fs) × (u < n)
past_flip n b [] h = absurd (h refl)
past_flip n b (f ∷ fs) h =
    elim (cases_lt f n) [ inl l ↦ (f, has_here f fs, l) | inr l ↦ further (past_flip n b fs (λ e. h (seen_ahead n f b fs l ∙ e))) ]
  where
    further : ((u : ℕ) × T (has u fs) × (u < n)) → (u : ℕ) × T (has u (f ∷ fs)) × (u < n)
    further a = (a.0, has_there a.0 f fs a.1, a.2)

-- a value other than the final one has a flip to come
pub coming_flip : (n : ℕ) (b : Bool) (fs : List ℕ) → (seen_by n b fs ≡ flipped_by_all b fs → ⊥) → (u : ℕ) × T (has u fs) × (n ≤ u)
coming_flip n b [] h = absurd (h refl)
coming_flip n b (f ∷ fs) h =
    elim (cases_lt f n) [ inl l ↦ further (coming_flip n (not b) fs (λ e. h (seen_past n f b fs l ∙ e))) | inr l ↦ (f, has_here f fs, l) ]
  where
    further : ((u : ℕ) × T (has u fs) × (n ≤ u)) → (u : ℕ) × T (has u (f ∷ fs)) × (n ≤ u)
    further a = (a.0, has_there a.0 f fs a.1, a.2)

-- a waveform that ends at another value than it starts at has a flip
pub has_flip : (w : Waveform) → (w.first ≡ final w → ⊥) → (u : ℕ) × FlipsAt w u
has_flip w h = go w.flips h
  where
    go : (fs : List ℕ) → (w.first ≡ flipped_by_all w.first fs → ⊥) → (u : ℕ) × T (has u fs)
    go [] n = absurd (n refl)
    go (f ∷ fs) n = (f, has_here f fs)

-- all flips of a pin lie before the bound past all pins
pub past_pins : (ws : List Waveform) (k u : ℕ) → FlipsAt (pin_at ws k) u → u < past ws
past_pins [] k u h = absurd h
past_pins (w ∷ ws) zero u h = omega (arith, past_ticks_lem u w.flips h)
past_pins (w ∷ ws) (suc k) u h = omega (arith, past_pins ws k u h)

-- a pin at the control value: it is among the values of the pins
pub among_pins : (cv : Bool) (n : ℕ) (ws : List Waveform) (k : ℕ) → k < length ws → seen (pin_at ws k) n ≡ cv → Among cv (seen_all n ws)
among_pins cv n [] k l e = absurd (not-suc-le-zero l)
among_pins cv n (w ∷ ws) zero l e = inl e
among_pins cv n (w ∷ ws) (suc k) l e = inr (among_pins cv n ws k (le_of_suc-le-suc l) e)

-- as many pins with held ones as without
pub held_length : (hs : List (Option Bool)) (ws : List Waveform) → length (with_held hs ws) ≡ length ws
held_length [] ws = refl
held_length (h ∷ hs) [] = refl
held_length (h ∷ hs) (w ∷ ws) = ap suc (held_length hs ws)

-- the pins one by one, with the held ones at their constants
pub held_pin_at : (hs : List (Option Bool)) (ws : List Waveform) (k : ℕ) → k < length ws → pin_at (with_held hs ws) k ≡ held_pin (hold_at hs k) (pin_at ws k)
held_pin_at [] ws k l = refl
held_pin_at (h ∷ hs) [] k l = absurd (not-suc-le-zero l)
held_pin_at (h ∷ hs) (w ∷ ws) zero l = refl
held_pin_at (h ∷ hs) (w ∷ ws) (suc k) l = held_pin_at hs ws k (le_of_suc-le-suc l)

-- a pin, as it is held, at the control value: it is among the values of the pins with the held ones at their constants
pub among_held : (cv : Bool) (n : ℕ) (hs : List (Option Bool)) (ws : List Waveform) (k : ℕ) (o : Option Bool) → k < length ws → hold_at hs k ≡ o → seen (held_pin o (pin_at ws k)) n ≡ cv → Among cv (seen_all n (with_held hs ws))
among_held cv n hs ws k o l e h =
    among_pins cv n (with_held hs ws) k (rw held_length l)
    (ap (λ (w : Waveform). seen w n) (held_pin_at hs ws k l ∙ ap (λ (x : Option Bool). held_pin x (pin_at ws k)) e) ∙ h)

-- some held pin differs from its held value at an instant
abbrev pub Differing : ℕ → List (Option Bool) → List Waveform → Type 0
Differing n hs ws = (k : ℕ) × (b : Bool) × (k < length ws) × (hold_at hs k ≡ Some b) × (seen (pin_at ws k) n ≡ b → ⊥)

-- two values are equal or not
pub other_value : (a b : Bool) → (b ≡ a) ⊎ (b ≡ a → ⊥)
other_value a b = elim (same_or_not a b) [ inl p ↦ inl (sym p.1) | inr p ↦ inr (λ e. not_own_inverse a (sym (p.1 ∙ e))) ]

-- at each instant the values with held pins are the real ones, or some held pin differs
pub alike_or_differing : (n : ℕ) (hs : List (Option Bool)) (ws : List Waveform) → (seen_all n (with_held hs ws) ≡ seen_all n ws) ⊎ Differing n hs ws
alike_or_differing n [] ws = inl refl
alike_or_differing n (h ∷ hs) [] = inl refl
alike_or_differing n (h ∷ hs) (w ∷ ws) = joined (own h) (alike_or_differing n hs ws)
  where
    own : (o : Option Bool) → (seen (held_pin o w) n ≡ seen w n) ⊎ ((b : Bool) × (o ≡ Some b) × (seen w n ≡ b → ⊥))
    own None = inl refl
    own (Some b) = elim (other_value b (seen w n)) [ inl e ↦ inl (sym e) | inr d ↦ inr (b, refl, d) ]

    joined : (seen (held_pin h w) n ≡ seen w n) ⊎ ((b : Bool) × (h ≡ Some b) × (seen w n ≡ b → ⊥)) → (seen_all n (with_held hs ws) ≡ seen_all n ws) ⊎ Differing n hs ws → (seen_all n (with_held (h ∷ hs) (w ∷ ws)) ≡ seen_all n (w ∷ ws)) ⊎ Differing n (h ∷ hs) (w ∷ ws)
    joined (inr d) rest = inr (0, d.0, suc-le-suc zero-le, d.1, d.2)
    joined (inl e) (inr d) = inr (suc d.0, d.1, suc-le-suc d.2, d.3, d.4)
    joined (inl e) (inl p) = inl (cc)

-- another pin place that ends at control, all its flips before those of q, where q has a flip
abbrev pub EarlierHolder : Bool → List Waveform → ℕ → Type 0
EarlierHolder cv ws q = (u : ℕ) × FlipsAt (pin_at ws q) u × (p : ℕ) × (p < length ws) × (final (pin_at ws p) ≡ cv) × Before (pin_at ws p) (pin_at ws q)

-- a pin that is done and ends at control: as it is held it is at control, or has such a holder
pub done_or_earlier : (cv : Bool) (ws : List Waveform) (hs : List (Option Bool)) (n q : ℕ) → AllHeld cv ws hs → q < length ws → final (pin_at ws q) ≡ cv → ((u : ℕ) → FlipsAt (pin_at ws q) u → u < n) → Among cv (seen_all n (with_held hs ws)) ⊎ EarlierHolder cv ws q
done_or_earlier cv ws hs n q held l e done = by (hold_at hs q) refl
  where
    w : Waveform
    w = pin_at ws q

    start : (b : Bool) → (b ≡ cv → ⊥) → HeldAtStart cv ws q b → EarlierHolder cv ws q
    start b d h = let a = has_flip w (λ s. d (h.value ∙ s ∙ e)) in (a.0, a.1, h.holder, h.within, h.ends, h.before)

    off : (b : Bool) → (b ≡ cv → ⊥) → HeldAt cv ws q b → EarlierHolder cv ws q
    off b d (inl h) = start b d h
    off b d (inr h) = absurd (d (h.value ∙ e))

    by : (o : Option Bool) → hold_at hs q ≡ o → Among cv (seen_all n (with_held hs ws)) ⊎ EarlierHolder cv ws q
    by None s = inl (among_held cv n hs ws q None l s (seen_after n w.first w.flips done ∙ e))
    by (Some b) s =
        elim (other_value cv b) [ inl c ↦ inl (among_held cv n hs ws q (Some b) l s c) | inr d ↦ inr (off b d (held q b l s)) ]

-- following the holders, each earlier, leads to a pin that as it is held is at control
pub earlier_control : (cv : Bool) (ws : List Waveform) (hs : List (Option Bool)) (n : ℕ) → AllHeld cv ws hs → (m q : ℕ) → q < length ws → final (pin_at ws q) ≡ cv → ((u : ℕ) → FlipsAt (pin_at ws q) u → u < n) → ((u : ℕ) → FlipsAt (pin_at ws q) u → u < m) → Among cv (seen_all n (with_held hs ws))
earlier_control cv ws hs n held zero q l e done few =
    elim (done_or_earlier cv ws hs n q held l e done) [ inl a ↦ a | inr h ↦ absurd (not-suc-le-zero (few h.0 h.1)) ]
earlier_control cv ws hs n held (suc m) q l e done few =
    elim (done_or_earlier cv ws hs n q held l e done) [
      | inl a ↦ a
      | inr h ↦ earlier_control cv ws hs n held m h.2 h.3 h.4
          (λ u k. omega (arith, h.5 u h.0 k h.1, done h.0 h.1))
          (λ u k. omega (arith, h.5 u h.0 k h.1, few h.0 h.1))
    ]

-- another pin place that starts at control, all its flips after those of q, where q has a flip
abbrev pub LaterHolder : Bool → List Waveform → ℕ → Type 0
LaterHolder cv ws q = (u : ℕ) × FlipsAt (pin_at ws q) u × (p : ℕ) × (p < length ws) × ((pin_at ws p).first ≡ cv) × Before (pin_at ws q) (pin_at ws p)

-- a pin that has not begun and starts at control: as it is held it is at control, or has such a holder
pub still_or_later : (cv : Bool) (ws : List Waveform) (hs : List (Option Bool)) (n q : ℕ) → AllHeld cv ws hs → q < length ws → (pin_at ws q).first ≡ cv → ((u : ℕ) → FlipsAt (pin_at ws q) u → n ≤ u) → Among cv (seen_all n (with_held hs ws)) ⊎ LaterHolder cv ws q
still_or_later cv ws hs n q held l e still = by (hold_at hs q) refl
  where
    w : Waveform
    w = pin_at ws q

    end : (b : Bool) → (b ≡ cv → ⊥) → HeldAtEnd cv ws q b → LaterHolder cv ws q
    end b d h = let a = has_flip w (λ s. d (h.value ∙ sym s ∙ e)) in (a.0, a.1, h.holder, h.within, h.starts, h.after)

    off : (b : Bool) → (b ≡ cv → ⊥) → HeldAt cv ws q b → LaterHolder cv ws q
    off b d (inl h) = absurd (d (h.value ∙ e))
    off b d (inr h) = end b d h

    by : (o : Option Bool) → hold_at hs q ≡ o → Among cv (seen_all n (with_held hs ws)) ⊎ LaterHolder cv ws q
    by None s = inl (among_held cv n hs ws q None l s (seen_before n w.first w.flips still ∙ e))
    by (Some b) s =
        elim (other_value cv b) [ inl c ↦ inl (among_held cv n hs ws q (Some b) l s c) | inr d ↦ inr (off b d (held q b l s)) ]

-- following the holders, each later, leads to a pin that as it is held is at control
pub later_control : (cv : Bool) (ws : List Waveform) (hs : List (Option Bool)) (n : ℕ) → AllHeld cv ws hs → (m q : ℕ) → q < length ws → (pin_at ws q).first ≡ cv → ((u : ℕ) → FlipsAt (pin_at ws q) u → n ≤ u) → ((u : ℕ) → FlipsAt (pin_at ws q) u → past ws ≤ u + m) → Among cv (seen_all n (with_held hs ws))
later_control cv ws hs n held zero q l e still few =
    elim (still_or_later cv ws hs n q held l e still) [
      | inl a ↦ a
      | inr h ↦ absurd (omega (arith, few h.0 h.1, past_pins ws q h.0 h.1))
    ]
later_control cv ws hs n held (suc m) q l e still few =
    elim (still_or_later cv ws hs n q held l e still) [
      | inl a ↦ a
      | inr h ↦ later_control cv ws hs n held m h.2 h.3 h.4
          (λ u k. omega (arith, h.5 h.0 u h.1 k, still h.0 h.1))
          (λ u k. omega (arith, h.5 h.0 u h.1 k, few h.0 h.1))
    ]

-- where a held pin differs from its held value, the control value is among the real values and among those with held pins
pub both_at_control : (cv : Bool) (ws : List Waveform) (hs : List (Option Bool)) (n : ℕ) → AllHeld cv ws hs → Differing n hs ws → Among cv (seen_all n (with_held hs ws)) × Among cv (seen_all n ws)
both_at_control cv ws hs n held d = by (held d.0 d.1 d.2 d.3)
  where
    w : Waveform
    w = pin_at ws d.0

    by : HeldAt cv ws d.0 d.1 → Among cv (seen_all n (with_held hs ws)) × Among cv (seen_all n ws)
    by (inl h) =
        let a = past_flip n w.first w.flips (λ s. d.4 (s ∙ sym h.value)) in
        let v = pin_at ws h.holder in
        let done : (u : ℕ) → FlipsAt v u → u < n = λ u k. omega (arith, h.before u a.0 k a.1, a.2) in (
          earlier_control cv ws hs n held n h.holder h.within h.ends done done,
          among_pins cv n ws h.holder h.within (seen_after n v.first v.flips done ∙ h.ends),
        )
    by (inr h) =
        let a = coming_flip n w.first w.flips (λ s. d.4 (s ∙ sym h.value)) in
        let v = pin_at ws h.holder in
        let still : (u : ℕ) → FlipsAt v u → n ≤ u = λ u k. omega (arith, h.after a.0 u a.1 k, a.2) in (
          later_control cv ws hs n held (past ws) h.holder h.within h.starts still (λ u k. omega arith),
          among_pins cv n ws h.holder h.within (seen_before n v.first v.flips still ∙ h.starts),
        )

-- with the held pins at their constants the gate has the same value at each instant
pub held_seen : (f : List Bool → Bool) (cv : Bool) (ws : List Waveform) (hs : List (Option Bool)) → Controlled f cv → AllHeld cv ws hs → (n : ℕ) → f (seen_all n ws) ≡ f (seen_all n (with_held hs ws))
held_seen f cv ws hs controlled held n = by (alike_or_differing n hs ws)
  where
    by : (seen_all n (with_held hs ws) ≡ seen_all n ws) ⊎ Differing n hs ws → f (seen_all n ws) ≡ f (seen_all n (with_held hs ws))
    by (inl e) = ap f (sym e)
    by (inr d) = let a = both_at_control cv ws hs n held d in controlled (seen_all n ws) (seen_all n (with_held hs ws)) a.1 a.0

-- with the held pins at their constants the gate has the same output
pub holding_is_harmless : HoldingIsHarmless
holding_is_harmless f cv ws hs out controlled held p =
    pointwise_from_seen f (with_held hs ws) out p.rises (λ n. pointwise_seen f ws out p n ∙ held_seen f cv ws hs controlled held n)

-- a pin that flips as it is held is not held
pub flips_unheld : (o : Option Bool) (w : Waveform) (t : ℕ) → FlipsAt (held_pin o w) t → (o ≡ None) × FlipsAt w t
flips_unheld None w t h = (refl, h)
flips_unheld (Some b) w t h = absurd h

-- every flip of the output without delay is a flip, at that tick, of some pin place that is not held
pub flips_from_unheld : FlipsFromUnheld
flips_from_unheld f cv ws hs out controlled held p t h =
    let a = flips_from_pins f (with_held hs ws) out (holding_is_harmless f cv ws hs out controlled held p) t h in
    let l : a.0 < length ws = rw held_length at a.1 in
    let c = flips_unheld (hold_at hs a.0) (pin_at ws a.0) t (subst (λ (w : Waveform). FlipsAt w t) (held_pin_at hs ws a.0 l) a.2) in
    (a.0, l, c.0, c.1)
