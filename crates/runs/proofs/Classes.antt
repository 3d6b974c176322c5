-- Waveforms of clean and of constant classes: how often they flip. Assumes nothing.
use Rattle.std.proofs.Common.{◌≡◌, ℕ, Bool, true, false, not, T, List, [], ◌∷◌, sym, refl, subst, inl, inr}
use Rattle.std.proofs.lemmas.Bool.{false≢true}
use Rattle.std.proofs.Math.Facts.{and_yes}
use Rattle.signals.specs.Waveform.{Waveform, FlipsAt, has}
use Rattle.signals.proofs.Waveforms.{has_cases, has_here}
use Rattle.classes.specs.declared.class.Class.{Class}
use Rattle.classes.specs.Class.{Middle, low, high, rise, fall, free, none, single, moves, described, In, constant_middle, clean_middle, is_constant, is_clean}

-- a list of one tick has that tick and no other
single_tick : (ts : List ℕ) → T (single ts) → (t : ℕ) × T (has t ts) × ((u : ℕ) → T (has u ts) → u ≡ t)
single_tick [] h = absurd h
single_tick (t ∷ []) h = (t, has_here t [], λ u p. elim (has_cases u t [] p) [ inl e ↦ sym e | inr q ↦ absurd q ])
single_tick (t ∷ s ∷ ts) h = absurd h

no_ticks : (ts : List ℕ) → T (none ts) → ts ≡ []
no_ticks [] h = refl
no_ticks (t ∷ ts) h = absurd h

clean_single : (m : Middle) (w : Waveform) → T (moves m w) → clean_middle m ≡ true → T (single w.flips)
clean_single low w h e = absurd (false≢true e)
clean_single high w h e = absurd (false≢true e)
clean_single rise w h e = (and_yes (not w.first) (single w.flips) h).1
clean_single fall w h e = (and_yes w.first (single w.flips) h).1
clean_single free w h e = absurd (false≢true e)

constant_none : (m : Middle) (w : Waveform) → T (moves m w) → constant_middle m ≡ true → T (none w.flips)
constant_none low w h e = (and_yes (not w.first) (none w.flips) h).1
constant_none high w h e = (and_yes w.first (none w.flips) h).1
constant_none rise w h e = absurd (false≢true e)
constant_none fall w h e = absurd (false≢true e)
constant_none free w h e = absurd (false≢true e)

-- a waveform of a clean class flips exactly once
pub clean_once : {c : Class} {w : Waveform} → In c w → is_clean c ≡ true → (t : ℕ) × FlipsAt w t × ((u : ℕ) → FlipsAt w u → u ≡ t)
clean_once {c} {w} i e = single_tick w.flips (clean_single (described c).middle w i.moving e)

-- a waveform of a constant class has no flips
pub constant_still : {c : Class} {w : Waveform} → In c w → is_constant c ≡ true → w.flips ≡ []
constant_still {c} {w} i e = no_ticks w.flips (constant_none (described c).middle w i.moving e)

pub constant_never : {c : Class} {w : Waveform} → In c w → is_constant c ≡ true → (t : ℕ) → FlipsAt w t → ⊥
constant_never i e t h = subst (λ (ts : List ℕ). T (has t ts)) (constant_still i e) h

-- so a class whose waveform flips is not constant
pub flip_not_constant : {c : Class} {w : Waveform} → In c w → (t : ℕ) → FlipsAt w t → is_constant c ≡ false
flip_not_constant {c} {w} i t h = go (is_constant c) refl
  where
    go : (b : Bool) → is_constant c ≡ b → b ≡ false
    go true e = absurd (constant_never i e t h)
    go false e = refl
