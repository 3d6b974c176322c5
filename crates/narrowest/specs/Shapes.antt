-- The shape of a waveform: its first and final value, whether it flips never, once or more often, and a tick before all flips.
-- Assumes nothing.
use mathlib.Core.Path.{◌≡◌, refl, ◌∙◌}
use mathlib.Core.Bool.{Bool, true, false, not, cond}
use mathlib.Core.List.{List, [], ◌∷◌, ◌++◌}
use Prim.Native.Nat.{ℕ, zero, suc, ◌≤◌}
use native.Mathlib.Omega.{arith}
use lib.Dec.{T, ltb, lt→ltb}
use Rattle.std.proofs.Math.Facts.{yes_and}
use Rattle.signals.specs.Waveform.{Waveform, rising_from, final}
use Rattle.signals.specs.GateRule.{Pointwise}
use Rattle.signals.proofs.Waveforms.{same_bool, rising_parts, from_rising_parts, rising_from_lower}
use Rattle.signals.proofs.Apart.{apart, apart_output, apart_final, below, append_rising, cond_keeps}

-- how often a waveform flips
pub data Amount : Type 0 where
  never : Amount
  once : Amount
  often : Amount

abbrev pub amount : List ℕ → Amount
amount [] = never
amount (t ∷ []) = once
amount (t ∷ u ∷ ts) = often

abbrev pub plus : Amount → Amount → Amount
plus never n = n
plus once never = once
plus once once = often
plus once often = often
plus often n = often

amount_append : (xs ys : List ℕ) → amount (xs ++ ys) ≡ plus (amount xs) (amount ys)
amount_append [] ys = refl
amount_append (x ∷ []) [] = refl
amount_append (x ∷ []) (y ∷ []) = refl
amount_append (x ∷ []) (y ∷ z ∷ ys) = refl
amount_append (x ∷ w ∷ xs) ys = refl

-- of two lists each is kept or dropped: how many flips are left
amount_kept : (c d : Bool) (xs ys : List ℕ) → amount (cond c [] xs ++ cond d [] ys) ≡ plus (cond c never (amount xs)) (cond d never (amount ys))
amount_kept true true xs ys = refl
amount_kept true false xs ys = refl
amount_kept false true xs ys = amount_append xs []
amount_kept false false xs ys = amount_append xs ys

-- the waveform has this first and final value, flips as often as n says, and never before k
pub record Shaped (k : ℕ) (s e : Bool) (n : Amount) (w : Waveform) : Type 0 where
  pub late : T (rising_from k w.flips)
  pub starts : w.first ≡ s
  pub ends : final w ≡ e
  pub counts : amount w.flips ≡ n

-- a tick after all of these, and not before k
abbrev pub beyond : ℕ → List ℕ → ℕ
beyond k [] = k
beyond k (t ∷ ts) = beyond (suc t) ts

beyond_start : (k : ℕ) (ts : List ℕ) → T (rising_from k ts) → k ≤ beyond k ts
beyond_start k [] r = omega arith
beyond_start k (t ∷ ts) r = let p = rising_parts k t ts r in omega (arith, p.0, beyond_start (suc t) ts p.1)

beyond_below : (k : ℕ) (ts : List ℕ) → T (rising_from k ts) → T (below (beyond k ts) ts)
beyond_below k [] r = tt
beyond_below k (t ∷ ts) r =
    let p = rising_parts k t ts r in
    yes_and (ltb t _) (below _ ts) (lt→ltb t _ (beyond_start (suc t) ts p.1)) (beyond_below (suc t) ts p.1)

-- and they rise
rising_kept : (c d : Bool) (k : ℕ) (xs ys : List ℕ) → T (rising_from k xs) → T (rising_from (beyond k xs) ys) → T (rising_from k (cond c [] xs ++ cond d [] ys))
rising_kept c d k xs ys r s =
    append_rising k (beyond k xs) (cond c [] xs) (cond d [] ys) (beyond_start k xs r) (cond_keeps (rising_from k) c xs tt r)
    (cond_keeps (below (beyond k xs)) c xs tt (beyond_below k xs r)) (cond_keeps (rising_from (beyond k xs)) d ys tt s)

-- n flips from tick k on, one at each tick
abbrev pub ticks_from : ℕ → ℕ → List ℕ
ticks_from zero k = []
ticks_from (suc n) k = k ∷ ticks_from n (suc k)

ticks_rise : (n k : ℕ) → T (rising_from k (ticks_from n k))
ticks_rise zero k = tt
ticks_rise (suc n) k = from_rising_parts k k (ticks_from n (suc k)) (omega arith) (ticks_rise n (suc k))

-- a shape that some waveform has: equal ends if it never flips, different ones if it flips once
abbrev pub possible : Bool → Amount → Bool → Bool
possible s never e = same_bool s e
possible s once e = same_bool (not s) e
possible s often e = true

-- how many flips will do
abbrev flips_for : Bool → Amount → Bool → ℕ
flips_for s never e = 0
flips_for s once e = 1
flips_for s often e = cond (same_bool s e) 2 3

-- a waveform of the shape
abbrev pub made : ℕ → Bool → Amount → Bool → Waveform
made k s n e = record { first = s; flips = ticks_from (flips_for s n e) k }

pub made_shaped : (k : ℕ) (s : Bool) (n : Amount) (e : Bool) → T (possible s n e) → Shaped k s e n (made k s n e)
made_shaped k s n e t = record { late = ticks_rise (flips_for s n e) k; starts = refl; ends = ends s n e t; counts = counts s n e }
  where
    ends : (s : Bool) (n : Amount) (e : Bool) → T (possible s n e) → final (made k s n e) ≡ e
    ends true never true t = refl
    ends true never false t = absurd t
    ends false never true t = absurd t
    ends false never false t = refl
    ends true once true t = absurd t
    ends true once false t = refl
    ends false once true t = refl
    ends false once false t = absurd t
    ends true often true t = refl
    ends true often false t = refl
    ends false often true t = refl
    ends false often false t = refl

    counts : (s : Bool) (n : Amount) (e : Bool) → amount (ticks_from (flips_for s n e) k) ≡ n
    counts s never e = refl
    counts s once e = refl
    counts true often true = refl
    counts true often false = refl
    counts false often true = refl
    counts false often false = refl

-- the function ignores its first pin while the second has value b, and the other way round
abbrev pub ignores_first : (List Bool → Bool) → Bool → Bool
ignores_first f b = same_bool (f (false ∷ b ∷ [])) (f (true ∷ b ∷ []))

abbrev pub ignores_second : (List Bool → Bool) → Bool → Bool
ignores_second f b = same_bool (f (b ∷ false ∷ [])) (f (b ∷ true ∷ []))

-- how often the output flips if the first pin makes all its flips before the second makes one: those of the first count unless
-- ignored at the second's first value s, those of the second unless ignored at the first's final value e
abbrev pub amount_apart : (List Bool → Bool) → Bool → Bool → Amount → Amount → Amount
amount_apart f s e m n = plus (cond (ignores_first f s) never m) (cond (ignores_second f e) never n)

-- two waveforms apart: the output and its shape
module _ (f : List Bool → Bool) (k : ℕ) (p q p' q' : Bool) (m n : Amount) (w u : Waveform) (a : Shaped k p q m w) (b : Shaped (beyond k w.flips) p' q' n u) where
  pub apart_pointwise : Pointwise f (w ∷ u ∷ []) (apart f w u)
  apart_pointwise =
      apart_output f w u (beyond k w.flips) (rising_from_lower 0 k w.flips (omega arith) a.late) (beyond_below k w.flips a.late) b.late

  pub apart_shaped : Shaped k (f (p ∷ p' ∷ [])) (f (q ∷ q' ∷ [])) (amount_apart f p' q m n) (apart f w u)
  apart_shaped =
      record {
        late = rising_kept (ignores_first f u.first) (ignores_second f (final w)) k w.flips u.flips a.late b.late;
        starts = λ i. f (a.starts i ∷ b.starts i ∷ []);
        ends = apart_final f w u ∙ (λ i. f (a.ends i ∷ b.ends i ∷ []));
        counts =
            amount_kept (ignores_first f u.first) (ignores_second f (final w)) w.flips u.flips
            ∙ (λ i. amount_apart f (b.starts i) (a.ends i) (a.counts i) (b.counts i));
      }
