-- A waveform lies in the same classes when all its flips move later. Assumes nothing.
use Rattle.std.proofs.Common.{◌≡◌, ℕ, suc, ◌+◌, ◌-◌, ◌≤◌, Bool, T, List, [], ◌∷◌, map, sym, refl, subst, zero-le, arith}
use Rattle.signals.specs.Waveform.{Waveform, rising_from, later}
use Rattle.signals.proofs.Waveforms.{rising_parts, from_rising_parts}
use Rattle.signals.proofs.Later.{rising_later, final_later}
use Rattle.classes.specs.Three as three
use Rattle.classes.specs.Class.{In, Middle, low, high, rise, fall, free, described, none, single, moves}
use Rattle.waveform.specs.Delay.{ClassesIgnoreDelay}

none_later : (d : ℕ) (ts : List ℕ) → none ts ≡ none (map (λ t. t + d) ts)
none_later d [] = refl
none_later d (t ∷ ts) = refl

single_later : (d : ℕ) (ts : List ℕ) → single ts ≡ single (map (λ t. t + d) ts)
single_later d [] = refl
single_later d (t ∷ ts) = none_later d ts

moves_later : (d : ℕ) (m : Middle) (w : Waveform) → moves m w ≡ moves m (later d w)
moves_later d low w = let e = none_later d w.flips in cc
moves_later d high w = let e = none_later d w.flips in cc
moves_later d rise w = let e = single_later d w.flips in cc
moves_later d fall w = let e = single_later d w.flips in cc
moves_later d free w = refl

-- flips that rise when moved later rose before
rising_earlier : (d n k : ℕ) (ts : List ℕ) → n ≤ k - d → T (rising_from k (map (λ t. t + d) ts)) → T (rising_from n ts)
rising_earlier d n k [] h r = tt
rising_earlier d n k (t ∷ ts) h r =
    let p = rising_parts k (t + d) (map (λ u. u + d) ts) r in
    from_rising_parts n t ts (omega (arith, p.0)) (rising_earlier d (suc t) (suc (t + d)) ts (omega arith) p.1)

pub classes_ignore_delay : ClassesIgnoreDelay
classes_ignore_delay c d w = (forth, back)
  where
    forth : In c w → In c (later d w)
    forth h = record {
      rises = rising_later d w h.rises;
      starts = h.starts;
      moving = subst T (moves_later d (described c).middle w) h.moving;
      ends = subst (λ (b : Bool). T ((three.described (described c).finish).allows b)) (sym (final_later d w)) h.ends;
    }

    back : In c (later d w) → In c w
    back h = record {
      rises = rising_earlier d 0 0 w.flips zero-le h.rises;
      starts = h.starts;
      moving = subst T (sym (moves_later d (described c).middle w)) h.moving;
      ends = subst (λ (b : Bool). T ((three.described (described c).finish).allows b)) (final_later d w) h.ends;
    }
