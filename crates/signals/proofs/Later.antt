-- Waveforms moved later as a whole: they stay rising, keep their final value, and move the output with them. Assumes nothing.
use Rattle.std.proofs.Common.{◌≡◌, ℕ, suc, ◌+◌, ◌-◌, Bool, not, T, ltb, List, [], ◌∷◌, map, sym, refl, ap, ◌∙◌, subst, inl, inr, zero-le, arith}
use Rattle.std.proofs.lemmas.Bool.{lt-ltb, le-ltb, cases_lt}
use Rattle.signals.specs.Waveform.{Waveform, Rising, FlipsAt, rising_from, flipped_by_all, final, has, later}
use Rattle.signals.specs.GateRule.{Pointwise}
use Rattle.signals.proofs.Waveforms.{rising_parts, from_rising_parts, rising_from_lower, has_cases, has_here, has_there, seen_by, seen}
use Rattle.signals.proofs.Outputs.{seen_all, pointwise_seen, pointwise_from_seen}

-- ticks moved later by d
abbrev pub moved : ℕ → List ℕ → List ℕ
moved d ts = map (λ t. t + d) ts

pub moved_rising : (d low : ℕ) (ts : List ℕ) → T (rising_from low ts) → T (rising_from (low + d) (moved d ts))
moved_rising d low [] r = tt
moved_rising d low (t ∷ ts) r =
    let p = rising_parts low t ts r in
    from_rising_parts (low + d) (t + d) (moved d ts) (omega (arith, p.0))
    (rising_from_lower (suc (t + d)) (suc t + d) (moved d ts) (omega arith) (moved_rising d (suc t) ts p.1))

-- the flips still rise
pub rising_later : (d : ℕ) (w : Waveform) → Rising w → Rising (later d w)
rising_later d w r = rising_from_lower 0 (0 + d) (moved d w.flips) zero-le (moved_rising d 0 w.flips r)

pub moved_final : (d : ℕ) (b : Bool) (ts : List ℕ) → flipped_by_all b (moved d ts) ≡ flipped_by_all b ts
moved_final d b [] = refl
moved_final d b (t ∷ ts) = moved_final d (not b) ts

-- the final value is the same
pub final_later : (d : ℕ) (w : Waveform) → final (later d w) ≡ final w
final_later d w = moved_final d w.first w.flips

pub moved_has : (d u : ℕ) (ts : List ℕ) → T (has u ts) → T (has (u + d) (moved d ts))
moved_has d u [] h = absurd h
moved_has d u (t ∷ ts) h =
    elim (has_cases u t ts h) [
      | inl e ↦ subst (λ (x : ℕ). T (has (x + d) (moved d (t ∷ ts)))) e (has_here (t + d) (moved d ts))
      | inr k ↦ has_there (u + d) (t + d) (moved d ts) (moved_has d u ts k)
    ]

pub has_moved : (d t : ℕ) (ts : List ℕ) → T (has t (moved d ts)) → (u : ℕ) × T (has u ts) × (t ≡ u + d)
has_moved d t [] h = absurd h
has_moved d t (f ∷ fs) h =
    elim (has_cases t (f + d) (moved d fs) h) [ inl e ↦ (f, has_here f fs, sym e) | inr k ↦ further (has_moved d t fs k) ]
  where
    further : ((u : ℕ) × T (has u fs) × (t ≡ u + d)) → (u : ℕ) × T (has u (f ∷ fs)) × (t ≡ u + d)
    further a = (a.0, has_there a.0 f fs a.1, a.2)

-- a flip moves later by d
pub later_flips : (d : ℕ) (w : Waveform) (u : ℕ) → FlipsAt w u → FlipsAt (later d w) (u + d)
later_flips d w u h = moved_has d u w.flips h

-- and every flip was one that moved
pub flips_later : (d : ℕ) (w : Waveform) (t : ℕ) → FlipsAt (later d w) t → (u : ℕ) × FlipsAt w u × (t ≡ u + d)
flips_later d w t h = has_moved d t w.flips h

pub moved_before : (d f n : ℕ) → ltb (f + d) n ≡ ltb f (n - d)
moved_before d f n =
    elim (cases_lt (f + d) n) [
      | inl l ↦ lt-ltb (f + d) n l ∙ sym (lt-ltb f (n - d) (omega arith))
      | inr l ↦ le-ltb (f + d) n l ∙ sym (le-ltb f (n - d) (omega arith))
    ]

pub moved_seen : (d n : ℕ) (b : Bool) (ts : List ℕ) → seen_by n b (moved d ts) ≡ seen_by (n - d) b ts
moved_seen d n b [] = refl
moved_seen d n b (t ∷ ts) =
    let e = moved_before d t n in let p = moved_seen d n (not b) ts in let q = moved_seen d n b ts in cc

-- the value at an instant is the value d instants earlier
pub seen_later : (d : ℕ) (w : Waveform) (n : ℕ) → seen (later d w) n ≡ seen w (n - d)
seen_later d w n = moved_seen d n w.first w.flips

pub seen_all_later : (d n : ℕ) (pins : List Waveform) → seen_all n (map (later d) pins) ≡ seen_all (n - d) pins
seen_all_later d n [] = refl
seen_all_later d n (w ∷ ws) = let p = seen_later d w n in let q = seen_all_later d n ws in cc

-- with all pins moved later the output moves with them
pub pointwise_later : (f : List Bool → Bool) (d : ℕ) (pins : List Waveform) (out : Waveform) → Pointwise f pins out → Pointwise f (map (later d) pins) (later d out)
pointwise_later f d pins out p =
    pointwise_from_seen f (map (later d) pins) (later d out) (rising_later d out p.rises)
    (λ n. seen_later d out n ∙ pointwise_seen f pins out p (n - d) ∙ ap f (sym (seen_all_later d n pins)))
