-- The three values as a switching algebra of constant waveforms. Assumes nothing.
use Rattle.std.specs.Prelude.{◌≡◌, ℕ, Bool, true, false, T, List, [], ◌∷◌, refl}
use Rattle.std.proofs.Common.{sym, ap, subst, ◌∙◌}
use Rattle.signals.specs.Waveform.{Waveform, Rising, rising_from, flipped_by, at, constant}
use Rattle.signals.specs.GateRule.{Pointwise}
use Rattle.signals.proofs.Waveforms.{determined}
use Rattle.classes.specs.declared.three.Three.{Three}
use Rattle.classes.specs.declared.three.Three.TheVariants.{Zero, One, Unknown}
use Rattle.functions.specs.Function.{all_ones, odd_ones}
use Rattle.classes.specs.Three.{described, Stands}
use Rattle.waveform.specs.Algebra.{Sound, inverse}
use Rattle.waveform.specs.Ops.{neg_three, conj_three, excl_three, three_ops}

-- each operation allows what the Boolean operation gives of what its arguments allow
pub neg_allows : (v : Three) (a : Bool) → T ((described v).allows a) → T ((described (neg_three v)).allows (inverse (a ∷ [])))
neg_allows Zero true h = h
neg_allows Zero false h = tt
neg_allows One true h = tt
neg_allows One false h = h
neg_allows Unknown a h = tt

pub conj_allows : (v u : Three) (a b : Bool) → T ((described v).allows a) → T ((described u).allows b) → T ((described (conj_three v u)).allows (all_ones (a ∷ b ∷ [])))
conj_allows Zero u true b h k = absurd h
conj_allows Zero u false b h k = tt
conj_allows One u true true h k = k
conj_allows One u true false h k = k
conj_allows One u false b h k = absurd h
conj_allows Unknown Zero a true h k = absurd k
conj_allows Unknown Zero true false h k = tt
conj_allows Unknown Zero false false h k = tt
conj_allows Unknown One a b h k = tt
conj_allows Unknown Unknown a b h k = tt

pub excl_allows : (v u : Three) (a b : Bool) → T ((described v).allows a) → T ((described u).allows b) → T ((described (excl_three v u)).allows (odd_ones (a ∷ b ∷ [])))
excl_allows Zero u true b h k = absurd h
excl_allows Zero u false true h k = k
excl_allows Zero u false false h k = k
excl_allows One u true true h k = neg_allows u true k
excl_allows One u true false h k = neg_allows u false k
excl_allows One u false b h k = absurd h
excl_allows Unknown u a b h k = tt

-- a constant waveform is at its first value at every tick
stays : (w : Waveform) → w.flips ≡ [] → (t : ℕ) → at w t ≡ w.first
stays w e t = ap (flipped_by t w.first) e

-- a waveform that is at its first value at every tick never flips
never_flips : (w : Waveform) → Rising w → ((t : ℕ) → at w t ≡ w.first) → w.flips ≡ []
never_flips w r h = ap (λ v. v.flips) (determined w (constant w.first) r tt refl h)

-- the output of constant waveforms is constant
still_of_one : (f : List Bool → Bool) (w out : Waveform) → w.flips ≡ [] → Pointwise f (w ∷ []) out → out.flips ≡ []
still_of_one f w out e p =
    never_flips out p.rises (λ t. p.follows t ∙ ap (λ a. f (a ∷ [])) (stays w e t) ∙ sym p.starts)

still_of_two : (f : List Bool → Bool) (w u out : Waveform) → w.flips ≡ [] → u.flips ≡ [] → Pointwise f (w ∷ u ∷ []) out → out.flips ≡ []
still_of_two f w u out e k p =
    never_flips out p.rises
    (λ t. p.follows t ∙ ap (λ a. f (a ∷ at u t ∷ [])) (stays w e t) ∙ ap (λ b. f (w.first ∷ b ∷ [])) (stays u k t) ∙ sym p.starts)

-- a value that is allowed, under another name for it
pub allowed_as : (v : Three) {a b : Bool} → a ≡ b → T ((described v).allows b) → T ((described v).allows a)
allowed_as v e h = subst (λ (x : Bool). T ((described v).allows x)) (sym e) h

pub three_sound : Sound three_ops Stands
three_sound = record {
  rises = λ x w s. subst (λ (fs : List ℕ). T (rising_from 0 fs)) (sym s.still) tt;
  zero_stands = record { still = refl; allowed = tt };
  one_stands = record { still = refl; allowed = tt };
  neg_contains = λ x w out s p. record {
    still = still_of_one inverse w out s.still p;
    allowed = allowed_as (neg_three x) p.starts (neg_allows x w.first s.allowed);
  };
  conj_contains = λ x y w u out s k p. record {
    still = still_of_two all_ones w u out s.still k.still p;
    allowed = allowed_as (conj_three x y) p.starts (conj_allows x y w.first u.first s.allowed k.allowed);
  };
  excl_contains = λ x y w u out s k p. record {
    still = still_of_two odd_ones w u out s.still k.still p;
    allowed = allowed_as (excl_three x y) p.starts (excl_allows x y w.first u.first s.allowed k.allowed);
  };
}
