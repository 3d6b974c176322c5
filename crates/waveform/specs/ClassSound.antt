-- The thirteen classes as a switching algebra: each operation contains what the waveforms of its arguments give. Assumes nothing.
use Rattle.std.specs.Prelude.{◌≡◌, ℕ, suc, ◌≤◌, Bool, true, false, cond, not, ◌&&◌, ◌||◌, T, ◌⊎◌, List, [], ◌∷◌, nat_le, refl}
use Rattle.std.proofs.Common.{sym, ap, subst, ◌∙◌, inl, inr, arith, leb→le, le→leb}
use Rattle.std.proofs.Math.Path.{subst₂}
use Rattle.std.proofs.Math.Bool.{and-true, not-not}
use Rattle.std.proofs.lemmas.Bool.{cases_lt}
use Rattle.std.proofs.Math.Facts.{and_yes, or_yes}
use Rattle.signals.specs.Waveform.{Waveform, Rising, at, final, flipped_by_all, constant}
use Rattle.signals.specs.GateRule.{Pointwise}
use Rattle.signals.proofs.Waveforms.{determined, seen_tick, seen_not}
use Rattle.signals.proofs.Finals.{finals}
use Rattle.classes.specs.declared.three.Three.{Three}
use Rattle.classes.specs.declared.three.Three.TheVariants.{Zero, One, Unknown}
use Rattle.classes.specs.declared.class.Class.{Class}
use Rattle.classes.specs.declared.class.Class.TheVariants.{C000, C111, C0R1, C1F0, C0X0, C0X1, C1X0, C1X1, C0XX, C1XX, CXX0, CXX1, CXXX}
use Rattle.functions.specs.Function.{all_ones, odd_ones}
use Rattle.classes.specs.Three as three
use Rattle.classes.specs.Class.{In, Middle, low, high, rise, fall, free, described, none, single, moves, is_clean}
use Rattle.waveform.specs.Algebra.{Sound, inverse}
use Rattle.waveform.specs.Ops.{neg_three, conj_three, excl_three, free_class, same_class, neg_class, conj_class, excl_class, class_ops}
use Rattle.waveform.specs.Classes.{same_class_lem, for_each}
use Rattle.waveform.specs.Contains.{odd_joins, same_as_pin}
use Rattle.waveform.specs.ThreeSound.{neg_allows, conj_allows, excl_allows, allowed_as}

-- a test that passes if the other does
abbrev pub gives : Bool → Bool → Bool
gives true b = b
gives false b = true

pub given : (a b : Bool) → T (gives a b) → T a → T b
given true b h k = h
given false b h k = absurd k

-- a class chosen by a test
pub by_test : (P : Class → Type 0) (b : Bool) (x y : Class) → (T b → P x) → P y → P (cond b x y)
by_test P true x y h k = h tt
by_test P false x y h k = k

-- a rising waveform that starts and ends as the letters allow lies in their class with middle X
pub in_free : (a z : Three) (w : Waveform) → Rising w → T ((three.described a).allows w.first) → T ((three.described z).allows (final w)) → In (free_class a z) w
in_free Zero Zero w r s e = record { rises = r; starts = s; moving = tt; ends = e }
in_free Zero One w r s e = record { rises = r; starts = s; moving = tt; ends = e }
in_free Zero Unknown w r s e = record { rises = r; starts = s; moving = tt; ends = e }
in_free One Zero w r s e = record { rises = r; starts = s; moving = tt; ends = e }
in_free One One w r s e = record { rises = r; starts = s; moving = tt; ends = e }
in_free One Unknown w r s e = record { rises = r; starts = s; moving = tt; ends = e }
in_free Unknown Zero w r s e = record { rises = r; starts = s; moving = tt; ends = e }
in_free Unknown One w r s e = record { rises = r; starts = s; moving = tt; ends = e }
in_free Unknown Unknown w r s e = record { rises = r; starts = s; moving = tt; ends = e }

-- the waveforms of the constant and the clean classes
pub is_low : (b : Bool) (fs : List ℕ) → T (moves low (record { first = b; flips = fs })) → constant false ≡ record { first = b; flips = fs }
is_low true fs h = absurd h
is_low false [] h = refl
is_low false (t ∷ ts) h = absurd h

pub is_high : (b : Bool) (fs : List ℕ) → T (moves high (record { first = b; flips = fs })) → constant true ≡ record { first = b; flips = fs }
is_high true [] h = refl
is_high true (t ∷ ts) h = absurd h
is_high false fs h = absurd h

-- one flip at tick t
abbrev pub once : Bool → ℕ → Waveform
once b t = record { first = b; flips = t ∷ [] }

pub is_rise : (b : Bool) (fs : List ℕ) → T (moves rise (record { first = b; flips = fs })) → (t : ℕ) × (record { first = b; flips = fs } ≡ once false t)
is_rise true fs h = absurd h
is_rise false [] h = absurd h
is_rise false (t ∷ []) h = (t, refl)
is_rise false (t ∷ u ∷ us) h = absurd h

pub is_fall : (b : Bool) (fs : List ℕ) → T (moves fall (record { first = b; flips = fs })) → (t : ℕ) × (record { first = b; flips = fs } ≡ once true t)
is_fall true [] h = absurd h
is_fall true (t ∷ []) h = (t, refl)
is_fall true (t ∷ u ∷ us) h = absurd h
is_fall false fs h = absurd h

-- two pins in the other order
swap_and : (a b : Bool) → all_ones (a ∷ b ∷ []) ≡ all_ones (b ∷ a ∷ [])
swap_and true true = refl
swap_and true false = refl
swap_and false true = refl
swap_and false false = refl

swap_odd : (a b : Bool) → odd_ones (a ∷ b ∷ []) ≡ odd_ones (b ∷ a ∷ [])
swap_odd true true = refl
swap_odd true false = refl
swap_odd false true = refl
swap_odd false false = refl

pub swapped : (f : List Bool → Bool) → ((a b : Bool) → f (a ∷ b ∷ []) ≡ f (b ∷ a ∷ [])) → (w u out : Waveform) → Pointwise f (w ∷ u ∷ []) out → Pointwise f (u ∷ w ∷ []) out
swapped f e w u out p = record {
  rises = p.rises;
  starts = p.starts ∙ e w.first u.first;
  follows = λ t. p.follows t ∙ e (at w t) (at u t);
}

-- the inverted waveform
abbrev pub inverted : Waveform → Waveform
inverted w = record { first = not w.first; flips = w.flips }

pub at_inverted : (w : Waveform) (t : ℕ) → at (inverted w) t ≡ not (at w t)
at_inverted w t =
    seen_tick t (not w.first) w.flips ∙ seen_not (suc t) w.first w.flips ∙ ap not (sym (seen_tick t w.first w.flips))

final_inverted : (b : Bool) (fs : List ℕ) → flipped_by_all (not b) fs ≡ not (flipped_by_all b fs)
final_inverted b [] = refl
final_inverted b (f ∷ fs) = final_inverted (not b) fs

-- the letters of the inverted class
abbrev neg_middle : Middle → Middle
neg_middle low = high
neg_middle high = low
neg_middle rise = fall
neg_middle fall = rise
neg_middle free = free

neg_letters : (c : Class) → (neg_three (described c).start ≡ (described (neg_class c)).start) × (neg_middle (described c).middle ≡ (described (neg_class c)).middle) × (neg_three (described c).finish ≡ (described (neg_class c)).finish)
neg_letters C000 = (refl, refl, refl)
neg_letters C111 = (refl, refl, refl)
neg_letters C0R1 = (refl, refl, refl)
neg_letters C1F0 = (refl, refl, refl)
neg_letters C0X0 = (refl, refl, refl)
neg_letters C0X1 = (refl, refl, refl)
neg_letters C1X0 = (refl, refl, refl)
neg_letters C1X1 = (refl, refl, refl)
neg_letters C0XX = (refl, refl, refl)
neg_letters C1XX = (refl, refl, refl)
neg_letters CXX0 = (refl, refl, refl)
neg_letters CXX1 = (refl, refl, refl)
neg_letters CXXX = (refl, refl, refl)

neg_moves : (m : Middle) (w : Waveform) → T (moves m w) → T (moves (neg_middle m) (inverted w))
neg_moves low w h = h
neg_moves high w h = subst (λ (b : Bool). T (b && none w.flips)) (sym (not-not w.first)) h
neg_moves rise w h = h
neg_moves fall w h = subst (λ (b : Bool). T (b && single w.flips)) (sym (not-not w.first)) h
neg_moves free w h = tt

pub in_inverted : (c : Class) (w : Waveform) → In c w → In (neg_class c) (inverted w)
in_inverted c w h =
    let e = neg_letters c in
    let s = allowed_as (neg_three (described c).start) (ap not (sym (and-true w.first))) (neg_allows (described c).start w.first h.starts) in
    let f = allowed_as (neg_three (described c).finish) (final_inverted w.first w.flips ∙ ap not (sym (and-true (final w)))) (neg_allows (described c).finish (final w) h.ends) in
    record {
      rises = h.rises;
      starts = subst (λ (v : Three). T ((three.described v).allows (not w.first))) e.0 s;
      moving = subst (λ (m : Middle). T (moves m (inverted w))) e.1 (neg_moves (described c).middle w h.moving);
      ends = subst (λ (v : Three). T ((three.described v).allows (final (inverted w)))) e.2 f;
    }

neg_contains : (c : Class) (w out : Waveform) → In c w → Pointwise inverse (w ∷ []) out → In (neg_class c) out
neg_contains c w out h p =
    subst (In (neg_class c))
    (determined (inverted w) out h.rises p.rises
    (sym (p.starts ∙ ap not (and-true w.first)))
    (λ t. at_inverted w t ∙ sym (p.follows t ∙ ap not (and-true (at w t)))))
    (in_inverted c w h)

-- a pin that is constant, and what the other pin then makes of the output
module _ (c d : Class) (w u out : Waveform) (h : In c w) (k : In d u) where
  low_pin : T (same_class c C000) → constant false ≡ w
  low_pin t = is_low w.first w.flips (subst (λ (x : Class). In x w) (same_class_lem c C000 t) h).moving

  high_pin : T (same_class c C111) → constant true ≡ w
  high_pin t = is_high w.first w.flips (subst (λ (x : Class). In x w) (same_class_lem c C111 t) h).moving

  -- with the first pin constant the output is one of the second pin alone
  second_pin : (f g : List Bool → Bool) (b : Bool) → ((a : Bool) → f (b ∷ a ∷ []) ≡ g (a ∷ [])) → constant b ≡ w → Pointwise f (w ∷ u ∷ []) out → Pointwise g (u ∷ []) out
  second_pin f g b same e p =
      let q = subst (λ (v : Waveform). Pointwise f (v ∷ u ∷ []) out) (sym e) p in
      record { rises = q.rises; starts = q.starts ∙ same u.first; follows = λ n. q.follows n ∙ same (at u n) }

  and_low : T (same_class c C000) → Pointwise all_ones (w ∷ u ∷ []) out → In C000 out
  and_low t p =
      let q = second_pin all_ones (λ bs. false) false (λ a. refl) (low_pin t) p in
      subst (In C000) (determined (constant false) out tt q.rises (sym q.starts) (λ n. sym (q.follows n)))
      (record { rises = tt; starts = tt; moving = tt; ends = tt })

  and_high : T (same_class c C111) → Pointwise all_ones (w ∷ u ∷ []) out → In d out
  and_high t p = subst (In d) (same_as_pin all_ones and-true u out k.rises (second_pin all_ones all_ones true (λ a. refl) (high_pin t) p)) k

  odd_low : T (same_class c C000) → Pointwise odd_ones (w ∷ u ∷ []) out → In d out
  odd_low t p = subst (In d) (same_as_pin odd_ones odd_joins.of_one u out k.rises (second_pin odd_ones odd_ones false (λ a. refl) (low_pin t) p)) k

  odd_high : T (same_class c C111) → Pointwise odd_ones (w ∷ u ∷ []) out → In (neg_class d) out
  odd_high t p = neg_contains d u out k (second_pin odd_ones inverse true turned (high_pin t) p)
    where
      turned : (b : Bool) → odd_ones (true ∷ b ∷ []) ≡ inverse (b ∷ [])
      turned true = refl
      turned false = refl

-- of two rises the later one decides, of two falls the earlier one
later_rise : (a b : Bool) → (T b → T a) → all_ones (cond a true false ∷ cond b true false ∷ []) ≡ cond b true false
later_rise true true h = refl
later_rise true false h = refl
later_rise false true h = absurd (h tt)
later_rise false false h = refl

earlier_fall : (a b : Bool) → (T b → T a) → all_ones (cond a false true ∷ cond b false true ∷ []) ≡ cond a false true
earlier_fall true true h = refl
earlier_fall true false h = refl
earlier_fall false true h = absurd (h tt)
earlier_fall false false h = refl

reached_first : (s t n : ℕ) → s ≤ t → T (nat_le t n) → T (nat_le s n)
reached_first s t n h k = le→leb s n (omega (arith, leb→le t n k))

ordered_rises : (s t : ℕ) (w u out : Waveform) → w ≡ once false s → u ≡ once false t → s ≤ t → In C0R1 u → Pointwise all_ones (w ∷ u ∷ []) out → In C0R1 out
ordered_rises s t w u out e f l k p =
    let k' : In C0R1 (once false t) = subst (In C0R1) f k in
    let p' : Pointwise all_ones (once false s ∷ once false t ∷ []) out = subst₂ (λ v x. Pointwise all_ones (v ∷ x ∷ []) out) e f p in
    subst (In C0R1)
    (determined (once false t) out k'.rises p'.rises (sym p'.starts)
    (λ n. sym (p'.follows n ∙ later_rise (nat_le s n) (nat_le t n) (reached_first s t n l))))
    k'

ordered_falls : (s t : ℕ) (w u out : Waveform) → w ≡ once true s → u ≡ once true t → s ≤ t → In C1F0 w → Pointwise all_ones (w ∷ u ∷ []) out → In C1F0 out
ordered_falls s t w u out e f l h p =
    let h' : In C1F0 (once true s) = subst (In C1F0) e h in
    let p' : Pointwise all_ones (once true s ∷ once true t ∷ []) out = subst₂ (λ v x. Pointwise all_ones (v ∷ x ∷ []) out) e f p in
    subst (In C1F0)
    (determined (once true s) out h'.rises p'.rises (sym p'.starts)
    (λ n. sym (p'.follows n ∙ earlier_fall (nat_le s n) (nat_le t n) (reached_first s t n l))))
    h'

-- what holds if the first pin flips no later than the second holds of pins in any order
in_order : (c : Class) (b : Bool) →
    ((s t : ℕ) (w u out : Waveform) → w ≡ once b s → u ≡ once b t → s ≤ t → In c w → In c u → Pointwise all_ones (w ∷ u ∷ []) out → In c out) →
    (w u out : Waveform) → (s : ℕ) × (w ≡ once b s) → (t : ℕ) × (u ≡ once b t) → In c w → In c u → Pointwise all_ones (w ∷ u ∷ []) out → In c out
in_order c b ordered w u out (s, e) (t, f) h k p =
    elim (cases_lt s t) [
      | inl l ↦ ordered s t w u out e f (omega arith) h k p
      | inr l ↦ ordered t s u w out f e l k h (swapped all_ones swap_and w u out p)
    ]

two_rises : (w u out : Waveform) → In C0R1 w → In C0R1 u → Pointwise all_ones (w ∷ u ∷ []) out → In C0R1 out
two_rises w u out h k =
    in_order C0R1 false (λ s t v x o e f l i j. ordered_rises s t v x o e f l j)
    w u out (is_rise w.first w.flips h.moving) (is_rise u.first u.flips k.moving) h k

two_falls : (w u out : Waveform) → In C1F0 w → In C1F0 u → Pointwise all_ones (w ∷ u ∷ []) out → In C1F0 out
two_falls w u out h k =
    in_order C1F0 true (λ s t v x o e f l i j. ordered_falls s t v x o e f l i)
    w u out (is_fall w.first w.flips h.moving) (is_fall u.first u.flips k.moving) h k

-- a clean class is 0R1 or 1F0
pub clean_cases : (c : Class) → T (is_clean c) → T (same_class c C0R1) ⊎ T (same_class c C1F0)
clean_cases c h =
    or_yes (same_class c C0R1) (same_class c C1F0)
    (given (is_clean c) (same_class c C0R1 || same_class c C1F0) (for_each (λ x. gives (is_clean x) (same_class x C0R1 || same_class x C1F0)) tt c) h)

clean_contains : (c d : Class) (w u out : Waveform) → T (is_clean c && same_class c d) → In c w → In d u → Pointwise all_ones (w ∷ u ∷ []) out → In c out
clean_contains c d w u out t h k p =
    let q = and_yes (is_clean c) (same_class c d) t in
    let k' : In c u = subst (λ (x : Class). In x u) (sym (same_class_lem c d q.1)) k in
    elim (clean_cases c q.0) [ inl e ↦ as_class C0R1 (same_class_lem c C0R1 e) k' two_rises | inr e ↦ as_class C1F0 (same_class_lem c C1F0 e) k' two_falls ]
  where
    as_class : (x : Class) → c ≡ x → In c u → ((v y o : Waveform) → In x v → In x y → Pointwise all_ones (v ∷ y ∷ []) o → In x o) → In c out
    as_class x e m f = subst (λ (z : Class). In z out) (sym e) (f w u out (subst (λ (z : Class). In z w) e h) (subst (λ (z : Class). In z u) e m) p)

-- start and end letters alone
free_contains : (f : List Bool → Bool) (g : Three → Three → Three) →
    ((v y : Three) (a b : Bool) → T ((three.described v).allows a) → T ((three.described y).allows b) → T ((three.described (g v y)).allows (f (a ∷ b ∷ [])))) →
    (c d : Class) (w u out : Waveform) → In c w → In d u → Pointwise f (w ∷ u ∷ []) out →
    In (free_class (g (described c).start (described d).start) (g (described c).finish (described d).finish)) out
free_contains f g allow c d w u out h k p =
    in_free (g (described c).start (described d).start) (g (described c).finish (described d).finish) out p.rises
    (allowed_as (g (described c).start (described d).start) p.starts (allow (described c).start (described d).start w.first u.first h.starts k.starts))
    (allowed_as (g (described c).finish (described d).finish) (finals f (w ∷ u ∷ []) out p) (allow (described c).finish (described d).finish (final w) (final u) h.ends k.ends))

conj_contains : (c d : Class) (w u out : Waveform) → In c w → In d u → Pointwise all_ones (w ∷ u ∷ []) out → In (conj_class c d) out
conj_contains c d w u out h k p =
    let p' = swapped all_ones swap_and w u out p in
    let R : Class → Type 0 = λ x. In x out in
    by_test R (same_class c C000 || same_class d C000) C000 _
    (λ t. elim (or_yes (same_class c C000) (same_class d C000) t) [ inl e ↦ and_low c d w u out h k e p | inr e ↦ and_low d c u w out k h e p' ])
    (by_test R (same_class c C111) d _ (λ t. and_high c d w u out h k t p)
    (by_test R (same_class d C111) c _ (λ t. and_high d c u w out k h t p')
    (by_test R (is_clean c && same_class c d) c _ (λ t. clean_contains c d w u out t h k p)
    (free_contains all_ones conj_three conj_allows c d w u out h k p))))

excl_contains : (c d : Class) (w u out : Waveform) → In c w → In d u → Pointwise odd_ones (w ∷ u ∷ []) out → In (excl_class c d) out
excl_contains c d w u out h k p =
    let p' = swapped odd_ones swap_odd w u out p in
    let R : Class → Type 0 = λ x. In x out in
    by_test R (same_class c C000) d _ (λ t. odd_low c d w u out h k t p)
    (by_test R (same_class d C000) c _ (λ t. odd_low d c u w out k h t p')
    (by_test R (same_class c C111) (neg_class d) _ (λ t. odd_high c d w u out h k t p)
    (by_test R (same_class d C111) (neg_class c) _ (λ t. odd_high d c u w out k h t p')
    (free_contains odd_ones excl_three excl_allows c d w u out h k p))))

pub class_sound : Sound class_ops In
class_sound = record {
  rises = λ c w h. h.rises;
  zero_stands = record { rises = tt; starts = tt; moving = tt; ends = tt };
  one_stands = record { rises = tt; starts = tt; moving = tt; ends = tt };
  neg_contains = neg_contains;
  conj_contains = conj_contains;
  excl_contains = excl_contains;
}
