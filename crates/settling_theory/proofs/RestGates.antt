-- Holding pins does not change the start and end letters of a gate, if there is a run in which each yes holds. Assumes nothing.
use Rattle.std.proofs.Common.{◌≡◌, ℕ, zero, suc, ◌+◌, ◌-◌, ◌<◌, ◌≤◌, Bool, true, false, T, ◌⊎◌, List, map, length, get_or, Some, None, Option, sym, refl, ap, ◌∙◌, subst, inl, inr, arith}
use Rattle.std.proofs.lemmas.List.{get_or-map}
use Rattle.std.proofs.lemmas.Bool.{cases_lt}
use Rattle.signals.specs.Waveform.{Waveform, FlipsAt, constant}
use Rattle.signals.proofs.Outputs.{past}
use Rattle.signals.proofs.Holding.{other_value, has_flip, past_pins}
use Rattle.classes.specs.declared.three.Three.{Three}
use Rattle.classes.specs.declared.three.Three.TheVariants.{Zero, One, Unknown}
use Rattle.classes.specs.declared.class.Class.{Class}
use Rattle.functions.specs.declared.function.Function.{Function}
use Rattle.functions.specs.Function as function
use Rattle.classes.specs.Class.{In, described}
use Rattle.waveform.specs.Algebra.{evaluated}
use Rattle.waveform.specs.Ops.{three_ops, class_ops}
use Rattle.netlist.specs.Circuit.{PlainGate}
use Rattle.runs.specs.declared.row.Row.{Row}
use Rattle.runs.specs.Run.{Run, Before, wave}
use Rattle.runs.specs.Row.{row_at}
use Rattle.settling_theory.specs.Settled.{Asks, listed, start_of, end_of, pin_net, held_by, held_pins, pin_class, pin_classes, gate_class}
use Rattle.settling_theory.specs.Meaning.{letter, StartRule, EndRule, HeldRule}
use Rattle.settling_theory.proofs.Prefix.{listed_alike}
use Rattle.settling_theory.proofs.Held.{held_inside, held_rule}
use Rattle.settling_theory.proofs.RowsTrue.{first_value, final_value}
use Rattle.settling_theory.proofs.Letters.{map_listed, map_places, same_letter, same_letter_lem, Keeps, start_keeps, end_keeps, evaluated_kept, control_decides}

-- two values of one letter are one
letter_one : (a b : Bool) → letter a ≡ letter b → a ≡ b
letter_one true true e = refl
letter_one true false e = absurd (let z : ◌≡◌ {A = ℕ} 0 1 = cc in omega arith)
letter_one false true e = absurd (let z : ◌≡◌ {A = ℕ} 0 1 = cc in omega arith)
letter_one false false e = refl

-- the test passes for equal letters
letter_same : (x y : Three) → x ≡ y → T (same_letter x y)
letter_same x y e = subst (λ (v : Three). T (same_letter x v)) e (own x)
  where
    own : (v : Three) → T (same_letter v v)
    own Zero = tt
    own One = tt
    own Unknown = tt

-- a test that passes at each place, or fails at one
all_or_one : (p : ℕ → Bool) (n : ℕ) → ((k : ℕ) → k < n → T (p k)) ⊎ ((k : ℕ) × (k < n) × (T (p k) → ⊥))
all_or_one p zero = inl (λ k l. absurd (omega arith))
all_or_one p (suc n) = joined (all_or_one p n) (own (p n))
  where
    own : (b : Bool) → T b ⊎ (T b → ⊥)
    own true = inl tt
    own false = inr (λ h. h)

    joined : ((k : ℕ) → k < n → T (p k)) ⊎ ((k : ℕ) × (k < n) × (T (p k) → ⊥)) → T (p n) ⊎ (T (p n) → ⊥) → ((k : ℕ) → k < suc n → T (p k)) ⊎ ((k : ℕ) × (k < suc n) × (T (p k) → ⊥))
    joined (inr s) h = inr (s.0, omega (arith, s.1), s.2)
    joined (inl a) (inr f) = inr (n, omega arith, f)
    joined (inl a) (inl h) = inl (λ k l. elim (cases_lt k n) [ inl m ↦ a k m | inr m ↦ subst (λ (j : ℕ). T (p j)) (omega arith) h ])

-- the letters of a gate's places, as they are and with the held ones fixed: a place is held at its own letter or has a holder, that is
-- a place with the control value's letter; and from a holder that is held off control another one leads nearer to an end
record Side (n : ℕ) (cv : Bool) (hold : ℕ → Option Bool) (real fixed : ℕ → Three) (Within : ℕ → ℕ → Type 0) : Type 0 where
  reached : (k : ℕ) → k < n → (m : ℕ) × Within m k
  unheld : (k : ℕ) → hold k ≡ None → fixed k ≡ real k
  held : (k : ℕ) (b : Bool) → hold k ≡ Some b → fixed k ≡ letter b
  holder : (k : ℕ) (b : Bool) → k < n → hold k ≡ Some b → (real k ≡ letter b) ⊎ ((q : ℕ) × (q < n) × (real q ≡ letter cv))
  nearer : (k : ℕ) (b : Bool) (m : ℕ) → k < n → hold k ≡ Some b → real k ≡ letter cv → (b ≡ cv → ⊥) → Within m k →
      (q : ℕ) × (q < n) × (real q ≡ letter cv) × (l : ℕ) × (m ≡ suc l) × Within l q

module _ (n : ℕ) (cv : Bool) (hold : ℕ → Option Bool) (real fixed : ℕ → Three) (Within : ℕ → ℕ → Type 0) (s : Side n cv hold real fixed Within) where
  -- a place with the control value's letter is fixed at control, or another such place lies nearer to an end
  fixed_or_nearer : (m q : ℕ) → q < n → real q ≡ letter cv → Within m q →
      (fixed q ≡ letter cv) ⊎ ((p : ℕ) × (p < n) × (real p ≡ letter cv) × (l : ℕ) × (m ≡ suc l) × Within l p)
  fixed_or_nearer m q l e w = by (hold q) refl
    where
      by : (o : Option Bool) → hold q ≡ o → (fixed q ≡ letter cv) ⊎ ((p : ℕ) × (p < n) × (real p ≡ letter cv) × (l : ℕ) × (m ≡ suc l) × Within l p)
      by None h = inl (s.unheld q h ∙ e)
      by (Some b) h = elim (other_value cv b) [ inl c ↦ inl (s.held q b h ∙ ap letter c) | inr d ↦ inr (s.nearer q b m l h e d w) ]

  -- following the holders leads to a place that is fixed at control
  fixed_at_control : (m q : ℕ) → q < n → real q ≡ letter cv → Within m q → (j : ℕ) × (j < n) × (fixed j ≡ letter cv)
  fixed_at_control zero q l e w = elim (fixed_or_nearer zero q l e w) [ inl a ↦ (q, l, a) | inr h ↦ absurd (omega (arith, h.4)) ]
  fixed_at_control (suc m) q l e w = elim (fixed_or_nearer (suc m) q l e w) [
    | inl a ↦ (q, l, a)
    | inr h ↦ fixed_at_control m h.0 h.1 h.2 (subst (λ (k : ℕ). Within k h.0) (omega (arith, h.4)) h.5)
  ]

  -- the gate makes the same of the letters with the held ones fixed
  fixed_alike : (f : Function) → (function.described f).control ≡ Some cv → evaluated three_ops f (listed fixed n) ≡ evaluated three_ops f (listed real n)
  fixed_alike f controls = by (all_or_one (λ k. same_letter (fixed k) (real k)) n)
    where
      apart : (k : ℕ) → k < n → (fixed k ≡ real k → ⊥) → (o : Option Bool) → hold k ≡ o → evaluated three_ops f (listed fixed n) ≡ evaluated three_ops f (listed real n)
      apart k l d None h = absurd (d (s.unheld k h))
      apart k l d (Some b) h = elim (s.holder k b l h) [
        | inl e ↦ absurd (d (s.held k b h ∙ sym e))
        | inr q ↦
            let r = s.reached q.0 q.1 in
            let j = fixed_at_control r.0 q.0 q.1 q.2 r.1 in
            control_decides f cv controls fixed real n j.0 q.0 j.1 j.2 q.1 q.2
      ]

      by : ((k : ℕ) → k < n → T (same_letter (fixed k) (real k))) ⊎ ((k : ℕ) × (k < n) × (T (same_letter (fixed k) (real k)) → ⊥)) →
          evaluated three_ops f (listed fixed n) ≡ evaluated three_ops f (listed real n)
      by (inl a) = ap (evaluated three_ops f) (listed_alike fixed real n (λ k l. same_letter_lem (fixed k) (real k) (a k l)))
      by (inr (k, l, d)) = apart k l (λ e. d (letter_same (fixed k) (real k) e)) (hold k) refl

-- the letters of a pin that is held at b
fixed_start : (c : Class) (b : Bool) → (described (pin_class c (Some b))).start ≡ letter b
fixed_start c true = refl
fixed_start c false = refl

fixed_end : (c : Class) (b : Bool) → (described (pin_class c (Some b))).finish ≡ letter b
fixed_end c true = refl
fixed_end c false = refl

-- what a place is held at, and its class with the held places constant
abbrev hold_at : Asks → List Row → PlainGate → ℕ → Option Bool
hold_at asks rows g k = get_or (held_pins asks rows g) k None

abbrev fixed_class : Asks → List Row → PlainGate → ℕ → Class
fixed_class asks rows g k = pin_class (row_at rows (pin_net g k)).class (hold_at asks rows g k)

-- all flips of the waveform come before tick m
abbrev DoneBy : ℕ → Waveform → Type 0
DoneBy m w = (u : ℕ) → FlipsAt w u → u < m

-- each flip of the waveform comes at most m ticks before tick `last`
abbrev StillFor : ℕ → ℕ → Waveform → Type 0
StillFor last m w = (u : ℕ) → FlipsAt w u → last ≤ u + m

-- one gate in one run: over these rows every yes holds, and the waveforms at the pins lie in the classes of their rows
module _ (asks : Asks) (rows : List Row) (run : Run) (g : PlainGate) (few : length g.pins ≤ 8)
    (yes : (q p : ℕ) → asks rows q p ≡ true → Before (wave run q) (wave run p))
    (members : (place : ℕ) → place < length g.pins → In (row_at rows (pin_net g place)).class (wave run (pin_net g place))) where
  -- the waveform at a place
  abbrev pin : ℕ → Waveform
  pin k = wave run (pin_net g k)

  -- a tick after all flips of the pins
  last : ℕ
  last = past (map (wave run) g.pins)

  done_by_last : (k : ℕ) → k < length g.pins → DoneBy last (pin k)
  unfolding last
  done_by_last k l u f = past_pins (map (wave run) g.pins) k u (subst (λ (w : Waveform). FlipsAt w u) (sym (get_or-map (wave run) g.pins k 0 (constant false) l)) f)

  module _ (cv : Bool) (controls : (function.described g.function).control ≡ Some cv) where
    -- a place that is held is held by the rule
    rule : (k : ℕ) (b : Bool) → k < length g.pins → hold_at asks rows g k ≡ Some b → HeldRule asks rows g cv k b
    rule k b l h =
        held_rule asks rows g cv k b (ap (λ (o : Option Bool). held_by asks rows g o k) (sym controls) ∙ sym (held_inside asks rows g k l few) ∙ h)

    -- the end letters: holders end at control, each before the one that it holds
    end_side : Side (length g.pins) cv (hold_at asks rows g) (λ k. end_of rows (pin_net g k)) (λ k. (described (fixed_class asks rows g k)).finish) (λ m k. DoneBy m (pin k))
    end_side = record {
      reached = λ k l. (last, done_by_last k l);
      unheld = λ k h. ap (λ (o : Option Bool). (described (pin_class (row_at rows (pin_net g k)).class o)).finish) h;
      held = λ k b h. ap (λ (o : Option Bool). (described (pin_class (row_at rows (pin_net g k)).class o)).finish) h ∙ fixed_end (row_at rows (pin_net g k)).class b;
      holder = λ k b l h. elim (rule k b l h) [ inl r ↦ inr (r.holder, r.inside, r.ends) | inr r ↦ inl r.1.ends ];
      nearer = λ k b m l h e d w. elim (rule k b l h) [ inl r ↦ earlier k b m l e d w r | inr r ↦ absurd (d (letter_one b cv (sym r.1.ends ∙ e))) ];
    }
      where
        earlier : (k : ℕ) (b : Bool) (m : ℕ) → k < length g.pins → end_of rows (pin_net g k) ≡ letter cv → (b ≡ cv → ⊥) → DoneBy m (pin k) → StartRule asks rows g cv k b →
            (q : ℕ) × (q < length g.pins) × (end_of rows (pin_net g q) ≡ letter cv) × (l : ℕ) × (m ≡ suc l) × DoneBy l (pin q)
        earlier k b m l e d w r =
            let a = has_flip (pin k) (λ s. d (sym (first_value b r.starts (members k l)) ∙ s ∙ final_value cv e (members k l))) in (
              r.holder,
              r.inside,
              r.ends,
              m - 1,
              omega (arith, w a.0 a.1),
              λ u f. omega (arith, yes (pin_net g r.holder) (pin_net g k) r.before u a.0 f a.1, w a.0 a.1),
            )

    -- the start letters: holders start at control, each after the one that it holds
    start_side : Side (length g.pins) cv (hold_at asks rows g) (λ k. start_of rows (pin_net g k)) (λ k. (described (fixed_class asks rows g k)).start) (λ m k. StillFor last m (pin k))
    start_side = record {
      reached = λ k l. (last, λ u f. omega arith);
      unheld = λ k h. ap (λ (o : Option Bool). (described (pin_class (row_at rows (pin_net g k)).class o)).start) h;
      held = λ k b h. ap (λ (o : Option Bool). (described (pin_class (row_at rows (pin_net g k)).class o)).start) h ∙ fixed_start (row_at rows (pin_net g k)).class b;
      holder = λ k b l h. elim (rule k b l h) [ inl r ↦ inl r.starts | inr r ↦ inr (r.1.holder, r.1.inside, r.1.starts) ];
      nearer = λ k b m l h e d w. elim (rule k b l h) [ inl r ↦ absurd (d (letter_one b cv (sym r.starts ∙ e))) | inr r ↦ later k b m l e d w r.1 ];
    }
      where
        later : (k : ℕ) (b : Bool) (m : ℕ) → k < length g.pins → start_of rows (pin_net g k) ≡ letter cv → (b ≡ cv → ⊥) → StillFor last m (pin k) → EndRule asks rows g cv k b →
            (q : ℕ) × (q < length g.pins) × (start_of rows (pin_net g q) ≡ letter cv) × (l : ℕ) × (m ≡ suc l) × StillFor last l (pin q)
        later k b m l e d w r =
            let a = has_flip (pin k) (λ s. d (sym (final_value b r.ends (members k l)) ∙ sym s ∙ first_value cv e (members k l))) in (
              r.holder,
              r.inside,
              r.starts,
              m - 1,
              omega (arith, w a.0 a.1, done_by_last k l a.0 a.1),
              λ u f. omega (arith, yes (pin_net g k) (pin_net g r.holder) r.before a.0 u a.1 f, w a.0 a.1),
            )

  -- a letter of the gate's class is what the gate makes of that letter of its pins, if with the control value holding does not change it
  gate_letter : (h : Class → Three) → Keeps class_ops three_ops h →
      ((cv : Bool) → (function.described g.function).control ≡ Some cv →
      evaluated three_ops g.function (listed (λ k. h (fixed_class asks rows g k)) (length g.pins))
      ≡ evaluated three_ops g.function (listed (λ k. h (row_at rows (pin_net g k)).class) (length g.pins))) →
      h (gate_class rows g (held_pins asks rows g)) ≡ evaluated three_ops g.function (map (λ n. h (row_at rows n).class) g.pins)
  gate_letter h keeps alike =
      evaluated_kept class_ops three_ops h keeps g.function (pin_classes rows g (held_pins asks rows g))
      ∙ ap (evaluated three_ops g.function) (map_listed h (fixed_class asks rows g) (length g.pins))
      ∙ by (function.described g.function).control refl
      ∙ ap (evaluated three_ops g.function) (sym (map_places (λ n. h (row_at rows n).class) g.pins))
    where
      by : (o : Option Bool) → (function.described g.function).control ≡ o →
          evaluated three_ops g.function (listed (λ k. h (fixed_class asks rows g k)) (length g.pins))
          ≡ evaluated three_ops g.function (listed (λ k. h (row_at rows (pin_net g k)).class) (length g.pins))
      by None e =
          ap (evaluated three_ops g.function)
          (listed_alike (λ k. h (fixed_class asks rows g k)) (λ k. h (row_at rows (pin_net g k)).class) (length g.pins)
          (λ k l. ap (λ (o : Option Bool). h (pin_class (row_at rows (pin_net g k)).class o)) (held_inside asks rows g k l few ∙ ap (λ (o : Option Bool). held_by asks rows g o k) e)))
      by (Some cv) e = alike cv e

  -- the letters of the gate's class are what the gate makes of the letters of its pins
  pub gate_start : (described (gate_class rows g (held_pins asks rows g))).start ≡ evaluated three_ops g.function (map (start_of rows) g.pins)
  gate_start = gate_letter (λ c. (described c).start) start_keeps (λ cv e. fixed_alike (length g.pins) cv _ _ _ _ (start_side cv e) g.function e)

  pub gate_end : (described (gate_class rows g (held_pins asks rows g))).finish ≡ evaluated three_ops g.function (map (end_of rows) g.pins)
  gate_end = gate_letter (λ c. (described c).finish) end_keeps (λ cv e. fixed_alike (length g.pins) cv _ _ _ _ (end_side cv e) g.function e)
