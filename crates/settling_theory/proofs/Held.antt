-- The held pins of a settled gate are those of the rule. Assumes nothing.
use Rattle.std.proofs.Common.{◌≡◌, ℕ, zero, suc, ◌<◌, ◌≤◌, Bool, true, false, not, ◌&&◌, eqb, ltb, ◌≢◌, ◌⊎◌, List, length, get_or, Some, None, Option, sym, refl, ap, ◌∙◌, inl, inr, arith}
use Rattle.std.proofs.lemmas.Bool.{false≢true, and_parts, and_from, or_cases, or_left, or_right, not-true, not_from_false, eqb-false, ne_eqb, cases_eq, cases_lt, lt-ltb, le-ltb, cond-true, cond-false}
use Rattle.std.proofs.lemmas.Option.{none-some}
use Rattle.classes.specs.declared.three.Three.{Three}
use Rattle.classes.specs.declared.three.Three.TheVariants.{Zero, One, Unknown}
use Rattle.functions.specs.Function.{described}
use Rattle.netlist.specs.Circuit.{PlainGate}
use Rattle.runs.specs.declared.row.Row.{Row}
use Rattle.settling_theory.specs.Settled.{Asks, fixed_by, is_value, start_of, end_of, pin_net, some_other, when, or_else, held_where, held_at_start, held_at_end, held_by, held_pin, held_pins}
use Rattle.settling_theory.specs.Meaning.{letter, StartRule, EndRule, HeldRule, HeldBecause}
use Rattle.settling_theory.proofs.Prefix.{listed_at, listed_past}

-- a place that passes the test, other than p
pub some_other_lem : (passes : ℕ → Bool) (p m : ℕ) → some_other passes p m ≡ true → (q : ℕ) × (q < m) × (q ≢ p) × (passes q ≡ true)
some_other_lem passes p zero e = absurd (false≢true e)
some_other_lem passes p (suc m) e = elim (or_cases (some_other passes p m) (not (eqb m p) && passes m) e) [
  | inl h ↦ further (some_other_lem passes p m h)
  | inr h ↦ here (and_parts (not (eqb m p)) (passes m) h)
]
  where
    further : ((q : ℕ) × (q < m) × (q ≢ p) × (passes q ≡ true)) → (q : ℕ) × (q < suc m) × (q ≢ p) × (passes q ≡ true)
    further r = (r.0, omega (arith, r.1), r.2, r.3)

    here : (not (eqb m p) ≡ true) × (passes m ≡ true) → (q : ℕ) × (q < suc m) × (q ≢ p) × (passes q ≡ true)
    here r = (m, omega arith, eqb-false m p (not-true (eqb m p) r.0), r.1)

pub other_some : (passes : ℕ → Bool) (p m q : ℕ) → q < m → q ≢ p → passes q ≡ true → some_other passes p m ≡ true
other_some passes p zero q l d e = absurd (omega arith)
other_some passes p (suc m) q l d e = elim (cases_eq q m) [
  | inl h ↦ or_right (some_other passes p m) (not (eqb m p) && passes m) (here h)
  | inr h ↦ or_left (some_other passes p m) (not (eqb m p) && passes m) (other_some passes p m q (omega arith) d e)
]
  where
    here : q ≡ m → (not (eqb m p) && passes m) ≡ true
    here h = and_from (not (eqb m p)) (passes m) (not_from_false (eqb m p) (ne_eqb m p (λ s. d (h ∙ s)))) (rw (← h) e)

-- a letter that fixes a value
pub fixed_letter : (x : Three) (b : Bool) → fixed_by x ≡ Some b → x ≡ letter b
fixed_letter Zero true e = absurd (let z : ◌≡◌ {A = ℕ} 0 1 = cc in omega arith)
fixed_letter Zero false e = refl
fixed_letter One true e = refl
fixed_letter One false e = absurd (let z : ◌≡◌ {A = ℕ} 0 1 = cc in omega arith)
fixed_letter Unknown b e = absurd (none-some b e)

pub letter_fixed : (b : Bool) → fixed_by (letter b) ≡ Some b
letter_fixed true = refl
letter_fixed false = refl

pub value_letter : (x : Three) (b : Bool) → is_value x b ≡ true → x ≡ letter b
value_letter Zero true e = absurd (false≢true e)
value_letter Zero false e = refl
value_letter One true e = refl
value_letter One false e = absurd (false≢true e)
value_letter Unknown b e = absurd (false≢true e)

pub letter_value : (b : Bool) → is_value (letter b) b ≡ true
letter_value true = refl
letter_value false = refl

-- a value where the test passes
pub when_some : (t : Bool) (o : Option Bool) (b : Bool) → when t o ≡ Some b → (t ≡ true) × (o ≡ Some b)
when_some true o b e = (refl, e)
when_some false o b e = absurd (none-some b e)

-- one of two values: the first, or failing that the second
pub else_some : (x y : Option Bool) (b : Bool) → or_else x y ≡ Some b → (x ≡ Some b) ⊎ ((x ≡ None) × (y ≡ Some b))
else_some None y b e = inr (refl, e)
else_some (Some a) y b e = inl e

-- a place held by another one, whichever letter it is held at: the letter of each place, and the answer of the source about it
module _ (g : PlainGate) (letters : ℕ → Three) (asked : ℕ → Bool) (control : Bool) (own : Three) (p : ℕ) (b : Bool) where
  record Found : Type 0 where
    fixed : own ≡ letter b
    holder : ℕ
    inside : holder < length g.pins
    other : holder ≢ p
    at_control : letters holder ≡ letter control
    before : asked holder ≡ true

  found : held_where (λ q. is_value (letters q) control && asked q) own g p ≡ Some b → Found
  found e =
      let w = when_some (some_other (λ q. is_value (letters q) control && asked q) p (length g.pins)) (fixed_by own) b e in
      let s = some_other_lem (λ q. is_value (letters q) control && asked q) p (length g.pins) w.0 in
      let both = and_parts (is_value (letters s.0) control) (asked s.0) s.3 in
      record { fixed = fixed_letter own b w.1; holder = s.0; inside = s.1; other = s.2; at_control = value_letter (letters s.0) control both.0; before = both.1 }

  holds : Found → held_where (λ q. is_value (letters q) control && asked q) own g p ≡ Some b
  holds r =
      cond-true (some_other (λ q. is_value (letters q) control && asked q) p (length g.pins)) _ None
      (other_some (λ q. is_value (letters q) control && asked q) p (length g.pins) r.holder r.inside r.other
      (and_from (is_value (letters r.holder) control) (asked r.holder) (ap (λ (x : Three). is_value x control) r.at_control ∙ letter_value control) r.before))
      ∙ ap fixed_by r.fixed ∙ letter_fixed b

module _ (asks : Asks) (rows : List Row) (g : PlainGate) where
  -- held at its start value: by the rule, and the other way round
  pub start_rule : (control : Bool) (p : ℕ) (b : Bool) → held_at_start asks rows g control p ≡ Some b → StartRule asks rows g control p b
  start_rule control p b e =
      let f = found g (λ q. end_of rows (pin_net g q)) (λ q. asks rows (pin_net g q) (pin_net g p)) control (start_of rows (pin_net g p)) p b e in
      record { starts = f.fixed; holder = f.holder; inside = f.inside; other = f.other; ends = f.at_control; before = f.before }

  pub rule_start : (control : Bool) (p : ℕ) (b : Bool) → StartRule asks rows g control p b → held_at_start asks rows g control p ≡ Some b
  rule_start control p b r =
      holds g (λ q. end_of rows (pin_net g q)) (λ q. asks rows (pin_net g q) (pin_net g p)) control (start_of rows (pin_net g p)) p b
      (record { fixed = r.starts; holder = r.holder; inside = r.inside; other = r.other; at_control = r.ends; before = r.before })

  -- the same at its end value
  pub end_rule : (control : Bool) (p : ℕ) (b : Bool) → held_at_end asks rows g control p ≡ Some b → EndRule asks rows g control p b
  end_rule control p b e =
      let f = found g (λ q. start_of rows (pin_net g q)) (λ q. asks rows (pin_net g p) (pin_net g q)) control (end_of rows (pin_net g p)) p b e in
      record { ends = f.fixed; holder = f.holder; inside = f.inside; other = f.other; starts = f.at_control; before = f.before }

  pub rule_end : (control : Bool) (p : ℕ) (b : Bool) → EndRule asks rows g control p b → held_at_end asks rows g control p ≡ Some b
  rule_end control p b r =
      holds g (λ q. start_of rows (pin_net g q)) (λ q. asks rows (pin_net g p) (pin_net g q)) control (end_of rows (pin_net g p)) p b
      (record { fixed = r.ends; holder = r.holder; inside = r.inside; other = r.other; at_control = r.starts; before = r.before })

  -- a place that is held is held by the rule
  pub held_rule : (control : Bool) (p : ℕ) (b : Bool) → held_by asks rows g (Some control) p ≡ Some b → HeldRule asks rows g control p b
  held_rule control p b e = elim (else_some (held_at_start asks rows g control p) (held_at_end asks rows g control p) b e) [
    | inl h ↦ inl (start_rule control p b h)
    | inr h ↦ inr (λ x r. none-some x (sym h.0 ∙ rule_start control p x r), end_rule control p b h.1)
  ]

  pub rule_held : (control : Bool) (p : ℕ) (b : Bool) → HeldRule asks rows g control p b → held_by asks rows g (Some control) p ≡ Some b
  rule_held control p b (inl r) = ap (λ (o : Option Bool). or_else o (held_at_end asks rows g control p)) (rule_start control p b r)
  rule_held control p b (inr r) = go (held_at_start asks rows g control p) refl
    where
      go : (o : Option Bool) → held_at_start asks rows g control p ≡ o → or_else o (held_at_end asks rows g control p) ≡ Some b
      go None e = rule_end control p b r.1
      go (Some x) e = absurd (r.0 x (start_rule control p x e))

  -- what a pin place of the gate is held at, read off the list of held places
  pub held_inside : (p : ℕ) → p < length g.pins → length g.pins ≤ 8 → get_or (held_pins asks rows g) p None ≡ held_by asks rows g (described g.function).control p
  held_inside p l few =
      listed_at (held_pin asks rows g) 8 p None (omega arith) ∙ cond-true (ltb p (length g.pins)) _ _ (lt-ltb p (length g.pins) l)

  pub held_past : (p : ℕ) → length g.pins ≤ p → get_or (held_pins asks rows g) p None ≡ None
  held_past p l = elim (cases_lt p 8) [
    | inl h ↦ listed_at (held_pin asks rows g) 8 p None h ∙ cond-false (ltb p (length g.pins)) _ _ (le-ltb p (length g.pins) l)
    | inr h ↦ listed_past (held_pin asks rows g) 8 p None h
  ]

  pub held_because : length g.pins ≤ 8 → (p : ℕ) (b : Bool) → get_or (held_pins asks rows g) p None ≡ Some b → HeldBecause asks rows g p b
  held_because few p b e = elim (cases_lt p (length g.pins)) [
    | inl l ↦ inside l (described g.function).control refl (sym (held_inside p l few) ∙ e)
    | inr l ↦ absurd (none-some b (sym (held_past p l) ∙ e))
  ]
    where
      inside : p < length g.pins → (o : Option Bool) → (described g.function).control ≡ o → held_by asks rows g o p ≡ Some b → HeldBecause asks rows g p b
      inside l None s h = absurd (none-some b h)
      inside l (Some control) s h = record { inside = l; control = control; controls = s; rule = held_rule control p b h }

  pub because_held : length g.pins ≤ 8 → (p : ℕ) (b : Bool) → HeldBecause asks rows g p b → get_or (held_pins asks rows g) p None ≡ Some b
  because_held few p b h =
      held_inside p h.inside few ∙ ap (λ (o : Option Bool). held_by asks rows g o p) h.controls ∙ rule_held h.control p b h.rule
