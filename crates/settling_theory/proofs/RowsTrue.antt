-- The settled rows are true in every run that meets what the source holds. Assumes nothing.
use Rattle.std.proofs.Common.{◌≡◌, ℕ, zero, suc, ◌+◌, ◌<◌, ◌≤◌, Bool, true, false, T, ◌⊎◌, List, [], ◌∷◌, map, length, get_or, Some, None, Option, sym, refl, ap, ◌∙◌, subst, subst₂, inl, inr, arith}
use Rattle.std.proofs.lemmas.List.{length-map, get_or-map}
use Rattle.std.proofs.lemmas.Bool.{cases_lt}
use Rattle.signals.specs.Waveform.{Waveform, FlipsAt, constant, final}
use Rattle.signals.specs.GateRule.{Pointwise, GateRule}
use Rattle.signals.specs.Holding.{pin_at, hold_at, held_pin, with_held, HeldAt, AllHeld}
use Rattle.signals.proofs.Outputs.{flips_from_pins}
use Rattle.signals.proofs.Later.{flips_later}
use Rattle.signals.proofs.Holding.{held_length, held_pin_at, holding_is_harmless, flips_from_unheld}
use Rattle.classes.specs.declared.three.Three.{Three}
use Rattle.classes.specs.Three as three
use Rattle.classes.specs.declared.class.Class.{Class}
use Rattle.classes.specs.declared.class.Class.TheVariants.{C000}
use Rattle.classes.specs.Class as class
use Rattle.classes.specs.Class.{In}
use Rattle.functions.specs.Function.{described}
use Rattle.waveform.specs.Ops.{class_ops}
use Rattle.waveform.specs.Narrowest.{Members}
use Rattle.waveform.specs.Contains.{evaluated_contains}
use Rattle.waveform.specs.ClassSound.{class_sound}
use Rattle.waveform.proofs.Control.{controlled}
use Rattle.waveform.proofs.Delay.{classes_ignore_delay}
use Rattle.netlist.specs.Circuit.{PlainGate, PlainCircuit, valid_circuit, net_count}
use Rattle.runs.specs.declared.row.Row.{Row}
use Rattle.runs.specs.Run.{Run, RunOf, InClasses, Before, wave, gate_at}
use Rattle.runs.specs.Row.{Caused, RowTrue, RowsTrue, held_at, row_at}
use Rattle.runs.proofs.Circuits.{gate_good, pins_few, net_cases}
use Rattle.runs.proofs.Rows.{row_at_lem, row_true}
use Rattle.runs.proofs.Flips.{Explained, explained_by, row_true_by}
use Rattle.settling_theory.specs.Settled.{Asks, pin_net, held_by, held_pins, pin_class, pin_classes, gate_class, gate_row, settled_to}
use Rattle.settling_theory.specs.Meaning.{letter, HeldRule}
use Rattle.settling_theory.proofs.Prefix.{listed_length, listed_at, rows_length, rows_same, row_of_input, row_of_gate}
use Rattle.settling_theory.proofs.Held.{held_inside, held_rule}
use Rattle.settling_theory.proofs.Bounds.{tight_rows}

-- the value that a letter allows is the one it fixes
pub allowed_value : (x : Three) (b v : Bool) → x ≡ letter b → T ((three.described x).allows v) → v ≡ b
allowed_value x true true e h = refl
allowed_value x true false e h = absurd (subst (λ (y : Three). T ((three.described y).allows false)) e h)
allowed_value x false true e h = absurd (subst (λ (y : Three). T ((three.described y).allows true)) e h)
allowed_value x false false e h = refl

-- the waveform of a class whose start letter, or end letter, fixes a value
pub first_value : {x : Class} {w : Waveform} (b : Bool) → (class.described x).start ≡ letter b → In x w → w.first ≡ b
first_value {x} {w} b e h = allowed_value (class.described x).start b w.first e h.starts

pub final_value : {x : Class} {w : Waveform} (b : Bool) → (class.described x).finish ≡ letter b → In x w → final w ≡ b
final_value {x} {w} b e h = allowed_value (class.described x).finish b (final w) e h.ends

-- with no pin held the pins are as they are
none_held : (hs : List (Option Bool)) (ws : List Waveform) → ((k : ℕ) → k < length ws → hold_at hs k ≡ None) → ws ≡ with_held hs ws
none_held [] ws h = refl
none_held (x ∷ hs) [] h = refl
none_held (x ∷ hs) (w ∷ ws) h =
    let p : held_pin x w ≡ w = ap (λ (o : Option Bool). held_pin o w) (h 0 (omega arith)) in
    let q = none_held hs ws (λ k l. h (suc k) (omega arith)) in
    cc

-- the waveforms of the pins, place by place
members_by :
    {V : Type 0} (stands : V → Waveform → Type 0) (xs : List V) (ws : List Waveform) (d : V) → length xs ≡ length ws →
    ((k : ℕ) → k < length ws → stands (get_or xs k d) (pin_at ws k)) → Members stands xs ws
members_by stands [] [] d e h = tt
members_by stands [] (w ∷ ws) d e h = absurd (omega arith)
members_by stands (x ∷ xs) [] d e h = absurd (omega arith)
members_by stands (x ∷ xs) (w ∷ ws) d e h = (h 0 (omega arith), members_by stands xs ws d (omega arith) (λ k l. h (suc k) (omega arith)))

-- a held pin's waveform is the constant that it evaluates as
pub in_held : (x : Class) (o : Option Bool) (w : Waveform) → In x w → In (pin_class x o) (held_pin o w)
in_held x None w h = h
in_held x (Some false) w h = record { rises = tt; starts = tt; moving = tt; ends = tt }
in_held x (Some true) w h = record { rises = tt; starts = tt; moving = tt; ends = tt }

-- one gate in one run: over these rows every yes holds, and the waveforms at the pins lie in the classes of their rows
module _ (asks : Asks) (rows : List Row) (run : Run) (g : PlainGate) (few : length g.pins ≤ 8)
    (yes : (q p : ℕ) → asks rows q p ≡ true → Before (wave run q) (wave run p))
    (members : (place : ℕ) → place < length g.pins → In (row_at rows (pin_net g place)).class (wave run (pin_net g place))) where
  -- the waveforms at the pins, and the values at which these are held
  abbrev pins : List Waveform
  pins = map (wave run) g.pins

  abbrev held : List (Option Bool)
  held = held_pins asks rows g

  pins_length : length pins ≡ length g.pins
  pins_length = length-map g.pins (wave run)

  pin_is : (place : ℕ) → place < length g.pins → pin_at pins place ≡ wave run (pin_net g place)
  pin_is place l = get_or-map (wave run) g.pins place 0 (constant false) l

  -- the waveform at a place lies in the class of its net's row
  pin_in : (place : ℕ) → place < length g.pins → In (row_at rows (pin_net g place)).class (pin_at pins place)
  pin_in place l = subst (In (row_at rows (pin_net g place)).class) (sym (pin_is place l)) (members place l)

  pin_before : (q p : ℕ) → q < length g.pins → p < length g.pins → asks rows (pin_net g q) (pin_net g p) ≡ true → Before (pin_at pins q) (pin_at pins p)
  pin_before q p a b e = subst₂ Before (sym (pin_is q a)) (sym (pin_is p b)) (yes (pin_net g q) (pin_net g p) e)

  -- a place held by the rule may be held in this run
  may_hold_lem : (control : Bool) (p : ℕ) (b : Bool) → p < length g.pins → HeldRule asks rows g control p b → HeldAt control pins p b
  may_hold_lem control p b l (inl r) = inl (record {
    value = sym (first_value b r.starts (pin_in p l));
    holder = r.holder;
    within = omega (arith, pins_length, r.inside);
    other = r.other;
    ends = final_value control r.ends (pin_in r.holder r.inside);
    before = pin_before r.holder p r.inside l r.before;
  })
  may_hold_lem control p b l (inr (n, r)) = inr (record {
    value = sym (final_value b r.ends (pin_in p l));
    holder = r.holder;
    within = omega (arith, pins_length, r.inside);
    other = r.other;
    starts = first_value control r.starts (pin_in r.holder r.inside);
    after = pin_before p r.holder l r.inside r.before;
  })

  all_held : (control : Bool) → (described g.function).control ≡ Some control → AllHeld control pins held
  all_held control e p b l h =
      let i : p < length g.pins = omega (arith, pins_length) in
      may_hold_lem control p b i
      (held_rule asks rows g control p b (ap (λ (o : Option Bool). held_by asks rows g o p) (sym e) ∙ sym (held_inside asks rows g p i few) ∙ h))

  -- a gate without a control value holds nothing
  nothing_held : (described g.function).control ≡ None → (p : ℕ) → p < length pins → hold_at held p ≡ None
  nothing_held e p l = held_inside asks rows g p (omega (arith, pins_length)) few ∙ ap (λ (o : Option Bool). held_by asks rows g o p) e

  -- with the held pins at their constants the output is the same
  pub held_output : (out : Waveform) → Pointwise (described g.function).truth pins out → Pointwise (described g.function).truth (with_held held pins) out
  held_output out h = go (described g.function).control refl
    where
      go : (o : Option Bool) → (described g.function).control ≡ o → Pointwise (described g.function).truth (with_held held pins) out
      go None e = subst (λ (ws : List Waveform). Pointwise (described g.function).truth ws out) (none_held held pins (nothing_held e)) h
      go (Some control) e = holding_is_harmless (described g.function).truth control pins held out (controlled g.function control e) (all_held control e) h

  -- and its flips are flips of pins that are not held
  pub held_flips :
      (out : Waveform) → Pointwise (described g.function).truth pins out → (t : ℕ) → FlipsAt out t →
      (place : ℕ) × (place < length g.pins) × (get_or held place None ≡ None) × FlipsAt (wave run (pin_net g place)) t
  held_flips out h t f = go (described g.function).control refl
    where
      at_net : (place : ℕ) → place < length g.pins → get_or held place None ≡ None → FlipsAt (pin_at pins place) t →
          (place : ℕ) × (place < length g.pins) × (get_or held place None ≡ None) × FlipsAt (wave run (pin_net g place)) t
      at_net place l u v = (place, l, u, subst (λ (w : Waveform). FlipsAt w t) (pin_is place l) v)

      go : (o : Option Bool) → (described g.function).control ≡ o →
          (place : ℕ) × (place < length g.pins) × (get_or held place None ≡ None) × FlipsAt (wave run (pin_net g place)) t
      go None e =
          let a = flips_from_pins (described g.function).truth pins out h t f in
          at_net a.0 (omega (arith, a.1, pins_length)) (nothing_held e a.0 a.1) a.2
      go (Some control) e =
          let a = flips_from_unheld (described g.function).truth control pins held out (controlled g.function control e) (all_held control e) h t f in
          at_net a.0 (omega (arith, a.1, pins_length)) a.2 a.3

  -- the pins, held ones at their constants, are members of the classes that are evaluated
  held_members : Members In (pin_classes rows g held) (with_held held pins)
  held_members =
      members_by In (pin_classes rows g held) (with_held held pins) C000
      (listed_length _ (length g.pins) ∙ sym (held_length held pins ∙ pins_length)) place_in
    where
      place_in : (k : ℕ) → k < length (with_held held pins) → In (get_or (pin_classes rows g held) k C000) (pin_at (with_held held pins) k)
      place_in k l =
          let i : k < length g.pins = omega (arith, held_length held pins, pins_length) in
          subst₂ In
          (sym (listed_at (λ place. pin_class (row_at rows (pin_net g place)).class (get_or held place None)) (length g.pins) k C000 i))
          (sym (held_pin_at held pins k (omega (arith, pins_length))))
          (in_held (row_at rows (pin_net g k)).class (get_or held k None) (pin_at pins k) (pin_in k i))

  -- so the gate's class holds its output
  pub class_holds : (delay : ℕ) (out : Waveform) → GateRule (described g.function).truth pins delay out → In (gate_class rows g held) out
  class_holds delay out r =
      subst (In (gate_class rows g held)) (sym r.delayed)
      ((classes_ignore_delay (gate_class rows g held) delay r.undelayed).0
      (evaluated_contains class_ops In class_sound g.function (pin_classes rows g held) (with_held held pins) held_members r.undelayed
      (held_output r.undelayed r.pointwise)))

  -- and each of its flips comes the delay after a flip of a pin that is not held
  pub flip_comes :
      (delay : ℕ) (out : Waveform) → GateRule (described g.function).truth pins delay out → (t : ℕ) → FlipsAt out t →
      (place : ℕ) × (place < length g.pins) × (get_or held place None ≡ None) × (cause : ℕ) × FlipsAt (wave run (pin_net g place)) cause × (t ≡ cause + delay)
  flip_comes delay out r t f =
      let u = flips_later delay r.undelayed t (subst (λ (w : Waveform). FlipsAt w t) r.delayed f) in
      let a = held_flips r.undelayed r.pointwise u.0 u.1 in
      (a.0, a.1, a.2, u.0, a.3, u.2)

-- one run in which each yes over true rows holds
module _ (asks : Asks) (c : PlainCircuit) (classes : List Class) (valid : T (valid_circuit c)) (run : Run) (of : RunOf c run) (driven : InClasses c classes run)
    (yes : (rows : List Row) → RowsTrue c rows run → (q p : ℕ) → asks rows q p ≡ true → Before (wave run q) (wave run p)) where
  -- the row of an input tells its class, and an input has no cause
  input_explained : (m n : ℕ) → n < m → n < c.inputs → Explained c (settled_to asks c classes m) run n
  input_explained m n a l = record {
    has = omega (arith, rows_length asks c classes m);
    class = subst (λ (row : Row). In row.class (wave run n)) (sym (row_of_input asks c classes m n a l)) (driven n l);
    caused = λ k e t h. absurd (omega arith);
  }

  -- the row of a gate tells its class and the causes of its flips, if the rows below are true
  gate_explained :
      (m k : ℕ) → c.inputs + k < m → k < length c.gates → RowsTrue c (settled_to asks c classes (c.inputs + k)) run →
      Explained c (settled_to asks c classes m) run (c.inputs + k)
  gate_explained m k a l below = record {
    has = omega (arith, rows_length asks c classes m);
    class =
        subst (λ (row : Row). In row.class (wave run (c.inputs + k))) (sym same)
        (class_holds asks low run (gate_at c k) few (yes low below) members delay (wave run (c.inputs + k)) (of.obeys k l));
    caused = λ j e t h. subst (λ (x : ℕ). Caused c run (row_at (settled_to asks c classes m) (c.inputs + k)) x t) (omega arith) (cause t h);
  }
    where
      low : List Row
      low = settled_to asks c classes (c.inputs + k)

      delay : ℕ
      delay = get_or run.delays k 0

      same : row_at (settled_to asks c classes m) (c.inputs + k) ≡ gate_row asks low (gate_at c k)
      same = row_of_gate asks c classes m k a

      few : length (gate_at c k).pins ≤ 8
      few = (pins_few (gate_at c k).function (length (gate_at c k).pins) (gate_good c valid k l).pin_count).1

      members : (place : ℕ) → place < length (gate_at c k).pins → In (row_at low (pin_net (gate_at c k) place)).class (wave run (pin_net (gate_at c k) place))
      members place p =
          let b = (gate_good c valid k l).lower place p in
          (row_true c low run below (pin_net (gate_at c k) place) (omega arith) (omega (arith, rows_length asks c classes (c.inputs + k)))).class

      cause : (t : ℕ) → FlipsAt (wave run (c.inputs + k)) t → Caused c run (row_at (settled_to asks c classes m) (c.inputs + k)) k t
      cause t h =
          let u = flip_comes asks low run (gate_at c k) few (yes low below) members delay (wave run (c.inputs + k)) (of.obeys k l) t h in
          record { place = u.0; cause = u.3; exists = u.1; unheld = ap (λ (row : Row). held_at row u.0) same ∙ u.2; flips = u.4; delayed = u.5 }

  -- true rows stay true in a longer list
  still_true : (m n k : ℕ) → k < m → k < n → k < net_count c → RowsTrue c (settled_to asks c classes m) run → RowTrue c run k (row_at (settled_to asks c classes n) k)
  still_true m n k a b l h =
      subst (RowTrue c run k) (rows_same asks c classes m n k a b)
      (row_true c (settled_to asks c classes m) run h k l (omega (arith, rows_length asks c classes m)))

  explained_new : (n : ℕ) → n < net_count c → RowsTrue c (settled_to asks c classes n) run → Explained c (settled_to asks c classes (suc n)) run n
  explained_new n l below = elim (net_cases c n l) [ inl p ↦ input_explained (suc n) n (omega arith) p | inr p ↦ gate p.0 p.1 p.2 ]
    where
      gate : (k : ℕ) → k < length c.gates → n ≡ c.inputs + k → Explained c (settled_to asks c classes (suc n)) run n
      gate k p e =
          subst (Explained c (settled_to asks c classes (suc n)) run) (sym e)
          (gate_explained (suc n) k (omega arith) p (subst (λ (x : ℕ). RowsTrue c (settled_to asks c classes x) run) e below))

  -- one row more
  new_true : (n : ℕ) → n < net_count c → RowsTrue c (settled_to asks c classes n) run → RowTrue c run n (row_at (settled_to asks c classes (suc n)) n)
  new_true n l below =
      row_true_by c (settled_to asks c classes (suc n)) run valid of n l explained (λ i. tight_rows asks c classes valid (suc n) n i (omega arith) l)
    where
      explained : (j : ℕ) → j ≤ n → Explained c (settled_to asks c classes (suc n)) run j
      explained j b = elim (cases_lt j n) [
        | inl a ↦ explained_by c (settled_to asks c classes (suc n)) run j (omega (arith, rows_length asks c classes (suc n))) (still_true n (suc n) j a (omega arith) (omega arith) below)
        | inr a ↦ subst (Explained c (settled_to asks c classes (suc n)) run) (omega arith) (explained_new n l below)
      ]

  pub rows_true : (n : ℕ) → n ≤ net_count c → RowsTrue c (settled_to asks c classes n) run
  rows_true zero l = λ k d h. absurd (omega (arith, h.1))
  rows_true (suc n) l = more (rows_true n (omega arith))
    where
      more : RowsTrue c (settled_to asks c classes n) run → RowsTrue c (settled_to asks c classes (suc n)) run
      more below k d h = subst (RowTrue c run k) (sym (row_at_lem (settled_to asks c classes (suc n)) k d h.1)) (by (cases_lt k n))
        where
          by : (k < n) ⊎ (n ≤ k) → RowTrue c run k (row_at (settled_to asks c classes (suc n)) k)
          by (inl a) = still_true n (suc n) k a (omega arith) h.0 below
          by (inr a) = subst (λ (x : ℕ). RowTrue c run x (row_at (settled_to asks c classes (suc n)) x)) (omega (arith, h.1, rows_length asks c classes (suc n))) (new_true n l below)
