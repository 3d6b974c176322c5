-- A gate's value contains every output of the gate: proved once, from the laws of a switching algebra. Assumes nothing.
use Rattle.std.specs.Prelude.{◌≡◌, Bool, true, false, not, List, [], ◌∷◌, refl}
use Rattle.std.proofs.Common.{sym, ap, subst, ◌∙◌}
use Rattle.std.proofs.Math.Bool.{and-true, or-false, not-not}
use Rattle.signals.specs.Waveform.{Waveform, Rising, at, constant}
use Rattle.signals.specs.GateRule.{Pointwise, firsts, sampled}
use Rattle.signals.proofs.Waveforms.{determined}
use Rattle.signals.proofs.Outputs.{output}
use Rattle.functions.specs.declared.function.Function.{Function}
use Rattle.functions.specs.declared.function.Function.TheVariants.{Buf, Not, And, Nand, Or, Nor, Xor, Xnor}
use Rattle.functions.specs.Function.{described, all_ones, some_one, odd_ones}
use Rattle.waveform.specs.Algebra.{Ops, Sound, disj, folded_in, evaluated, inverse}
use Rattle.waveform.specs.Narrowest.{Members, Contains}

-- a function of Booleans that may take the first two together first, and of one is that one
pub record Joins (whole : List Bool → Bool) (unit : Bool) : Type 0 where
  pub of_unit : (bs : List Bool) → whole (unit ∷ bs) ≡ whole bs
  pub of_one : (b : Bool) → whole (b ∷ []) ≡ b
  pub of_two : (a b : Bool) (bs : List Bool) → whole (a ∷ b ∷ bs) ≡ whole (whole (a ∷ b ∷ []) ∷ bs)

pub all_joins : Joins all_ones true
all_joins = record { of_unit = λ bs. refl; of_one = and-true; of_two = two }
  where
    two : (a b : Bool) (bs : List Bool) → all_ones (a ∷ b ∷ bs) ≡ all_ones (all_ones (a ∷ b ∷ []) ∷ bs)
    two true true bs = refl
    two true false bs = refl
    two false true bs = refl
    two false false bs = refl

pub some_joins : Joins some_one false
some_joins = record { of_unit = λ bs. refl; of_one = or-false; of_two = two }
  where
    two : (a b : Bool) (bs : List Bool) → some_one (a ∷ b ∷ bs) ≡ some_one (some_one (a ∷ b ∷ []) ∷ bs)
    two true true bs = refl
    two true false bs = refl
    two false true bs = refl
    two false false bs = refl

pub odd_joins : Joins odd_ones false
odd_joins = record { of_unit = λ bs. refl; of_one = one; of_two = two }
  where
    one : (b : Bool) → odd_ones (b ∷ []) ≡ b
    one true = refl
    one false = refl

    two : (a b : Bool) (bs : List Bool) → odd_ones (a ∷ b ∷ bs) ≡ odd_ones (odd_ones (a ∷ b ∷ []) ∷ bs)
    two true true bs = not-not (odd_ones bs)
    two true false bs = refl
    two false true bs = refl
    two false false bs = refl

-- the output does not change when its first two pins are taken together first
joined : (whole : List Bool → Bool) (unit : Bool) → Joins whole unit → (v w u out : Waveform) (ws : List Waveform) → Pointwise whole (v ∷ w ∷ ws) out → Pointwise whole (v ∷ w ∷ []) u → Pointwise whole (u ∷ ws) out
joined whole unit j v w u out ws p q = record {
  rises = p.rises;
  starts = p.starts ∙ j.of_two v.first w.first (firsts ws) ∙ ap (λ b. whole (b ∷ firsts ws)) (sym q.starts);
  follows = λ t. p.follows t ∙ j.of_two (at v t) (at w t) (sampled t ws) ∙ ap (λ b. whole (b ∷ sampled t ws)) (sym (q.follows t));
}

-- the output of a function that gives its one pin back is that pin's waveform
pub same_as_pin : (whole : List Bool → Bool) → ((b : Bool) → whole (b ∷ []) ≡ b) → (v out : Waveform) → Rising v → Pointwise whole (v ∷ []) out → v ≡ out
same_as_pin whole one v out r p =
    determined v out r p.rises (sym (p.starts ∙ one v.first)) (λ t. sym (p.follows t ∙ one (at v t)))

module _ {V : Type 0} (ops : Ops V) (stands : V → Waveform → Type 0) (sound : Sound ops stands) where
  fold_contains : (op : V → V → V) (whole : List Bool → Bool) (unit : Bool) → Joins whole unit →
      ((x y : V) (w u out : Waveform) → stands x w → stands y u → Pointwise whole (w ∷ u ∷ []) out → stands (op x y) out) →
      (a : V) (v : Waveform) (xs : List V) (ws : List Waveform) (out : Waveform) →
      stands a v → Members stands xs ws → Pointwise whole (v ∷ ws) out → stands (folded_in op a xs) out
  fold_contains op whole unit j step a v [] [] out s m p = subst (stands a) (same_as_pin whole j.of_one v out (sound.rises a v s) p) s
  fold_contains op whole unit j step a v [] (w ∷ ws) out s m p = absurd m
  fold_contains op whole unit j step a v (x ∷ xs) [] out s m p = absurd m
  fold_contains op whole unit j step a v (x ∷ xs) (w ∷ ws) out s m p =
      let u = output whole (v ∷ w ∷ []) in
      fold_contains op whole unit j step (op a x) u.0 xs ws out (step a x v w u.0 s m.0 u.1) m.1
      (joined whole unit j v w u.0 out ws p u.1)

  -- a fold that starts at the unit contains what the function gives of all pins
  whole_contains : (op : V → V → V) (whole : List Bool → Bool) (unit : Bool) → Joins whole unit →
      ((x y : V) (w u out : Waveform) → stands x w → stands y u → Pointwise whole (w ∷ u ∷ []) out → stands (op x y) out) →
      (a : V) → stands a (constant unit) → (pins : List V) → Contains stands whole pins (folded_in op a pins)
  whole_contains op whole unit j step a s pins ws m out p =
      fold_contains op whole unit j step a (constant unit) pins ws out s m
      (record { rises = p.rises; starts = p.starts ∙ sym (j.of_unit (firsts ws)); follows = λ t. p.follows t ∙ sym (j.of_unit (sampled t ws)) })

  -- one inversion more
  inverse_contains : (truth : List Bool → Bool) (pins : List V) (x : V) → Contains stands truth pins x → Contains stands (λ bs. not (truth bs)) pins (ops.neg x)
  inverse_contains truth pins x c ws m out p =
      let u = output truth ws in
      sound.neg_contains x u.0 out (c ws m u.0 u.1)
      (record {
        rises = p.rises;
        starts = p.starts ∙ ap not (sym u.1.starts ∙ sym (and-true u.0.first));
        follows = λ t. p.follows t ∙ ap not (sym (u.1.follows t) ∙ sym (and-true (at u.0 t)));
      })

  disj_contains : (x y : V) (w u out : Waveform) → stands x w → stands y u → Pointwise some_one (w ∷ u ∷ []) out → stands (disj ops x y) out
  disj_contains x y w u out s r p =
      let nw = output inverse (w ∷ []) in
      let nu = output inverse (u ∷ []) in
      let both = output all_ones (nw.0 ∷ nu.0 ∷ []) in
      sound.neg_contains (ops.conj (ops.neg x) (ops.neg y)) both.0 out
      (sound.conj_contains (ops.neg x) (ops.neg y) nw.0 nu.0 both.0
      (sound.neg_contains x w nw.0 s nw.1) (sound.neg_contains y u nu.0 r nu.1) both.1)
      (record {
        rises = p.rises;
        starts = p.starts ∙ swapped w.first u.first ∙ back nw.1.starts nu.1.starts both.1.starts;
        follows = λ t. p.follows t ∙ swapped (at w t) (at u t) ∙ back (nw.1.follows t) (nu.1.follows t) (both.1.follows t);
      })
    where
      swapped : (a b : Bool) → some_one (a ∷ b ∷ []) ≡ inverse (all_ones (inverse (a ∷ []) ∷ inverse (b ∷ []) ∷ []) ∷ [])
      swapped true true = refl
      swapped true false = refl
      swapped false true = refl
      swapped false false = refl

      back : {a b c d e : Bool} → a ≡ d → b ≡ e → c ≡ all_ones (a ∷ b ∷ []) → inverse (all_ones (d ∷ e ∷ []) ∷ []) ≡ inverse (c ∷ [])
      back p q r = cc

  all_contains : (pins : List V) → Contains stands all_ones pins (folded_in ops.conj ops.one pins)
  all_contains = whole_contains ops.conj all_ones true all_joins sound.conj_contains ops.one sound.one_stands

  some_contains : (pins : List V) → Contains stands some_one pins (folded_in (disj ops) ops.zero pins)
  some_contains = whole_contains (disj ops) some_one false some_joins disj_contains ops.zero sound.zero_stands

  odd_contains : (pins : List V) → Contains stands odd_ones pins (folded_in ops.excl ops.zero pins)
  odd_contains = whole_contains ops.excl odd_ones false odd_joins sound.excl_contains ops.zero sound.zero_stands

  -- the value of a gate contains the gate's output, for all waveforms of its pins
  pub evaluated_contains : (f : Function) (pins : List V) → Contains stands (described f).truth pins (evaluated ops f pins)
  evaluated_contains Buf pins = all_contains pins
  evaluated_contains Not pins = inverse_contains all_ones pins _ (all_contains pins)
  evaluated_contains And pins = all_contains pins
  evaluated_contains Nand pins = inverse_contains all_ones pins _ (all_contains pins)
  evaluated_contains Or pins = some_contains pins
  evaluated_contains Nor pins = inverse_contains some_one pins _ (some_contains pins)
  evaluated_contains Xor pins = odd_contains pins
  evaluated_contains Xnor pins = inverse_contains odd_ones pins _ (odd_contains pins)
