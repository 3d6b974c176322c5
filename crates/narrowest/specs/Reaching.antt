-- If each operation of an algebra reaches all that its result must hold, gate evaluation lies within each value that contains
-- every output. Assumes nothing.
use mathlib.Core.Path.{◌≡◌, sym, ap, subst, ◌∙◌}
use mathlib.Core.Bool.{Bool, true, false, not}
use mathlib.Core.List.{List, [], ◌∷◌}
use Rattle.signals.specs.Waveform.{Waveform, Rising, constant}
use Rattle.signals.specs.GateRule.{Pointwise, firsts, sampled}
use Rattle.functions.specs.declared.function.Function.{Function}
use Rattle.functions.specs.declared.function.Function.TheVariants.{Buf, Not, And, Nand, Or, Nor, Xor, Xnor}
use Rattle.functions.specs.Function.{described, all_ones, some_one, odd_ones}
use Rattle.waveform.specs.Algebra.{Ops, Sound, disj, folded_in, evaluated}
use Rattle.waveform.specs.Narrowest.{Members, Contains, Narrowest}
use Rattle.waveform.specs.Contains.{Joins, evaluated_contains, all_joins, some_joins, odd_joins}
use Rattle.waveform.specs.ClassSound.{inverted, at_inverted}

-- the outputs of one more pin together with an earlier output
abbrev pub Next : {V : Type 0} → (V → Waveform → Type 0) → (List Bool → Bool) → V → (Waveform → Type 0) → Waveform → Type 0
Next stands f x outs v = (w : Waveform) × (u : Waveform) × outs w × stands x u × Pointwise f (w ∷ u ∷ []) v

-- the outputs of all further pins, one after the other
abbrev pub Outs : {V : Type 0} → (V → Waveform → Type 0) → (List Bool → Bool) → (Waveform → Type 0) → List V → Waveform → Type 0
Outs stands f outs [] = outs
Outs stands f outs (x ∷ xs) = Outs stands f (Next stands f x outs) xs

-- the inverses of outputs
abbrev pub Inverses : (Waveform → Type 0) → Waveform → Type 0
Inverses outs v = (w : Waveform) × outs w × (v ≡ inverted w)

-- what an algebra must show: `reaches x outs` says that among the outputs there are enough to fix x
pub record Reaching {V : Type 0} (ops : Ops V) (stands : V → Waveform → Type 0) : Type 1 where
  pub reaches : V → (Waveform → Type 0) → Type 0
  pub fixes : (x y : V) (outs : Waveform → Type 0) → reaches x outs → ((v : Waveform) → outs v → stands y v) → (w : Waveform) → stands x w → stands y w
  pub zero_reaches : reaches ops.zero (λ w. w ≡ constant false)
  pub one_reaches : reaches ops.one (λ w. w ≡ constant true)
  pub neg_reaches : (x : V) (outs : Waveform → Type 0) → reaches x outs → reaches (ops.neg x) (Inverses outs)
  pub conj_reaches : (x y : V) (outs : Waveform → Type 0) → reaches x outs → reaches (ops.conj x y) (Next stands all_ones y outs)
  pub disj_reaches : (x y : V) (outs : Waveform → Type 0) → reaches x outs → reaches (disj ops x y) (Next stands some_one y outs)
  pub excl_reaches : (x y : V) (outs : Waveform → Type 0) → reaches x outs → reaches (ops.excl x y) (Next stands odd_ones y outs)

-- the output of the inverted function
pub inverted_output : (f : List Bool → Bool) (ws : List Waveform) (v : Waveform) → Pointwise f ws v → Pointwise (λ bs. not (f bs)) ws (inverted v)
inverted_output f ws v p =
    record { rises = p.rises; starts = ap not p.starts; follows = λ t. at_inverted v t ∙ ap not (p.follows t) }

module _ {V : Type 0} (stands : V → Waveform → Type 0) (f : List Bool → Bool) (unit : Bool) (joins : Joins f unit) where
  -- an output of the first two pins in place of them
  joined : (w u v out : Waveform) (ws : List Waveform) → Pointwise f (w ∷ u ∷ []) v → Pointwise f (v ∷ ws) out → Pointwise f (w ∷ u ∷ ws) out
  joined w u v out ws p q =
      record {
        rises = q.rises;
        starts = q.starts ∙ (ap (λ b. f (b ∷ firsts ws)) p.starts ∙ sym (joins.of_two _ _ _));
        follows = λ t. q.follows t ∙ (ap (λ b. f (b ∷ sampled t ws)) (p.follows t) ∙ sym (joins.of_two _ _ _));
      }

  -- what is made pin by pin is an output of all pins together
  pub spread : (outs : Waveform → Type 0) → ((w : Waveform) → outs w → Rising w) → (xs : List V) (v : Waveform) → Outs stands f outs xs v
      → (w : Waveform) × (ws : List Waveform) × outs w × Members stands xs ws × Pointwise f (w ∷ ws) v
  spread outs rising [] v o =
      (v, [], o, tt, record { rises = rising v o; starts = sym (joins.of_one _); follows = λ t. sym (joins.of_one _) })
  spread outs rising (x ∷ xs) v o = go (spread (Next stands f x outs) (λ w n. n.4.rises) xs v o)
    where
      go : ((u : Waveform) × (us : List Waveform) × Next stands f x outs u × Members stands xs us × Pointwise f (u ∷ us) v)
          → (w : Waveform) × (ws : List Waveform) × outs w × Members stands (x ∷ xs) ws × Pointwise f (w ∷ ws) v
      go (u, us, (w, y, ow, sy, p), ms, q) = (w, y ∷ us, ow, (sy, ms), joined w y u v us p q)

  -- what is made pin by pin from the unit is an output
  pub outputs : (xs : List V) (v : Waveform) → Outs stands f (λ w. w ≡ constant unit) xs v → (ws : List Waveform) × Members stands xs ws × Pointwise f ws v
  outputs xs v o = go (spread (λ w. w ≡ constant unit) (λ w e. subst Rising (sym e) tt) xs v o)
    where
      go : ((w : Waveform) × (ws : List Waveform) × (w ≡ constant unit) × Members stands xs ws × Pointwise f (w ∷ ws) v)
          → (ws : List Waveform) × Members stands xs ws × Pointwise f ws v
      go (w, ws, e, ms, p) =
          let q : Pointwise f (constant unit ∷ ws) v = subst (λ (x : Waveform). Pointwise f (x ∷ ws) v) e p in
          (ws, ms, record { rises = q.rises; starts = q.starts ∙ joins.of_unit _; follows = λ t. q.follows t ∙ joins.of_unit _ })

-- the fold reaches its value among all the outputs
folds : {V : Type 0} (stands : V → Waveform → Type 0) (f : List Bool → Bool) (op : V → V → V) (reaches : V → (Waveform → Type 0) → Type 0)
    → ((x y : V) (outs : Waveform → Type 0) → reaches x outs → reaches (op x y) (Next stands f y outs))
    → (x : V) (outs : Waveform → Type 0) → reaches x outs → (ys : List V) → reaches (folded_in op x ys) (Outs stands f outs ys)
folds stands f op reaches step x outs h [] = h
folds stands f op reaches step x outs h (y ∷ ys) = folds stands f op reaches step (op x y) (Next stands f y outs) (step x y outs h) ys

module _ {V : Type 0} (ops : Ops V) (stands : V → Waveform → Type 0) (reaching : Reaching ops stands) where
  -- a value reached among the outputs lies within each value that contains them
  straight : (f : List Bool → Bool) (unit : Bool) → Joins f unit → (x : V) (pins : List V) → reaching.reaches x (Outs stands f (λ w. w ≡ constant unit) pins)
      → (u : V) → Contains stands f pins u → (w : Waveform) → stands x w → stands u w
  straight f unit joins x pins h u all = reaching.fixes x u _ h go
    where
      go : (v : Waveform) → Outs stands f (λ w. w ≡ constant unit) pins v → stands u v
      go v o = let p = outputs stands f unit joins pins v o in all p.0 p.1 v p.2

  -- the same for the inverse
  inverse : (f : List Bool → Bool) (unit : Bool) → Joins f unit → (x : V) (pins : List V) → reaching.reaches x (Outs stands f (λ w. w ≡ constant unit) pins)
      → (u : V) → Contains stands (λ bs. not (f bs)) pins u → (w : Waveform) → stands (ops.neg x) w → stands u w
  inverse f unit joins x pins h u all = reaching.fixes (ops.neg x) u _ (reaching.neg_reaches x _ h) go
    where
      go : (v : Waveform) → Inverses (Outs stands f (λ w. w ≡ constant unit) pins) v → stands u v
      go v (w, o, e) =
          let p = outputs stands f unit joins pins w o in
          subst (stands u) (sym e) (all p.0 p.1 (inverted w) (inverted_output f p.0 w p.2))

  conj_folds : (pins : List V) → reaching.reaches (folded_in ops.conj ops.one pins) (Outs stands all_ones (λ w. w ≡ constant true) pins)
  conj_folds pins = folds stands all_ones ops.conj reaching.reaches reaching.conj_reaches ops.one _ reaching.one_reaches pins

  disj_folds : (pins : List V) → reaching.reaches (folded_in (disj ops) ops.zero pins) (Outs stands some_one (λ w. w ≡ constant false) pins)
  disj_folds pins = folds stands some_one (disj ops) reaching.reaches reaching.disj_reaches ops.zero _ reaching.zero_reaches pins

  excl_folds : (pins : List V) → reaching.reaches (folded_in ops.excl ops.zero pins) (Outs stands odd_ones (λ w. w ≡ constant false) pins)
  excl_folds pins = folds stands odd_ones ops.excl reaching.reaches reaching.excl_reaches ops.zero _ reaching.zero_reaches pins

  -- gate evaluation lies within each value that contains every output
  pub least : (f : Function) (pins : List V) (u : V) → Contains stands (described f).truth pins u → (w : Waveform) → stands (evaluated ops f pins) w → stands u w
  least Buf pins = straight all_ones true all_joins _ pins (conj_folds pins)
  least Not pins = inverse all_ones true all_joins _ pins (conj_folds pins)
  least And pins = straight all_ones true all_joins _ pins (conj_folds pins)
  least Nand pins = inverse all_ones true all_joins _ pins (conj_folds pins)
  least Or pins = straight some_one false some_joins _ pins (disj_folds pins)
  least Nor pins = inverse some_one false some_joins _ pins (disj_folds pins)
  least Xor pins = straight odd_ones false odd_joins _ pins (excl_folds pins)
  least Xnor pins = inverse odd_ones false odd_joins _ pins (excl_folds pins)

  -- so where each result also contains every output, it is the narrowest value that does
  pub narrowest_by : Sound ops stands → (f : Function) (pins : List V) → Narrowest stands (described f).truth pins (evaluated ops f pins)
  narrowest_by sound f pins = record { contains = evaluated_contains ops stands sound f pins; least = least f pins }

-- a value that contains every output and equals one that lies within each such value is the narrowest
pub narrowest_from : {V : Type 0} (stands : V → Waveform → Type 0) (truth : List Bool → Bool) (pins : List V) (v r : V)
    → ((u : V) → Contains stands truth pins u → (w : Waveform) → stands v w → stands u w)
    → r ≡ v → Contains stands truth pins r → Narrowest stands truth pins r
narrowest_from stands truth pins v r within e c =
    record { contains = c; least = λ u all w s. within u all w (subst (λ x. stands x w) e s) }
