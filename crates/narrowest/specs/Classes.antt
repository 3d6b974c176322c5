-- At the thirteen classes gate evaluation gives the narrowest class that contains every output. Assumes nothing.
use mathlib.Core.Path.{◌≡◌, refl, sym, ap, subst, subst₃, ◌∙◌}
use mathlib.Core.Bool.{Bool, true, false, not, ◌&&◌}
use mathlib.Core.List.{List, [], ◌∷◌}
use Prim.Native.Nat.{ℕ}
use native.Mathlib.Omega.{arith}
use lib.Dec.{T}
use Rattle.std.proofs.Math.Bool.{not-not}
use Rattle.std.proofs.Math.Facts.{and_yes, yes_and}
use Rattle.signals.specs.Waveform.{Waveform, Rising, constant, final}
use Rattle.signals.proofs.Waveforms.{same_bool, rising_from_lower}
use Rattle.signals.proofs.Apart.{apart, one_pin_all}
use Rattle.functions.specs.declared.function.Function.{Function}
use Rattle.classes.specs.declared.class.Class.{Class}
use Rattle.functions.specs.Function as function
use Rattle.functions.specs.Function.{all_ones, some_one, odd_ones}
use Rattle.classes.specs.Three as three
use Rattle.classes.specs.Class.{Middle, low, high, rise, fall, free, moves, described, In}
use Rattle.waveform.specs.Algebra.{disj, evaluated}
use Rattle.waveform.specs.Ops.{class_ops}
use Rattle.waveform.specs.Narrowest.{Narrowest}
use Rattle.waveform.specs.Classes.{for_each}
use Rattle.waveform.specs.ClassSound.{gives, given, inverted, swapped, class_sound}
use Rattle.narrowest.specs.Finite.{gives_from, same_is, at_booleans, at_boolean, at_booleans_lem, at_some, at_some_lem, at_classes}
use Rattle.narrowest.specs.Reaching.{Reaching, Next, Inverses, narrowest_by}
use Rattle.narrowest.specs.Shapes.{Amount, never, once, often, amount, Shaped, beyond, possible, made, made_shaped, amount_apart, apart_pointwise, apart_shaped}

-- the same amount of flips
abbrev same_amount : Amount → Amount → Bool
same_amount never never = true
same_amount never once = false
same_amount never often = false
same_amount once never = false
same_amount once once = true
same_amount once often = false
same_amount often never = false
same_amount often once = false
same_amount often often = true

amount_is : (m n : Amount) → T (same_amount m n) → m ≡ n
amount_is never never h = refl
amount_is never once h = absurd h
amount_is never often h = absurd h
amount_is once never h = absurd h
amount_is once once h = refl
amount_is once often h = absurd h
amount_is often never h = absurd h
amount_is often once h = absurd h
amount_is often often h = refl

-- a test at every amount
abbrev at_amounts : (Amount → Bool) → Bool
at_amounts p = p never && (p once && p often)

at_amount : (p : Amount → Bool) → T (at_amounts p) → (n : Amount) → T (p n)
at_amount p h never = (and_yes (p never) _ h).0
at_amount p h once = (and_yes (p once) _ (and_yes (p never) _ h).1).0
at_amount p h often = (and_yes (p once) _ (and_yes (p never) _ h).1).1

-- how often a waveform with this middle letter flips; where the letter leaves it open: often
abbrev asked : Middle → Amount
asked low = never
asked high = never
asked rise = once
asked fall = once
asked free = often

-- the same for a class
abbrev flips_of : Class → Amount
flips_of c = asked (described c).middle

-- the class allows these ends
abbrev allowed : Class → Bool → Bool → Bool
allowed c s e = (three.described (described c).start).allows s && (three.described (described c).finish).allows e

-- the middle letter allows this amount of flips after this first value
abbrev fits : Middle → Bool → Amount → Bool
fits low s n = not s && same_amount n never
fits high s n = s && same_amount n never
fits rise s n = not s && same_amount n once
fits fall s n = s && same_amount n once
fits free s n = true

-- the class holds the waveforms of this shape
abbrev holds : Class → Bool → Amount → Bool → Bool
holds c s n e = allowed c s e && fits (described c).middle s n

-- membership is a matter of shape
moves_fits : (m : Middle) (b : Bool) (ts : List ℕ) → moves m (record { first = b; flips = ts }) ≡ fits m b (amount ts)
moves_fits low b [] = refl
moves_fits low b (t ∷ []) = refl
moves_fits low b (t ∷ u ∷ ts) = refl
moves_fits high b [] = refl
moves_fits high b (t ∷ []) = refl
moves_fits high b (t ∷ u ∷ ts) = refl
moves_fits rise b [] = refl
moves_fits rise b (t ∷ []) = refl
moves_fits rise b (t ∷ u ∷ ts) = refl
moves_fits fall b [] = refl
moves_fits fall b (t ∷ []) = refl
moves_fits fall b (t ∷ u ∷ ts) = refl
moves_fits free b ts = refl

in_holds : (c : Class) (w : Waveform) → In c w → T (holds c w.first (amount w.flips) (final w))
in_holds c w i =
    yes_and (allowed c w.first (final w)) _
    (yes_and ((three.described (described c).start).allows w.first) _ i.starts i.ends)
    (subst T (moves_fits (described c).middle w.first w.flips) i.moving)

holds_in : (c : Class) (w : Waveform) → Rising w → T (holds c w.first (amount w.flips) (final w)) → In c w
holds_in c w r h =
    let p = and_yes (allowed c w.first (final w)) _ h in
    let q = and_yes ((three.described (described c).start).allows w.first) _ p.0 in
    record { rises = r; starts = q.0; moving = subst T (sym (moves_fits (described c).middle w.first w.flips)) p.1; ends = q.1 }

shaped_rising : (k : ℕ) (s e : Bool) (n : Amount) (w : Waveform) → Shaped k s e n w → Rising w
shaped_rising k s e n w a = rising_from_lower 0 k w.flips (omega arith) a.late

shaped_in : (c : Class) (k : ℕ) (s e : Bool) (n : Amount) (w : Waveform) → Shaped k s e n w → T (holds c s n e) → In c w
shaped_in c k s e n w a h = holds_in c w (shaped_rising k s e n w a) (subst₃ (λ x y z. T (holds c x y z)) (sym a.starts) (sym a.counts) (sym a.ends) h)

in_shaped : (c : Class) (k : ℕ) (s e : Bool) (n : Amount) (w : Waveform) → Shaped k s e n w → In c w → T (holds c s n e)
in_shaped c k s e n w a i = subst₃ (λ x y z. T (holds c x y z)) a.starts a.counts a.ends (in_holds c w i)

-- for each pair of ends that the class allows, and each tick, there is an output with these ends and no flip before the tick
abbrev pub Reached : Class → (Waveform → Type 0) → Type 0
Reached x outs = (k : ℕ) (s e : Bool) → T (allowed x s e) → (w : Waveform) × outs w × Shaped k s e (flips_of x) w

-- a class is fixed by these outputs: y holds all shapes of x if it holds those that are reached
abbrev reached_in : Class → Class → Bool → Bool → Bool
reached_in x y s e = gives (allowed x s e) (holds y s (flips_of x) e)

abbrev held_in : Class → Class → Bool → Amount → Bool → Bool
held_in x y s n e = gives (holds x s n e) (holds y s n e)

abbrev within : Class → Class → Bool
within x y = gives (at_booleans λ s. at_booleans λ e. reached_in x y s e) (at_booleans λ s. at_amounts λ n. at_booleans λ e. held_in x y s n e)

within_all : (x y : Class) → T (within x y)
within_all x y = for_each (within x) (for_each (λ u. at_classes (within u)) tt x) y

fixes : (x y : Class) (outs : Waveform → Type 0) → Reached x outs → ((v : Waveform) → outs v → In y v) → (w : Waveform) → In x w → In y w
fixes x y outs h all w i = holds_in y w i.rises (given _ _ entry (in_holds x w i))
  where
    reached : (s e : Bool) → T (reached_in x y s e)
    reached s e = gives_from (allowed x s e) _ (λ t. let r = h 0 s e t in in_shaped y 0 s e (flips_of x) r.0 r.2 (all r.0 r.1))

    shapes : T (at_booleans λ s. at_amounts λ n. at_booleans λ e. held_in x y s n e)
    shapes = given _ _ (within_all x y) (at_booleans_lem _ (λ s. at_booleans_lem _ (reached s)))

    entry : T (held_in x y w.first (amount w.flips) (final w))
    entry =
        at_boolean (held_in x y w.first (amount w.flips))
        (at_amount (λ n. at_booleans (held_in x y w.first n))
        (at_boolean (λ s. at_amounts λ n. at_booleans (held_in x y s n)) shapes w.first) (amount w.flips)) (final w)

-- every class reaches its own waveforms
abbrev own_shape : Class → Bool → Bool → Bool
own_shape c s e = gives (allowed c s e) (possible s (flips_of c) e && holds c s (flips_of c) e)

own_shapes : (c : Class) (s e : Bool) → T (own_shape c s e)
own_shapes c s e = at_boolean (own_shape c s) (at_boolean (λ b. at_booleans (own_shape c b)) (for_each (λ u. at_booleans λ b. at_booleans (own_shape u b)) tt c) s) e

own : (c : Class) → Reached c (In c)
own c k s e t =
    let p = and_yes (possible s (flips_of c) e) _ (given (allowed c s e) _ (own_shapes c s e) t) in
    let a = made_shaped k s (flips_of c) e p.0 in
    (made k s (flips_of c) e, shaped_in c k s e (flips_of c) _ a p.1, a)

-- which pin makes its flips first, or that the second is a copy of the first
data Order : Type 0 where
  first_pin : Order
  second_pin : Order
  copy : Order

-- the two pins may be exchanged; a pin beside its copy gives itself
abbrev swaps : (List Bool → Bool) → Bool → Bool → Bool
swaps f a b = same_bool (f (a ∷ b ∷ [])) (f (b ∷ a ∷ []))

abbrev keeps : (List Bool → Bool) → Bool → Bool
keeps f a = same_bool a (f (a ∷ a ∷ []))

-- the output flips as z asks, if the first pin goes from p to q and the second from p' to q', in this order
abbrev ordered : (List Bool → Bool) → Class → Class → Class → Bool → Bool → Bool → Bool → Order → Bool
ordered f x y z p q p' q' first_pin = same_amount (amount_apart f p' q (flips_of x) (flips_of y)) (flips_of z)
ordered f x y z p q p' q' second_pin = same_amount (amount_apart f p q' (flips_of y) (flips_of x)) (flips_of z) && (at_booleans λ a. at_booleans (swaps f a))
ordered f x y z p q p' q' copy = same_amount (flips_of x) (flips_of z) && (holds y p (flips_of x) q && (same_bool p p' && (same_bool q q' && at_booleans (keeps f))))

-- the two pins' ends are allowed and give the output's ends
abbrev ends : (List Bool → Bool) → Class → Class → Bool → Bool → Bool → Bool → Bool → Bool → Bool
ends f x y s e p q p' q' = allowed x p q && (allowed y p' q' && (same_bool (f (p ∷ p' ∷ [])) s && same_bool (f (q ∷ q' ∷ [])) e))

abbrev at_order : (Order → Bool) → Bool
at_order p = elim (p first_pin) [ true ↦ true | false ↦ elim (p second_pin) [ true ↦ true | false ↦ p copy ] ]

-- the ends fit, and so does some order
abbrev good : (List Bool → Bool) → Class → Class → Class → Bool → Bool → Bool → Bool → Bool → Bool → Bool
good f x y z s e p q p' q' = elim (ends f x y s e p q p' q') [ true ↦ at_order (ordered f x y z p q p' q') | false ↦ false ]

-- for the ends that z allows there are such pins
abbrev covers : (List Bool → Bool) → Class → Class → Class → Bool → Bool → Bool
covers f x y z s e = gives (allowed z s e) (at_some λ p. at_some λ q. at_some λ p'. at_some λ q'. good f x y z s e p q p' q')

abbrev covers_all : (List Bool → Bool) → (Class → Class → Class) → Bool
covers_all f op = at_classes λ x. at_classes λ y. at_booleans λ s. at_booleans λ e. covers f x y (op x y) s e

-- so it is for each operation, at all pairs of classes and all ends
conj_covers : T (covers_all all_ones class_ops.conj)
conj_covers = tt

disj_covers : T (covers_all some_one (disj class_ops))
disj_covers = tt

excl_covers : T (covers_all odd_ones class_ops.excl)
excl_covers = tt

at_order_lem : (p : Order → Bool) → T (at_order p) → (o : Order) × T (p o)
at_order_lem p h = go (p first_pin) (p second_pin) (λ t. t) (λ t. t) h
  where
    go : (a b : Bool) → (T a → T (p first_pin)) → (T b → T (p second_pin))
        → T (elim a [ true ↦ true | false ↦ elim b [ true ↦ true | false ↦ p copy ] ]) → (o : Order) × T (p o)
    go true b here there t = (first_pin, here tt)
    go false true here there t = (second_pin, there tt)
    go false false here there t = (copy, t)

guarded : (a b : Bool) → T (elim a [ true ↦ b | false ↦ false ]) → T a × T b
guarded true b h = (tt, h)
guarded false b h = absurd h

ends_parts : (f : List Bool → Bool) (x y : Class) (s e p q p' q' : Bool) → T (ends f x y s e p q p' q')
    → T (allowed x p q) × T (allowed y p' q') × (f (p ∷ p' ∷ []) ≡ s) × (f (q ∷ q' ∷ []) ≡ e)
ends_parts f x y s e p q p' q' h =
    let (left, h₁) = and_yes (allowed x p q) _ h in
    let (right, h₂) = and_yes (allowed y p' q') _ h₁ in
    let (begin, end) = and_yes (same_bool (f (p ∷ p' ∷ [])) s) _ h₂ in
    (left, right, same_is _ s begin, same_is _ e end)

reshaped : {k : ℕ} {s e s' e' : Bool} {m n : Amount} {w : Waveform} → s ≡ s' → e ≡ e' → m ≡ n → Shaped k s e m w → Shaped k s' e' n w
reshaped p q r a = record { late = a.late; starts = a.starts ∙ p; ends = a.ends ∙ q; counts = a.counts ∙ r }

exchanged : (f : List Bool → Bool) → T (at_booleans λ a. at_booleans (swaps f a)) → (a b : Bool) → f (a ∷ b ∷ []) ≡ f (b ∷ a ∷ [])
exchanged f h a b = same_is _ _ (at_boolean (swaps f a) (at_boolean (λ c. at_booleans (swaps f c)) h a) b)

kept : (f : List Bool → Bool) → T (at_booleans (keeps f)) → (a : Bool) → a ≡ f (a ∷ a ∷ [])
kept f h a = same_is a _ (at_boolean (keeps f) h a)

module _ (f : List Bool → Bool) (x y z : Class) (outs : Waveform → Type 0) (h : Reached x outs) (k : ℕ) (s e p q p' q' : Bool)
    (left : T (allowed x p q)) (right : T (allowed y p' q')) (begin : f (p ∷ p' ∷ []) ≡ s) (end : f (q ∷ q' ∷ []) ≡ e) where
  -- an output of the two pins in this order
  joint : (o : Order) → T (ordered f x y z p q p' q' o) → (v : Waveform) × Next In f y outs v × Shaped k s e (flips_of z) v
  joint first_pin t =
      let (w, o, a) = h k p q left in
      let (u, i, b) = own y (beyond k w.flips) p' q' right in
      (apart f w u, (w, u, o, i, apart_pointwise f k p q p' q' _ _ w u a b), reshaped begin end (amount_is _ _ t) (apart_shaped f k p q p' q' _ _ w u a b))
  joint second_pin t =
      let (u, i, b) = own y k p' q' right in
      let (w, o, a) = h (beyond k u.flips) p q left in
      let (count, even) = and_yes (same_amount (amount_apart f p q' (flips_of y) (flips_of x)) (flips_of z)) _ t in
      let turn = exchanged f even in (
        apart f u w,
        (w, u, o, i, swapped f turn u w (apart f u w) (apart_pointwise f k p' q' p q _ _ u w b a)),
        reshaped (turn p' p ∙ begin) (turn q' q ∙ end) (amount_is _ _ count) (apart_shaped f k p' q' p q _ _ u w b a),
      )
  joint copy t =
      let (w, o, a) = h k p q left in
      let (count, t₁) = and_yes (same_amount (flips_of x) (flips_of z)) _ t in
      let (inside, t₂) = and_yes (holds y p (flips_of x) q) _ t₁ in
      let (alike, t₃) = and_yes (same_bool p p') _ t₂ in
      let (alike', keep) = and_yes (same_bool q q') _ t₃ in
      let same = kept f keep in (
        w,
        (
          w,
          w,
          o,
          shaped_in y k p q (flips_of x) w a inside,
          record { rises = shaped_rising k p q (flips_of x) w a; starts = same _; follows = λ n. same _ },
        ),
        reshaped (same p ∙ (ap (λ b. f (p ∷ b ∷ [])) (same_is p p' alike) ∙ begin)) (same q ∙ (ap (λ b. f (q ∷ b ∷ [])) (same_is q q' alike') ∙ end)) (amount_is _ _ count) a,
      )

-- an operation that covers all reaches its result: look the pair and the ends up in the table
step : (f : List Bool → Bool) (op : Class → Class → Class) → T (covers_all f op)
    → (x y : Class) (outs : Waveform → Type 0) → Reached x outs → Reached (op x y) (Next In f y outs)
step f op table x y outs h k s e t =
    let z = op x y in
    let row = for_each (λ v. at_booleans λ b. at_booleans (covers f x v (op x v) b)) (for_each (λ u. at_classes λ v. at_booleans λ b. at_booleans (covers f u v (op u v) b)) table x) y in
    let entry = at_boolean (covers f x y z s) (at_boolean (λ b. at_booleans (covers f x y z b)) row s) e in
    let (p, t₁) = at_some_lem (λ p. at_some λ q. at_some λ p'. at_some λ q'. good f x y z s e p q p' q') (given (allowed z s e) _ entry t) in
    let (q, t₂) = at_some_lem (λ q. at_some λ p'. at_some λ q'. good f x y z s e p q p' q') t₁ in
    let (p', t₃) = at_some_lem (λ p'. at_some λ q'. good f x y z s e p q p' q') t₂ in
    let (q', t₄) = at_some_lem (good f x y z s e p q p') t₃ in
    let (fit, some) = guarded (ends f x y s e p q p' q') (at_order (ordered f x y z p q p' q')) t₄ in
    let (left, right, begin, end) = ends_parts f x y s e p q p' q' fit in
    let (order, t₅) = at_order_lem (ordered f x y z p q p' q') some in
    joint f x y z outs h k s e p q p' q' left right begin end order t₅

-- the inverse class allows the inverse ends and asks the same flips
abbrev turns : Class → Bool → Bool → Bool
turns c s e = same_amount (flips_of c) (flips_of (class_ops.neg c)) && gives (allowed (class_ops.neg c) s e) (allowed c (not s) (not e))

neg_step : (x : Class) (outs : Waveform → Type 0) → Reached x outs → Reached (class_ops.neg x) (Inverses outs)
neg_step x outs h k s e t =
    let entry = at_boolean (turns x s) (at_boolean (λ b. at_booleans (turns x b)) (for_each (λ c. at_booleans λ b. at_booleans (turns c b)) tt x) s) e in
    let (count, allow) = and_yes (same_amount (flips_of x) (flips_of (class_ops.neg x))) _ entry in
    let (w, o, a) = h k (not s) (not e) (given (allowed (class_ops.neg x) s e) _ allow t) in (
      inverted w,
      (w, o, refl),
      record {
        late = a.late;
        starts = ap not a.starts ∙ not-not s;
        ends = one_pin_all not w.first w.flips ∙ (ap not a.ends ∙ not-not e);
        counts = a.counts ∙ amount_is _ _ count;
      },
    )

only_zero : Reached class_ops.zero (λ w. w ≡ constant false)
only_zero k true e t = absurd t
only_zero k false true t = absurd t
only_zero k false false t = (constant false, refl, record { late = tt; starts = refl; ends = refl; counts = refl })

only_one : Reached class_ops.one (λ w. w ≡ constant true)
only_one k true true t = (constant true, refl, record { late = tt; starts = refl; ends = refl; counts = refl })
only_one k true false t = absurd t
only_one k false e t = absurd t

class_reaching : Reaching class_ops In
class_reaching =
    record {
      reaches = Reached;
      fixes = fixes;
      zero_reaches = only_zero;
      one_reaches = only_one;
      neg_reaches = neg_step;
      conj_reaches = step all_ones class_ops.conj conj_covers;
      disj_reaches = step some_one (disj class_ops) disj_covers;
      excl_reaches = step odd_ones class_ops.excl excl_covers;
    }

-- at the thirteen classes gate evaluation gives the narrowest
pub class_narrowest : (f : Function) (pins : List Class) → Narrowest In (function.described f).truth pins (evaluated class_ops f pins)
class_narrowest = narrowest_by class_ops In class_reaching class_sound
