-- At the three values gate evaluation gives the narrowest value that contains every output. Assumes nothing.
use mathlib.Core.Path.{◌≡◌, refl, sym, ap}
use mathlib.Core.Bool.{Bool, true, false, not, ◌&&◌}
use mathlib.Core.List.{List, [], ◌∷◌}
use lib.Dec.{T}
use Rattle.std.proofs.Math.Bool.{not-not}
use Rattle.std.proofs.Math.Facts.{and_yes}
use Rattle.signals.specs.Waveform.{Waveform, constant}
use Rattle.signals.proofs.Waveforms.{same_bool}
use Rattle.functions.specs.declared.function.Function.{Function}
use Rattle.classes.specs.declared.three.Three.{Three}
use Rattle.functions.specs.Function as function
use Rattle.functions.specs.Function.{all_ones, some_one, odd_ones}
use Rattle.classes.specs.Three.{described, Stands}
use Rattle.waveform.specs.Algebra.{disj, evaluated}
use Rattle.waveform.specs.Ops.{three_ops}
use Rattle.waveform.specs.Narrowest.{Narrowest}
use Rattle.waveform.specs.ThreeSound.{three_sound}
use Rattle.waveform.specs.ClassSound.{gives, given}
use Rattle.narrowest.specs.Finite.{same_is, at_booleans, at_boolean, at_some, at_some_lem, at_values, at_value}
use Rattle.narrowest.specs.Reaching.{Reaching, Next, Inverses, narrowest_by}

-- the constant of each Boolean that the value allows is among the outputs
abbrev pub Reached : Three → (Waveform → Type 0) → Type 0
Reached x outs = (b : Bool) → T ((described x).allows b) → outs (constant b)

-- two Booleans that the values allow and whose f is b
abbrev splits : (List Bool → Bool) → Three → Three → Bool → Bool → Bool → Bool
splits f x y b p q = (described x).allows p && ((described y).allows q && same_bool (f (p ∷ q ∷ [])) b)

-- if z allows b, there are such two
abbrev covers : (List Bool → Bool) → Three → Three → Three → Bool → Bool
covers f x y z b = gives ((described z).allows b) (at_some λ p. at_some λ q. splits f x y b p q)

abbrev covers_all : (List Bool → Bool) → (Three → Three → Three) → Bool
covers_all f op = at_values λ x. at_values λ y. at_booleans λ b. covers f x y (op x y) b

-- so an operation that covers all reaches its result
step : (f : List Bool → Bool) (op : Three → Three → Three) → T (covers_all f op)
    → (x y : Three) (outs : Waveform → Type 0) → Reached x outs → Reached (op x y) (Next Stands f y outs)
step f op table x y outs h b t =
    let row : T (at_values λ v. at_booleans λ c. covers f x v (op x v) c) = at_value (λ u. at_values λ v. at_booleans λ c. covers f u v (op u v) c) table x in
    let entry : T (covers f x y (op x y) b) = at_boolean (covers f x y (op x y)) (at_value (λ v. at_booleans λ c. covers f x v (op x v) c) row y) b in
    let p = at_some_lem (λ p. at_some λ q. splits f x y b p q) (given ((described (op x y)).allows b) _ entry t) in
    let q = at_some_lem (splits f x y b p.0) p.1 in
    let both = and_yes ((described x).allows p.0) _ q.1 in
    let rest = and_yes ((described y).allows q.0) _ both.1 in
    let e : f (p.0 ∷ q.0 ∷ []) ≡ b = same_is _ b rest.1 in (
      constant p.0,
      constant q.0,
      h p.0 both.0,
      record { still = refl; allowed = rest.0 },
      record { rises = tt; starts = sym e; follows = λ t. sym e },
    )

fixes : (x y : Three) (outs : Waveform → Type 0) → Reached x outs → ((v : Waveform) → outs v → Stands y v) → (w : Waveform) → Stands x w → Stands y w
fixes x y outs h all w s = record { still = s.still; allowed = (all _ (h w.first s.allowed)).allowed }

-- the inverse of what the inverted value allows is allowed
abbrev turns : Three → Bool → Bool
turns x b = gives ((described (three_ops.neg x)).allows b) ((described x).allows (not b))

neg_step : (x : Three) (outs : Waveform → Type 0) → Reached x outs → Reached (three_ops.neg x) (Inverses outs)
neg_step x outs h b t =
    let entry : T (turns x b) = at_boolean (turns x) (at_value (λ u. at_booleans (turns u)) tt x) b in
    (constant (not b), h (not b) (given ((described (three_ops.neg x)).allows b) _ entry t), ap constant (sym (not-not b)))

only_zero : Reached three_ops.zero (λ w. w ≡ constant false)
only_zero true t = absurd t
only_zero false t = refl

only_one : Reached three_ops.one (λ w. w ≡ constant true)
only_one true t = refl
only_one false t = absurd t

three_reaching : Reaching three_ops Stands
three_reaching =
    record {
      reaches = Reached;
      fixes = fixes;
      zero_reaches = only_zero;
      one_reaches = only_one;
      neg_reaches = neg_step;
      conj_reaches = step all_ones three_ops.conj tt;
      disj_reaches = step some_one (disj three_ops) tt;
      excl_reaches = step odd_ones three_ops.excl tt;
    }

-- at the three values gate evaluation gives the narrowest
pub three_narrowest : (f : Function) (pins : List Three) → Narrowest Stands (function.described f).truth pins (evaluated three_ops f pins)
three_narrowest = narrowest_by three_ops Stands three_reaching three_sound
