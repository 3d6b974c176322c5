-- Switching algebras: values that stand for sets of waveforms, with the operations of gates. Assumes nothing.
use Rattle.std.specs.Prelude.{◌≡◌, Bool, true, false, not, List, [], ◌∷◌}
use Rattle.signals.specs.Waveform.{Waveform, Rising, constant}
use Rattle.signals.specs.GateRule.{Pointwise}
use Rattle.functions.specs.declared.function.Function.{Function}
use Rattle.functions.specs.declared.function.Function.TheVariants.{Buf, Not, And, Nand, Or, Nor, Xor, Xnor}
use Rattle.functions.specs.Function.{all_ones, odd_ones}

-- the two constants and the three operations
pub record Ops (V : Type 0) : Type 0 where
  pub zero : V
  pub one : V
  pub neg : V → V
  pub conj : V → V → V
  pub excl : V → V → V

-- disjunction is conjunction between inversions
abbrev pub disj : {V : Type 0} → Ops V → V → V → V
disj ops x y = ops.neg (ops.conj (ops.neg x) (ops.neg y))

-- the laws of the operations among themselves
pub record Lawful {V : Type 0} (ops : Ops V) : Type 0 where
  pub conj_assoc : (x y z : V) → ops.conj (ops.conj x y) z ≡ ops.conj x (ops.conj y z)
  pub conj_comm : (x y : V) → ops.conj x y ≡ ops.conj y x
  pub conj_one : (x : V) → ops.conj ops.one x ≡ x
  pub excl_assoc : (x y z : V) → ops.excl (ops.excl x y) z ≡ ops.excl x (ops.excl y z)
  pub excl_comm : (x y : V) → ops.excl x y ≡ ops.excl y x
  pub excl_zero : (x : V) → ops.excl ops.zero x ≡ x
  pub neg_neg : (x : V) → ops.neg (ops.neg x) ≡ x

-- the inverse of one pin
abbrev pub inverse : List Bool → Bool
inverse bs = not (all_ones bs)

-- each result contains the output of all waveforms that its arguments stand for
pub record Sound {V : Type 0} (ops : Ops V) (stands : V → Waveform → Type 0) : Type 0 where
  pub rises : (x : V) (w : Waveform) → stands x w → Rising w
  pub zero_stands : stands ops.zero (constant false)
  pub one_stands : stands ops.one (constant true)
  pub neg_contains : (x : V) (w out : Waveform) → stands x w → Pointwise inverse (w ∷ []) out → stands (ops.neg x) out
  pub conj_contains : (x y : V) (w u out : Waveform) → stands x w → stands y u → Pointwise all_ones (w ∷ u ∷ []) out → stands (ops.conj x y) out
  pub excl_contains : (x y : V) (w u out : Waveform) → stands x w → stands y u → Pointwise odd_ones (w ∷ u ∷ []) out → stands (ops.excl x y) out

-- the pins folded into a value, one after the other
abbrev pub folded_in : {V : Type 0} → (V → V → V) → V → List V → V
folded_in op a [] = a
folded_in op a (x ∷ xs) = folded_in op (op a x) xs

-- a gate function's value: its pins folded by conjunction, disjunction or exclusive or, the whole inverted or not
abbrev pub evaluated : {V : Type 0} → Ops V → Function → List V → V
evaluated ops Buf pins = folded_in ops.conj ops.one pins
evaluated ops Not pins = ops.neg (folded_in ops.conj ops.one pins)
evaluated ops And pins = folded_in ops.conj ops.one pins
evaluated ops Nand pins = ops.neg (folded_in ops.conj ops.one pins)
evaluated ops Or pins = folded_in (disj ops) ops.zero pins
evaluated ops Nor pins = ops.neg (folded_in (disj ops) ops.zero pins)
evaluated ops Xor pins = folded_in ops.excl ops.zero pins
evaluated ops Xnor pins = ops.neg (folded_in ops.excl ops.zero pins)

-- the value that the fold starts from
abbrev pub unit_of : {V : Type 0} → Ops V → Function → V
unit_of ops Buf = ops.one
unit_of ops Not = ops.one
unit_of ops And = ops.one
unit_of ops Nand = ops.one
unit_of ops Or = ops.zero
unit_of ops Nor = ops.zero
unit_of ops Xor = ops.zero
unit_of ops Xnor = ops.zero

-- one pin more
abbrev pub joined : {V : Type 0} → Ops V → Function → V → V → V
joined ops Buf = ops.conj
joined ops Not = ops.conj
joined ops And = ops.conj
joined ops Nand = ops.conj
joined ops Or = disj ops
joined ops Nor = disj ops
joined ops Xor = ops.excl
joined ops Xnor = ops.excl

-- the inversion after the fold, for a function that has one
abbrev pub finished : {V : Type 0} → Ops V → Function → V → V
finished ops Buf x = x
finished ops Not x = ops.neg x
finished ops And x = x
finished ops Nand x = ops.neg x
finished ops Or x = x
finished ops Nor x = ops.neg x
finished ops Xor x = x
finished ops Xnor x = ops.neg x
