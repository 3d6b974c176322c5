-- The fold of a gate's pins, one pin after the other. Assumes nothing.
use Rattle.std.proofs.Common.{◌≡◌, ℕ, ◌+◌, ◌<◌, ◌≤◌, List, length, get_or, drop, sym, refl, ap, ◌∙◌}
use Rattle.std.proofs.lemmas.List.{at_drop_more, at_drop_all}
use Rattle.functions.specs.declared.function.Function.{Function}
use Rattle.functions.specs.declared.function.Function.TheVariants.{Buf, Not, And, Nand, Or, Nor, Xor, Xnor}
use Rattle.waveform.specs.Algebra.{Ops, folded_in, evaluated, unit_of, joined, finished}

-- one pin more: what is left still gives the whole fold
pub fold_more : {V : Type 0} (op : V → V → V) (start a x value : V) (xs : List V) (i : ℕ) → i < length xs → x ≡ get_or xs i x → value ≡ op a x → folded_in op a (drop i xs) ≡ folded_in op start xs → folded_in op value (drop (i + 1) xs) ≡ folded_in op start xs
fold_more op start a x value xs i h is e inv =
    ap (λ v. folded_in op v (drop (i + 1) xs)) (e ∙ ap (op a) is) ∙ sym (at_drop_more (folded_in op a) xs i x h) ∙ inv

-- the three parts of the fold make the gate's value
fold_finished : {V : Type 0} (ops : Ops V) (f : Function) (pins : List V) → finished ops f (folded_in (joined ops f) (unit_of ops f) pins) ≡ evaluated ops f pins
fold_finished ops Buf pins = refl
fold_finished ops Not pins = refl
fold_finished ops And pins = refl
fold_finished ops Nand pins = refl
fold_finished ops Or pins = refl
fold_finished ops Nor pins = refl
fold_finished ops Xor pins = refl
fold_finished ops Xnor pins = refl

-- no pin left: the fold, finished, is the gate's value
pub fold_ends : {V : Type 0} (ops : Ops V) (f : Function) (pins : List V) (a r : V) (i : ℕ) → length pins ≤ i → folded_in (joined ops f) a (drop i pins) ≡ folded_in (joined ops f) (unit_of ops f) pins → r ≡ finished ops f a → r ≡ evaluated ops f pins
fold_ends ops f pins a r i h inv e =
    let all : a ≡ folded_in (joined ops f) (unit_of ops f) pins = sym (at_drop_all (folded_in (joined ops f) a) pins i h) ∙ inv in
    e ∙ ap (finished ops f) all ∙ fold_finished ops f pins
