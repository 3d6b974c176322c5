-- The control value of a function fixes its output. Assumes nothing.
use Rattle.std.proofs.Common.{◌≡◌, Bool, true, false, not, List, [], ◌∷◌, sym, refl, ap, subst, ◌∙◌, inl, inr, true≢false, arith}
use Rattle.std.proofs.Math.Bool.{not-not}
use Rattle.std.proofs.lemmas.Bool.{false≢true}
use Rattle.std.proofs.lemmas.Option.{none-some, same_Some}
use Rattle.signals.specs.Holding.{Among, Controlled}
use Rattle.functions.specs.declared.function.Function.TheVariants.{Buf, Not, And, Nand, Or, Nor, Xor, Xnor}
use Rattle.functions.specs.Function.{all_ones, some_one, odd_ones}
use Rattle.waveform.specs.Control.{ControlFixes, NoneFixes}

-- a 0 among the values makes the conjunction 0, a 1 the disjunction 1
some_zero : (bs : List Bool) → Among false bs → all_ones bs ≡ false
some_zero [] h = absurd h
some_zero (true ∷ bs) (inl e) = absurd (true≢false e)
some_zero (true ∷ bs) (inr h) = some_zero bs h
some_zero (false ∷ bs) h = refl

some_one_lem : (bs : List Bool) → Among true bs → some_one bs ≡ true
some_one_lem [] h = absurd h
some_one_lem (true ∷ bs) h = refl
some_one_lem (false ∷ bs) (inl e) = absurd (false≢true e)
some_one_lem (false ∷ bs) (inr h) = some_one_lem bs h

zero_controls : Controlled all_ones false
zero_controls bs cs p q = some_zero bs p ∙ sym (some_zero cs q)

one_controls : Controlled some_one true
one_controls bs cs p q = some_one_lem bs p ∙ sym (some_one_lem cs q)

-- what fixes the output fixes its inverse
inverse_controlled : (f : List Bool → Bool) (v : Bool) → Controlled f v → Controlled (λ bs. not (f bs)) v
inverse_controlled f v h bs cs p q = ap not (h bs cs p q)

-- the control value of a function fixes its output
pub controlled : ControlFixes
controlled Buf v e = absurd (none-some v e)
controlled Not v e = absurd (none-some v e)
controlled And v e = subst (Controlled all_ones) (same_Some false v e) zero_controls
controlled Nand v e = inverse_controlled all_ones v (subst (Controlled all_ones) (same_Some false v e) zero_controls)
controlled Or v e = subst (Controlled some_one) (same_Some true v e) one_controls
controlled Nor v e = inverse_controlled some_one v (subst (Controlled some_one) (same_Some true v e) one_controls)
controlled Xor v e = absurd (none-some v e)
controlled Xnor v e = absurd (none-some v e)

-- with one pin at v, the other pin still decides whether an odd number are 1
odd_free : (v : Bool) → Controlled odd_ones v → ⊥
odd_free true h = true≢false (h (true ∷ false ∷ []) (true ∷ true ∷ []) (inl refl) (inl refl))
odd_free false h = false≢true (h (false ∷ false ∷ []) (false ∷ true ∷ []) (inl refl) (inl refl))

even_free : (v : Bool) → Controlled (λ bs. not (odd_ones bs)) v → ⊥
even_free v h = odd_free v (λ bs cs p q. sym (not-not (odd_ones bs)) ∙ ap not (h bs cs p q) ∙ not-not (odd_ones cs))

pub none_fixes : NoneFixes
none_fixes Buf e two v h = omega arith
none_fixes Not e two v h = omega arith
none_fixes And e two v h = none-some false (sym e)
none_fixes Nand e two v h = none-some false (sym e)
none_fixes Or e two v h = none-some true (sym e)
none_fixes Nor e two v h = none-some true (sym e)
none_fixes Xor e two v h = odd_free v h
none_fixes Xnor e two v h = even_free v h
