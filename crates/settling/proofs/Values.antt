-- The value of a net is worked out with those below it. Assumes nothing.
use Rattle.std.proofs.Common.{◌≡◌, ℕ, ◌<◌, ◌≤◌, List, length, get_or, take, sym, ap, ◌∙◌, arith}
use Rattle.std.proofs.lemmas.List.{get_or_default, get_or-take}
use Rattle.classes.specs.declared.three.Three.{Three}
use Rattle.classes.specs.declared.three.Three.TheVariants.{Unknown}
use Rattle.netlist.specs.Circuit.{PlainCircuit}
use Rattle.settling_theory.specs.Rest.{value_at, values_to}
use Rattle.settling_theory.proofs.RestHolds.{values_at}

module _ (inputs : ℕ → Three) (c : PlainCircuit) (values : List Three) where
  -- what is worked out up to net n is its value among all
  pub value_there : (n i m : ℕ) (d : Three) → n < i → i ≤ length values → n < m → take i values ≡ values_to inputs c i → get_or values n d ≡ value_at (values_to inputs c m) n
  value_there n i m d a l b h =
      get_or_default values n d Unknown (omega arith)
      ∙ (sym (get_or-take i values n Unknown a)
      ∙ (ap (λ (xs : List Three). value_at xs n) h ∙ (values_at inputs c i n a ∙ sym (values_at inputs c m n b))))
