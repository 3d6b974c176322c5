-- What the theorems on settling give of the rows that a source settles, and of rest. Assumes nothing.
use Rattle.std.proofs.Common.{◌≡◌, ℕ, T, ltb, List, Some, None, Option, sym, subst, inl, inr}
use Rattle.std.proofs.lemmas.Bool.{cases_lt, cond-false, cond-true, le-ltb, lt-ltb}
use Rattle.classes.specs.declared.three.Three.{Three}
use Rattle.classes.specs.declared.class.Class.{Class}
use Rattle.netlist.specs.Circuit.{PlainCircuit, net_count, valid_circuit}
use Rattle.runs.specs.declared.row.Row.{Row}
use Rattle.separations.specs.Separations.{Separation}
use Rattle.ordering.specs.Source.{HeldIsMet, Says, YesIsBefore}
use Rattle.settling_theory.specs.Meaning.{SettledMeans}
use Rattle.settling_theory.specs.Settled.{settled}
use Rattle.settling_theory.specs.Rest.{rest}
use Rattle.settling_theory.proofs.Meaning.{settled_bounds_fit, settled_rows_mean}
use Rattle.settling_theory.proofs.RestHolds.{rest_holds}
use Rattle.settling_theory.proofs.RestLetters.{rest_is_letters_for}
use Rattle.settling.specs.Told.{BoundsFit, LettersAreRest, RestTrue}
use Rattle.settling.specs.Resting.{rest_of}

-- the theorems on settled rows
pub record Theorems (says : Says) (seps : List Separation) (c : PlainCircuit) (classes : List Class) (rows : List Row) : Type 0 where
  pub means : SettledMeans says seps c classes rows
  pub letters : LettersAreRest c classes rows
  pub fit : BoundsFit c rows

pub settled_told :
    {S : Type 0} (says : Says) (held : S → List Separation) → YesIsBefore says → HeldIsMet held → (s : S) (c : PlainCircuit) → T (valid_circuit c) →
    (classes : List Class) (rows : List Row) → rows ≡ settled (says (held s) c) c classes → Theorems says (held s) c classes rows
settled_told says held first second s c valid classes rows is = subst (Theorems says (held s) c classes) (sym is) (record {
  means = settled_rows_mean says first (held s) c classes valid;
  letters = rest_is_letters_for held says first second s c classes valid;
  fit = λ n i b l e. settled_bounds_fit (says (held s) c) c classes valid (net_count c) n i b l l e;
})

-- what rest tells is true
pub rest_true : (c : PlainCircuit) (classes : List Class) → T (valid_circuit c) → (n : ℕ) (r : Option (Three × Three)) → r ≡ rest_of c classes n → RestTrue c classes n r
rest_true c classes valid n r is = subst (RestTrue c classes n) (sym is) (elim (cases_lt n (net_count c)) [
  | inl l ↦ subst (RestTrue c classes n) (sym (cond-true (ltb n (net_count c)) (Some (rest c classes n)) None (lt-ltb n (net_count c) l)))
      (λ run of driven. rest_holds c classes valid run of driven n l)
  | inr l ↦ subst (RestTrue c classes n) (sym (cond-false (ltb n (net_count c)) (Some (rest c classes n)) None (le-ltb n (net_count c) l))) l
])
