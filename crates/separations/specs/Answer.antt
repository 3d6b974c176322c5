-- What a holder of separations answers when one more is put to it. Assumes nothing.
use Rattle.std.specs.Prelude.{◌≡◌, ℕ, ◌<◌, ◌≤◌, Bool, true, false, cond, List, ◌∷◌, ℤ, Ok, Err, Result, nat_lt}
use Rattle.separations.specs.Separations.{Separation, separation, MeetsAll, Contradictory, WellFormed, with_larger}
use Rattle.separations.specs.declared.fault.SeparationFault.{SeparationFault}
use Rattle.separations.specs.declared.fault.SeparationFault.TheVariants as fault

-- a refusal: by the first rule that is broken, over the list that is held
abbrev pub Refused : Bool → List Separation → ℕ → ℕ → ℤ → SeparationFault → Type 0
Refused takes xs a b s (fault.NoSuchInput n) = (15 < n) × (n ≡ cond (nat_lt 15 a) a b)
Refused takes xs a b s fault.NotTaken = (a ≤ 15) × (b ≤ 15) × (takes ≡ false)
Refused takes xs a b s fault.Malformed = (a ≤ 15) × (b ≤ 15) × (takes ≡ true) × (WellFormed a b s → ⊥)
Refused takes xs a b s fault.Contradictory =
    (a ≤ 15) × (b ≤ 15) × (takes ≡ true) × WellFormed a b s × Contradictory (separation a b s ∷ xs)

-- an acceptance: no rule is broken, some times meet the separation and all that are held, the larger spacing is held
pub record Accepted (takes : Bool) (xs : List Separation) (a b : ℕ) (s : ℤ) (ys : List Separation) : Type 0 where
  pub first : a ≤ 15
  pub second : b ≤ 15
  pub taken : takes ≡ true
  pub formed : WellFormed a b s
  pub times : ℕ → ℤ
  pub met : MeetsAll times (separation a b s ∷ xs)
  pub larger : ys ≡ with_larger a b s xs

-- the answer to the separation (a, b, s), with the holder before and after: a refusal leaves it exactly as it was
abbrev pub Answered :
    {S U : Type 0} → Bool → (S → List Separation) → S → ℕ → ℕ → ℤ → Result U SeparationFault → S → Type 0
Answered takes list x a b s (Ok u) y = Accepted takes (list x) a b s (list y)
Answered takes list x a b s (Err e) y = (y ≡ x) × Refused takes (list x) a b s e
