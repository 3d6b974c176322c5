-- What holds of every list of separations that is held. Assumes nothing.
use Rattle.std.proofs.Common.{◌≡◌, ℕ, ◌≤◌, true, List, ℤ, pos, ◌≤ℤ◌, Some, arith}
use Rattle.std.proofs.lemmas.List.Elements.{All-weaker, recursion_from_All}
use Rattle.std.proofs.lemmas.List.Sums.{AllPass-from_list_all}
use Rattle.std.proofs.lemmas.Int.{ints}
use Rattle.std.specs.List.{AllByRecursion}
use Rattle.separations.specs.Separations.{Separation, separation, Meets, MeetsAll, WellFormed, spacing_in, with_larger, is_formed}
use Rattle.separations.specs.Holding.{held_by}
use Rattle.separations.specs.declared.table.Separations.{Separations}
use Rattle.separations.proofs.Passes.{time_after}
use Rattle.separations.proofs.Lists.{put_both, found}
use Rattle.separations.proofs.Exact.{settled_meets, formed_is, held_all}

-- some natural numbers meet all that is held: the times after sixteen passes
pub held_met : (x : Separations) → (times : ℕ → ℕ) × MeetsAll (λ i. pos (times i)) (held_by x)
held_met x = (time_after x.spacings.rows 16, settled_meets x.spacings.rows x.spacings.full x.settled)

-- each separation that is held is well formed
pub held_formed : (x : Separations) → AllByRecursion (λ y. WellFormed y.a y.b y.s) (held_by x)
held_formed x =
    recursion_from_All (λ y. WellFormed y.a y.b y.s) (held_by x)
    (All-weaker (λ y. is_formed y ≡ true) (λ y. WellFormed y.a y.b y.s) formed_is (held_by x)
    (AllPass-from_list_all is_formed (held_by x) x.spacings.formed))

-- each is between inputs of numbers up to 15
pub held_inputs : (x : Separations) → AllByRecursion (λ y. (y.a ≤ 15) × (y.b ≤ 15)) (held_by x)
held_inputs x =
    held_all x.spacings.rows x.spacings.full (λ y. (y.a ≤ 15) × (y.b ≤ 15)) (λ a b s g h e. (omega arith, omega arith))

-- times that meet a separation meet every smaller spacing of the same pair
pub smaller_met :
    (times : ℕ → ℤ) (a b : ℕ) (s t : ℤ) → s ≤ℤ t → Meets times (separation a b t) → Meets times (separation a b s)
smaller_met times a b s t l m = omega (arith, ints)

-- times that meet the list with the larger spacing meet the separation and the list before it
pub larger_met :
    (times : ℕ → ℤ) (a b : ℕ) (s : ℤ) (xs : List Separation) → MeetsAll times (with_larger a b s xs) →
    Meets times (separation a b s) × MeetsAll times xs
larger_met = put_both

-- times that meet the list meet the spacing that it has at a pair
pub found_met :
    (times : ℕ → ℤ) (a b : ℕ) (s : ℤ) (xs : List Separation) → MeetsAll times xs → spacing_in a b xs ≡ Some s →
    Meets times (separation a b s)
found_met times = found (Meets times)
