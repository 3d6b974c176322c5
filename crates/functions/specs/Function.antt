-- The eight gate functions. One definition gives each its code, name, truth, control value and pin counts. Assumes nothing.
use Rattle.std.specs.Prelude.{ℕ, Bool, true, false, not, ◌&&◌, ◌||◌, List, [], ◌∷◌, Some, None, codes, Option, ◌≢◌, nat_le}
use Rattle.functions.specs.declared.function.Function.{Function}
use Rattle.functions.specs.declared.function.Function.TheVariants.{Buf, Not, And, Nand, Or, Nor, Xor, Xnor}

-- every one is 1
abbrev pub all_ones : List Bool → Bool
all_ones [] = true
all_ones (b ∷ bs) = b && all_ones bs

-- at least one is 1
abbrev pub some_one : List Bool → Bool
some_one [] = false
some_one (b ∷ bs) = b || some_one bs

-- just one of the two is 1
abbrev pub differ : Bool → Bool → Bool
differ true b = not b
differ false b = b

-- an odd number of them are 1
abbrev pub odd_ones : List Bool → Bool
odd_ones [] = false
odd_ones (b ∷ bs) = differ b (odd_ones bs)

-- what a gate function is
pub record Description : Type 0 where
  pub code : ℕ
  pub name : List ℕ
  -- its value for the values of its pins
  pub truth : List Bool → Bool
  -- for two pins or more: the value of one pin that fixes the output whatever the others are, if there is one
  pub control : Option Bool
  -- the fewest and the most pins it may have
  pub fewest : ℕ
  pub most : ℕ

-- BUF and NOT have one pin; as conjunctions of that one pin they take part in the common evaluation
abbrev pub described : Function → Description
described Buf = record { code = 0; name = codes "BUF"; truth = all_ones; control = None; fewest = 1; most = 1 }
described Not = record { code = 1; name = codes "NOT"; truth = λ bs. not (all_ones bs); control = None; fewest = 1; most = 1 }
described And = record { code = 2; name = codes "AND"; truth = all_ones; control = Some false; fewest = 2; most = 8 }
described Nand = record { code = 3; name = codes "NAND"; truth = λ bs. not (all_ones bs); control = Some false; fewest = 2; most = 8 }
described Or = record { code = 4; name = codes "OR"; truth = some_one; control = Some true; fewest = 2; most = 8 }
described Nor = record { code = 5; name = codes "NOR"; truth = λ bs. not (some_one bs); control = Some true; fewest = 2; most = 8 }
described Xor = record { code = 6; name = codes "XOR"; truth = odd_ones; control = None; fewest = 2; most = 8 }
described Xnor = record { code = 7; name = codes "XNOR"; truth = λ bs. not (odd_ones bs); control = None; fewest = 2; most = 8 }

-- the function may have this many pins
abbrev pub takes_pins : Function → ℕ → Bool
takes_pins f n = nat_le (described f).fewest n && nat_le n (described f).most

-- no function has this name
abbrev pub NoneNamed : List ℕ → Type 0
NoneNamed text = (f : Function) → (described f).name ≢ text
