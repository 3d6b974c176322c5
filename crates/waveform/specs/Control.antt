-- What the control value of a gate function means. Assumes nothing.
use Rattle.std.specs.Prelude.{◌≡◌, ◌≤◌, Bool, Some, None}
use Rattle.signals.specs.Holding.{Controlled}
use Rattle.functions.specs.declared.function.Function.{Function}
use Rattle.functions.specs.Function.{described}

-- one pin at the control value fixes the output
abbrev pub ControlFixes : Type 0
ControlFixes = (f : Function) (v : Bool) → (described f).control ≡ Some v → Controlled (described f).truth v

-- where a function of two pins or more has no control value, neither value of one pin fixes the output
abbrev pub NoneFixes : Type 0
NoneFixes = (f : Function) → (described f).control ≡ None → 2 ≤ (described f).fewest → (v : Bool) → Controlled (described f).truth v → ⊥
