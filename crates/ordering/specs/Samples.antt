-- One waveform of each class, with at most one flip, at a tick of one's choice. Assumes nothing.
use Rattle.std.specs.Prelude.{◌≡◌, ℕ, Bool, true, false, [], ◌∷◌, nat_le}
use Rattle.std.proofs.Common.{sym, ⊎_elim, zero-le, le→leb}
use Rattle.std.proofs.Math.Facts.{yes_and}
use Rattle.signals.specs.Waveform.{Waveform, Rising, FlipsAt, constant}
use Rattle.signals.proofs.Waveforms.{has_cases}
use Rattle.classes.specs.declared.class.Class.{Class}
use Rattle.classes.specs.declared.class.Class.TheVariants.{C000, C111, C0R1, C1F0, C0X0, C0X1, C1X0, C1X1, C0XX, C1XX, CXX0, CXX1, CXXX}
use Rattle.classes.specs.Class.{In}

-- a waveform with this first value and one flip
abbrev pub once : Bool → ℕ → Waveform
once b t = record { first = b; flips = t ∷ [] }

-- a waveform of the class: one flip at tick t where the class asks for a change, else none
abbrev pub sample : Class → ℕ → Waveform
sample C000 t = constant false
sample C111 t = constant true
sample C0R1 t = once false t
sample C1F0 t = once true t
sample C0X0 t = constant false
sample C0X1 t = once false t
sample C1X0 t = once true t
sample C1X1 t = constant true
sample C0XX t = constant false
sample C1XX t = constant true
sample CXX0 t = constant false
sample CXX1 t = constant true
sample CXXX t = constant false

once_rises : (b : Bool) (t : ℕ) → Rising (once b t)
once_rises b t = yes_and (nat_le 0 t) true (le→leb 0 t zero-le) tt

-- it lies in the class
pub sample_in : (c : Class) (t : ℕ) → In c (sample c t)
sample_in C000 t = record { rises = tt; starts = tt; moving = tt; ends = tt }
sample_in C111 t = record { rises = tt; starts = tt; moving = tt; ends = tt }
sample_in C0R1 t = record { rises = once_rises false t; starts = tt; moving = tt; ends = tt }
sample_in C1F0 t = record { rises = once_rises true t; starts = tt; moving = tt; ends = tt }
sample_in C0X0 t = record { rises = tt; starts = tt; moving = tt; ends = tt }
sample_in C0X1 t = record { rises = once_rises false t; starts = tt; moving = tt; ends = tt }
sample_in C1X0 t = record { rises = once_rises true t; starts = tt; moving = tt; ends = tt }
sample_in C1X1 t = record { rises = tt; starts = tt; moving = tt; ends = tt }
sample_in C0XX t = record { rises = tt; starts = tt; moving = tt; ends = tt }
sample_in C1XX t = record { rises = tt; starts = tt; moving = tt; ends = tt }
sample_in CXX0 t = record { rises = tt; starts = tt; moving = tt; ends = tt }
sample_in CXX1 t = record { rises = tt; starts = tt; moving = tt; ends = tt }
sample_in CXXX t = record { rises = tt; starts = tt; moving = tt; ends = tt }

once_flips : (b : Bool) (t u : ℕ) → FlipsAt (once b t) u → u ≡ t
once_flips b t u h = ⊎_elim sym (λ f. absurd f) (has_cases u t [] h)

-- it flips at the chosen tick or never
pub sample_flips : (c : Class) (t u : ℕ) → FlipsAt (sample c t) u → u ≡ t
sample_flips C000 t u h = absurd h
sample_flips C111 t u h = absurd h
sample_flips C0R1 t u h = once_flips false t u h
sample_flips C1F0 t u h = once_flips true t u h
sample_flips C0X0 t u h = absurd h
sample_flips C0X1 t u h = once_flips false t u h
sample_flips C1X0 t u h = once_flips true t u h
sample_flips C1X1 t u h = absurd h
sample_flips C0XX t u h = absurd h
sample_flips C1XX t u h = absurd h
sample_flips CXX0 t u h = absurd h
sample_flips CXX1 t u h = absurd h
sample_flips CXXX t u h = absurd h
