-- The thirteen classes of waveforms. One definition gives each its code and its three letters, and the letters alone say
-- which waveforms it holds. Assumes nothing.
use Rattle.std.specs.Prelude.{ℕ, Bool, true, false, not, ◌&&◌, T, List, [], ◌∷◌, ◌≢◌}
use Rattle.signals.specs.Waveform.{Waveform, Rising, final}
use Rattle.classes.specs.declared.three.Three.{Three}
use Rattle.classes.specs.declared.three.Three.TheVariants.{Zero, One, Unknown}
use Rattle.classes.specs.Three as three
use Rattle.classes.specs.declared.class.Class.{Class}
use Rattle.classes.specs.declared.class.Class.TheVariants.{C000, C111, C0R1, C1F0, C0X0, C0X1, C1X0, C1X1, C0XX, C1XX, CXX0, CXX1, CXXX}

-- the middle letter: constant 0, constant 1, one flip upward, one flip downward, any flips or none
pub data Middle : Type 0 where
  low : Middle
  high : Middle
  rise : Middle
  fall : Middle
  free : Middle

-- no flip
abbrev pub none : List ℕ → Bool
none [] = true
none (t ∷ ts) = false

-- exactly one flip
abbrev pub single : List ℕ → Bool
single [] = false
single (t ∷ ts) = none ts

-- what the middle letter asks of a waveform
abbrev pub moves : Middle → Waveform → Bool
moves low w = not w.first && none w.flips
moves high w = w.first && none w.flips
moves rise w = not w.first && single w.flips
moves fall w = w.first && single w.flips
moves free w = true

-- the middle letter's character
abbrev pub middle_letter : Middle → ℕ
middle_letter low = 48
middle_letter high = 49
middle_letter rise = 82
middle_letter fall = 70
middle_letter free = 88

-- what a class is
pub record Description : Type 0 where
  pub code : ℕ
  pub start : Three
  pub middle : Middle
  pub finish : Three

abbrev pub described : Class → Description
described C000 = record { code = 0; start = Zero; middle = low; finish = Zero }
described C111 = record { code = 1; start = One; middle = high; finish = One }
described C0R1 = record { code = 2; start = Zero; middle = rise; finish = One }
described C1F0 = record { code = 3; start = One; middle = fall; finish = Zero }
described C0X0 = record { code = 4; start = Zero; middle = free; finish = Zero }
described C0X1 = record { code = 5; start = Zero; middle = free; finish = One }
described C1X0 = record { code = 6; start = One; middle = free; finish = Zero }
described C1X1 = record { code = 7; start = One; middle = free; finish = One }
described C0XX = record { code = 8; start = Zero; middle = free; finish = Unknown }
described C1XX = record { code = 9; start = One; middle = free; finish = Unknown }
described CXX0 = record { code = 10; start = Unknown; middle = free; finish = Zero }
described CXX1 = record { code = 11; start = Unknown; middle = free; finish = One }
described CXXX = record { code = 12; start = Unknown; middle = free; finish = Unknown }

-- the three letters as they are printed
abbrev pub letters : Class → List ℕ
letters c = (three.described (described c).start).letter ∷ middle_letter (described c).middle ∷ (three.described (described c).finish).letter ∷ []

-- the waveform lies in the class
pub record In (c : Class) (w : Waveform) : Type 0 where
  pub rises : Rising w
  pub starts : T ((three.described (described c).start).allows w.first)
  pub moving : T (moves (described c).middle w)
  pub ends : T ((three.described (described c).finish).allows (final w))

-- every waveform of c lies in d
abbrev pub Within : Class → Class → Type 0
Within c d = (w : Waveform) → In c w → In d w

-- c holds some, not all, of the waveforms of d
abbrev pub Narrower : Class → Class → Type 0
Narrower c d = Within c d × (Within d c → ⊥)

-- constant: the waveform never flips; clean: it flips exactly once
abbrev pub constant_middle : Middle → Bool
constant_middle low = true
constant_middle high = true
constant_middle rise = false
constant_middle fall = false
constant_middle free = false

abbrev pub clean_middle : Middle → Bool
clean_middle low = false
clean_middle high = false
clean_middle rise = true
clean_middle fall = true
clean_middle free = false

abbrev pub is_constant : Class → Bool
is_constant c = constant_middle (described c).middle

abbrev pub is_clean : Class → Bool
is_clean c = clean_middle (described c).middle

-- no class has these letters
abbrev pub NoneLettered : List ℕ → Type 0
NoneLettered text = (c : Class) → letters c ≢ text
