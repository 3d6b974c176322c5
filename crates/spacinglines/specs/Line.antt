-- What a line says: three words, each the number of an input or a spacing. Assumes nothing.
use Rattle.std.specs.Prelude.{◌≡◌, ℕ, ◌^◌, ◌<◌, List, [], ◌∷◌, Ok, Err, Result, FitsSigned}
use Rattle.std.specs.Int.{w32}
use Rattle.std.specs.Str.Parse.{IsNumeral, digits_value, without_leading_plus, without_leading_sign, signed_digits_value}
use Rattle.spacinglines.specs.declared.fault.LineFault.{LineFault}
use Rattle.spacinglines.specs.declared.fault.LineFault.TheVariants.{NotThree, First, Second, Third}
use Rattle.words.specs.Words.{words}
use Rattle.spacinglines.specs.declared.line.Line.{Line}

-- the word is a decimal number below 256, with a plus or without
abbrev pub IsByte : List ℕ → Type 0
IsByte x = IsNumeral 10 (without_leading_plus x) × (digits_value 10 (without_leading_plus x) < 2 ^ 8)

-- the word is a decimal number, with a sign or without, that fits four bytes
abbrev pub IsSpacing : List ℕ → Type 0
IsSpacing x = IsNumeral 10 (without_leading_sign x) × FitsSigned w32 (signed_digits_value 10 x)

-- the line's numbers are those of these words
pub record Numbers (x y z : List ℕ) (l : Line) : Type 0 where
  pub first : l.a ≡ digits_value 10 (without_leading_plus x)
  pub second : l.b ≡ digits_value 10 (without_leading_plus y)
  pub third : l.s ≡ signed_digits_value 10 z

-- the words are these three
abbrev pub Words : List ℕ → List ℕ → List ℕ → List ℕ → Type 0
Words text x y z = words text ≡ x ∷ y ∷ z ∷ []

-- what comes of the line: its numbers, or what is wrong, of several things the first in this order
abbrev pub Reads : List ℕ → Result Line LineFault → Type 0
Reads text (Ok l) = (x : List ℕ) × (y : List ℕ) × (z : List ℕ) × Words text x y z × IsByte x × IsByte y × IsSpacing z × Numbers x y z l
Reads text (Err NotThree) = (x y z : List ℕ) → Words text x y z → ⊥
Reads text (Err First) = (x : List ℕ) × (y : List ℕ) × (z : List ℕ) × Words text x y z × (IsByte x → ⊥)
Reads text (Err Second) = (x : List ℕ) × (y : List ℕ) × (z : List ℕ) × Words text x y z × IsByte x × (IsByte y → ⊥)
Reads text (Err Third) = (x : List ℕ) × (y : List ℕ) × (z : List ℕ) × Words text x y z × IsByte x × IsByte y × (IsSpacing z → ⊥)
