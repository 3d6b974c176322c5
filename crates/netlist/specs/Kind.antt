-- The kinds of records and the number of each. Assumes nothing.
use Rattle.std.specs.Prelude.{◌≡◌, ℕ, ◌≢◌, Result, MatchResult}
use Rattle.netlist.specs.declared.kind.Kind.{Kind}
use Rattle.netlist.specs.declared.kind.Kind.TheVariants.{Head, Gate}
use Rattle.netlist.specs.declared.kind.UnknownKind.{UnknownKind}

-- the number that stands for the kind in a file
abbrev pub kind_number : Kind → ℕ
kind_number Head = 1
kind_number Gate = 2

-- the kind that has this number, or the number itself where no kind has it
abbrev pub Decodes : ℕ → Result Kind UnknownKind → Type 0
Decodes n r = MatchResult r (λ kind. kind_number kind ≡ n) (λ e. (e.0 ≡ n) × ((kind : Kind) → kind_number kind ≢ n))
