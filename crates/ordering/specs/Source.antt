-- Order sources: what a source says of two nets, what it holds of the inputs, and the three laws it keeps. Assumes nothing.
use Rattle.std.specs.Prelude.{◌≡◌, ℕ, Bool, true, T, List, slice_index_or}
use Rattle.std.specs.List.{AllByRecursion}
use Rattle.signals.specs.Waveform.{Waveform}
use Rattle.classes.specs.declared.class.Class.{Class}
use Rattle.classes.specs.declared.class.Class.TheVariants.{C000}
use Rattle.classes.specs.Class.{In}
use Rattle.netlist.specs.Circuit.{PlainCircuit, valid_circuit}
use Rattle.runs.specs.declared.row.Row.{Row}
use Rattle.runs.specs.Run.{Run, RunOf, Separated, Before, wave, input_wave}
use Rattle.runs.specs.Row.{HasRow, RowsTrue}
use Rattle.separations.specs.Separations.{Separation}

-- these waveforms of the inputs meet the separation: every flip of b comes at least s ticks after every flip of a
abbrev pub Meeting : (ℕ → Waveform) → Separation → Type 0
Meeting waves x = Separated (waves x.a) (waves x.b) x.s

-- they meet every separation of the list
abbrev pub MetBy : (ℕ → Waveform) → List Separation → Type 0
MetBy waves seps = AllByRecursion (Meeting waves) seps

-- the run meets the separations; an input that the circuit lacks never flips, so it meets any
abbrev pub Met : PlainCircuit → Run → List Separation → Type 0
Met c run seps = MetBy (input_wave c run) seps

-- what a source answers, from the separations held, the circuit and its rows: does every flip of q come before every flip of p?
abbrev pub Says : Type 0
Says = List Separation → PlainCircuit → List Row → ℕ → ℕ → Bool

-- in every run that meets the separations and in which the rows are true, every flip of q comes before every flip of p
abbrev pub OrderedInRuns : List Separation → PlainCircuit → List Row → ℕ → ℕ → Type 0
OrderedInRuns seps c rows q p = (run : Run) → RunOf c run → Met c run seps → RowsTrue c rows run → Before (wave run q) (wave run p)

-- first law: of a valid circuit a yes holds in all these runs
abbrev pub YesIsBefore : Says → Type 0
YesIsBefore says =
    (seps : List Separation) (c : PlainCircuit) (rows : List Row) (q p : ℕ) → T (valid_circuit c) → says seps c rows q p ≡ true → OrderedInRuns seps c rows q p

-- second law: whatever the classes of the inputs, some waveforms in these classes meet all that is held
abbrev pub HeldIsMet : {S : Type 0} → (S → List Separation) → Type 0
HeldIsMet {S} held =
    (x : S) (classes : List Class) → ((waves : ℕ → Waveform) × ((i : ℕ) → In (slice_index_or classes i C000) (waves i)) × MetBy waves (held x))

-- third law: a yes is said only of nets that have rows
abbrev pub YesHasRows : Says → Type 0
YesHasRows says =
    (seps : List Separation) (c : PlainCircuit) (rows : List Row) (q p : ℕ) →
    says seps c rows q p ≡ true → HasRow c rows q × HasRow c rows p
