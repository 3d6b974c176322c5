-- What holds of rest: it is true in every run, runs exist, and it tells the letters of the settled classes. Each statement
-- stands in the contract of a public function. Assumes nothing.
use Rattle.std.specs.Prelude.{◌≡◌, ℕ, ◌<◌, Bool, T, List, slice_index_or}
use Rattle.signals.specs.Waveform.{Waveform, final}
use Rattle.classes.specs.declared.three.Three.{Three}
use Rattle.classes.specs.declared.class.Class.{Class}
use Rattle.classes.specs.declared.class.Class.TheVariants.{C000}
use Rattle.classes.specs.Three.{described}
use Rattle.classes.specs.Class.{In}
use Rattle.netlist.specs.Circuit.{PlainCircuit, valid_circuit, net_count}
use Rattle.runs.specs.Run.{Run, RunOf, InClasses, wave}
use Rattle.separations.specs.Separations.{Separation}
use Rattle.ordering.specs.Source.{Says, YesIsBefore, MetBy, Met}
use Rattle.settling_theory.specs.Settled.{Asks, start_of, end_of, settled}
use Rattle.settling_theory.specs.Rest.{rest}

-- the letter allows the value
abbrev pub Allows : Three → Bool → Type 0
Allows v b = T ((described v).allows b)

-- in every run with its inputs in the classes each net starts and ends as rest tells
abbrev pub RestHolds : Type 0
RestHolds =
    (c : PlainCircuit) (classes : List Class) → T (valid_circuit c) → (run : Run) → RunOf c run → InClasses c classes run →
    (n : ℕ) → n < net_count c → Allows (rest c classes n).0 (wave run n).first × Allows (rest c classes n).1 (final (wave run n))

-- some waveforms of the inputs lie in the classes and meet the separations
abbrev pub Meetable : List Class → List Separation → Type 0
Meetable classes seps = (waves : ℕ → Waveform) × ((i : ℕ) → In (slice_index_or classes i C000) (waves i)) × MetBy waves seps

-- a run of the circuit with its inputs in the classes meets the separations
abbrev pub RunMeets : PlainCircuit → List Class → List Separation → Type 0
RunMeets c classes seps = (run : Run) × RunOf c run × InClasses c classes run × Met c run seps

-- where input waveforms in the classes meet the separations there is such a run
abbrev pub RunExistsWhereMet : Type 0
RunExistsWhereMet =
    (seps : List Separation) (c : PlainCircuit) (classes : List Class) → T (valid_circuit c) → Meetable classes seps → RunMeets c classes seps

-- so there is for all that a source may hold
abbrev pub RunExistsFor : {S : Type 0} → (S → List Separation) → Type 0
RunExistsFor {S} held = (x : S) (c : PlainCircuit) (classes : List Class) → T (valid_circuit c) → RunMeets c classes (held x)

-- rest of each net is the start and the end letter of its settled class
abbrev pub RestIsLetters : Asks → PlainCircuit → List Class → Type 0
RestIsLetters asks c classes =
    (n : ℕ) → n < net_count c → rest c classes n ≡ (start_of (settled asks c classes) n, end_of (settled asks c classes) n)

-- it is, where each yes holds and the separations can be met
abbrev pub RestIsLettersWhereMet : Type 0
RestIsLettersWhereMet =
    (says : Says) → YesIsBefore says → (seps : List Separation) (c : PlainCircuit) (classes : List Class) → T (valid_circuit c) →
    Meetable classes seps → RestIsLetters (says seps c) c classes

-- so it is by all that a source may hold and say
abbrev pub RestIsLettersFor : {S : Type 0} → (S → List Separation) → Says → Type 0
RestIsLettersFor {S} held says =
    (x : S) (c : PlainCircuit) (classes : List Class) → T (valid_circuit c) → RestIsLetters (says (held x) c) c classes
