-- What is told of rows and of rest. Assumes nothing.
use Rattle.std.specs.Prelude.{◌≡◌, ℕ, ◌<◌, ◌≤◌, List, Some, None, Option}
use Rattle.signals.specs.Waveform.{final}
use Rattle.classes.specs.declared.three.Three.{Three}
use Rattle.classes.specs.declared.class.Class.{Class}
use Rattle.netlist.specs.Circuit.{PlainCircuit, net_count}
use Rattle.runs.specs.declared.row.Bounds.{Bounds}
use Rattle.runs.specs.declared.row.Row.{Row}
use Rattle.runs.specs.Run.{Before, InClasses, Run, RunOf, wave}
use Rattle.runs.specs.Row.{bounds_from, row_at}
use Rattle.separations.specs.Separations.{Separation}
use Rattle.ordering.specs.Source.{Met, Says}
use Rattle.settling_theory.specs.Meaning.{Fits}
use Rattle.settling_theory.specs.Rest.{rest}
use Rattle.settling_theory.specs.RestTheorems.{Allows}
use Rattle.settling_theory.specs.Settled.{end_of, settled, start_of}

-- the start and the end letter of each net's class are its rest
abbrev pub LettersAreRest : PlainCircuit → List Class → List Row → Type 0
LettersAreRest c classes rows = (n : ℕ) → n < net_count c → rest c classes n ≡ (start_of rows n, end_of rows n)

-- the bounds of each net are in order and at most 65,535 for each gate up to it, so at most 15,728,400
abbrev pub BoundsFit : PlainCircuit → List Row → Type 0
BoundsFit c rows = (n i : ℕ) (b : Bounds) → n < net_count c → bounds_from (row_at rows n) i ≡ Some b → Fits c n b

-- if the rows are those that settling writes, every flip of q comes before every flip of p in every run with its inputs in the classes
-- that meets the separations
abbrev pub OrderedOnceSettled : Says → List Separation → PlainCircuit → List Class → List Row → ℕ → ℕ → Type 0
OrderedOnceSettled says seps c classes rows q p =
    rows ≡ settled (says seps c) c classes → (run : Run) → RunOf c run → InClasses c classes run → Met c run seps → Before (wave run q) (wave run p)

-- none for a number that is no net; else the net starts and ends so in every run with its inputs in the classes
abbrev pub RestTrue : PlainCircuit → List Class → ℕ → Option (Three × Three) → Type 0
RestTrue c classes n None = net_count c ≤ n
RestTrue c classes n (Some v) = (run : Run) → RunOf c run → InClasses c classes run → Allows v.0 (wave run n).first × Allows v.1 (final (wave run n))
