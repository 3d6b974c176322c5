-- What the settled rows mean: true in every run, narrowest classes, tight bounds, and pins held exactly by the rule. Assumes nothing.
use Rattle.std.specs.Prelude.{◌≡◌, ℕ, suc, ◌+◌, ◌-◌, ◌*◌, ◌<◌, ◌≤◌, Bool, true, false, T, ◌≢◌, ◌⊎◌, List, length, take, Some, None, slice_index_or}
use Rattle.classes.specs.declared.three.Three.{Three}
use Rattle.classes.specs.declared.three.Three.TheVariants.{Zero, One}
use Rattle.classes.specs.declared.class.Class.{Class}
use Rattle.classes.specs.declared.class.Class.TheVariants.{C000}
use Rattle.classes.specs.Class.{In}
use Rattle.functions.specs.Function.{described}
use Rattle.waveform.specs.Narrowest.{Narrowest}
use Rattle.netlist.specs.Circuit.{PlainGate, PlainCircuit, valid_circuit, net_count}
use Rattle.runs.specs.declared.row.Bounds.{Bounds}
use Rattle.runs.specs.declared.row.Row.{Row}
use Rattle.runs.specs.Run.{Run, RunOf, InClasses, gate_at}
use Rattle.runs.specs.Row.{RowsTrue, bounds_from, held_at, row_at}
use Rattle.runs.specs.LivePath.{TightBounds}
use Rattle.separations.specs.Separations.{Separation}
use Rattle.ordering.specs.Source.{Says, YesIsBefore, Met}
use Rattle.settling_theory.specs.Settled.{Asks, start_of, end_of, pin_net, pin_classes, row_for, settled_to, settled}

-- the letter that fixes a value
abbrev pub letter : Bool → Three
letter false = Zero
letter true = One

-- place p may be held at its start value b: another place ends at control and is before p
pub record StartRule (asks : Asks) (rows : List Row) (g : PlainGate) (control : Bool) (p : ℕ) (b : Bool) : Type 0 where
  pub starts : start_of rows (pin_net g p) ≡ letter b
  pub holder : ℕ
  pub inside : holder < length g.pins
  pub other : holder ≢ p
  pub ends : end_of rows (pin_net g holder) ≡ letter control
  pub before : asks rows (pin_net g holder) (pin_net g p) ≡ true

-- place p may be held at its end value b: another place starts at control and p is before it
pub record EndRule (asks : Asks) (rows : List Row) (g : PlainGate) (control : Bool) (p : ℕ) (b : Bool) : Type 0 where
  pub ends : end_of rows (pin_net g p) ≡ letter b
  pub holder : ℕ
  pub inside : holder < length g.pins
  pub other : holder ≢ p
  pub starts : start_of rows (pin_net g holder) ≡ letter control
  pub before : asks rows (pin_net g p) (pin_net g holder) ≡ true

-- held at its start value, failing that at its end value
abbrev pub HeldRule : Asks → List Row → PlainGate → Bool → ℕ → Bool → Type 0
HeldRule asks rows g control p b = StartRule asks rows g control p b ⊎ (((x : Bool) → StartRule asks rows g control p x → ⊥) × EndRule asks rows g control p b)

-- why place p of the gate is held at b: it has a pin, the gate has a control value, and the rule holds it
pub record HeldBecause (asks : Asks) (rows : List Row) (g : PlainGate) (p : ℕ) (b : Bool) : Type 0 where
  pub inside : p < length g.pins
  pub control : Bool
  pub controls : (described g.function).control ≡ Some control
  pub rule : HeldRule asks rows g control p b

-- the row of the gate holds a place at b exactly if the rule does, over the rows below the gate's net
pub record HeldExactly (asks : Asks) (below : List Row) (g : PlainGate) (row : Row) : Type 0 where
  pub because : (p : ℕ) (b : Bool) → held_at row p ≡ Some b → HeldBecause asks below g p b
  pub holds : (p : ℕ) (b : Bool) → HeldBecause asks below g p b → held_at row p ≡ Some b
  pub past : (p : ℕ) → length g.pins ≤ p → held_at row p ≡ None

-- the rows are exact by these answers: an input has the class of its stimulus and holds nothing, a gate holds the places
-- that the rule holds and has the narrowest class, and the bounds of every net are tight
pub record RowsExact (asks : Asks) (c : PlainCircuit) (classes : List Class) (rows : List Row) : Type 0 where
  -- one row for each net
  pub count : length rows ≡ net_count c
  pub input_class : (n : ℕ) → n < c.inputs → (row_at rows n).class ≡ slice_index_or classes n C000
  pub input_holds : (n place : ℕ) → n < c.inputs → held_at (row_at rows n) place ≡ None
  -- a place is held exactly by the rule, over the rows below the gate's net
  pub held : (k : ℕ) → k < length c.gates → HeldExactly asks (take (c.inputs + k) rows) (gate_at c k) (row_at rows (c.inputs + k))
  -- the class is the narrowest that contains all that the pins can give, the held ones at their constants
  pub narrowest : (k : ℕ) → k < length c.gates →
      Narrowest In (described (gate_at c k).function).truth (pin_classes rows (gate_at c k) (row_at rows (c.inputs + k)).held) (row_at rows (c.inputs + k)).class
  -- the bounds are the least and the greatest delay sum over live paths
  pub tight : (n i : ℕ) → n < net_count c → TightBounds c rows i n

-- what settled rows mean: they are exact by what the source says, and true in every run of the circuit with inputs in these classes that meets the separations
pub record SettledMeans (says : Says) (seps : List Separation) (c : PlainCircuit) (classes : List Class) (rows : List Row) : Type 0 where
  pub exact : RowsExact (says seps c) c classes rows
  pub true_in_runs : (run : Run) → RunOf c run → InClasses c classes run → Met c run seps → RowsTrue c rows run

-- the rows of fewer nets are the front of the rows of more, and each row is worked out from the rows below it
pub record RowsAgree (asks : Asks) (c : PlainCircuit) (classes : List Class) : Type 0 where
  pub count : (n : ℕ) → length (settled_to asks c classes n) ≡ n
  pub row : (n k : ℕ) → k < n → row_at (settled_to asks c classes n) k ≡ row_for asks c classes (settled_to asks c classes k) k
  pub front : (m n : ℕ) → m ≤ n → settled_to asks c classes m ≡ take m (settled_to asks c classes n)

-- so it is for all answers, circuits and classes
abbrev pub SettledRowsAgree : Type 0
SettledRowsAgree = (asks : Asks) (c : PlainCircuit) (classes : List Class) → RowsAgree asks c classes

-- the settled rows are exact, whatever the answers
abbrev pub SettledRowsAreExact : Type 0
SettledRowsAreExact = (asks : Asks) (c : PlainCircuit) (classes : List Class) → T (valid_circuit c) → RowsExact asks c classes (settled asks c classes)

-- if a yes holds wherever the rows are true and the separations met, the settled rows are true in every run with its inputs in the classes that meets them
abbrev pub SettledRowsAreTrue : Type 0
SettledRowsAreTrue =
    (says : Says) → YesIsBefore says → (seps : List Separation) (c : PlainCircuit) (classes : List Class) → T (valid_circuit c) →
    (run : Run) → RunOf c run → InClasses c classes run → Met c run seps → RowsTrue c (settled (says seps c) c classes) run

-- whatever separations are held, and for every valid circuit and all classes of its inputs, the settled rows mean what they should
abbrev pub RowsMean : Says → Type 0
RowsMean says =
    (seps : List Separation) (c : PlainCircuit) (classes : List Class) → T (valid_circuit c) → SettledMeans says seps c classes (settled (says seps c) c classes)

-- so it is for all answers of which a yes holds wherever the rows are true and the separations met
abbrev pub SettledRowsMean : Type 0
SettledRowsMean = (says : Says) → YesIsBefore says → RowsMean says

-- bounds are in order and at most 65,535 for each gate up to their net, so at most 15,728,400
pub record Fits (c : PlainCircuit) (n : ℕ) (b : Bounds) : Type 0 where
  pub ordered : b.lo ≤ b.hi
  pub summed : b.hi ≤ 65535 * (suc n - c.inputs)
  pub small : b.hi ≤ 15728400

-- all bounds that settling works out fit, also among the rows of the first nets alone
abbrev pub SettledBoundsFit : Type 0
SettledBoundsFit =
    (asks : Asks) (c : PlainCircuit) (classes : List Class) → T (valid_circuit c) →
    (m n i : ℕ) (b : Bounds) → n < m → n < net_count c → bounds_from (row_at (settled_to asks c classes m) n) i ≡ Some b → Fits c n b
