-- What reading a circuit file comes to: one outcome for every list of bytes. Assumes nothing.
use Rattle.std.specs.Prelude.{◌≡◌, ℕ, ◌+◌, ◌<◌, T, List, ◌++◌, length, take, drop, Some, None, Ok, Err, Option, Result, slice_index}
use Rattle.netlist.specs.declared.circuit.Circuit.{Circuit}
use Rattle.netlist.specs.declared.fault.CircuitFault.{CircuitFault}
use Rattle.netlist.specs.Circuit.{PlainGate, PlainCircuit, valid_circuit, valid_gates, good_head}
use Rattle.netlist.specs.Layout.{head_bytes, gates_bytes, layout}
use Rattle.netlist.specs.Rules.{Due, head, gate, Rule, first_broken}
use Rattle.refusals.specs.declared.refusal.Refusal.{Refusal}
use Rattle.netlist.specs.Fault.{refusal, refusal_of}
use Rattle.netlist.specs.View.{plain}

-- accepted as a circuit with so many bytes used, or refused
pub data Outcome : Type 0 where
  accepted : PlainCircuit → ℕ → Outcome
  refused : Refusal → Outcome

-- the circuit is valid, and the first n bytes are its layout
pub record Accepted (bytes : List ℕ) (c : PlainCircuit) (n : ℕ) : Type 0 where
  pub valid : T (valid_circuit c)
  pub used : n ≡ length (layout c)
  pub written : take n bytes ≡ layout c

-- the bytes before a place are a good head and fewer good gates than it announces; there the next gate is due
pub record GatesBefore (bytes : List ℕ) (place own : ℕ) : Type 0 where
  pub inputs : ℕ
  pub announced : ℕ
  pub gates : List PlainGate
  pub good : T (good_head inputs announced)
  pub valid : T (valid_gates inputs gates)
  pub fewer : length gates < announced
  pub next : own ≡ inputs + length gates
  pub reached : place ≡ length (head_bytes inputs announced ++ gates_bytes gates)
  pub written : take place bytes ≡ head_bytes inputs announced ++ gates_bytes gates

-- what is due at a place: the head at place 0, a gate behind a good head and good gates
abbrev pub DueAt : List ℕ → ℕ → Due → Type 0
DueAt bytes place head = place ≡ 0
DueAt bytes place (gate own) = GatesBefore bytes place own

-- the record at the place breaks this rule and none that is checked before it
pub record Refused (bytes : List ℕ) (r : Refusal) : Type 0 where
  pub due : Due
  pub rule : Rule
  pub place : ℕ
  pub reached : DueAt bytes place due
  pub broken : first_broken due (drop place bytes) ≡ Some rule
  pub told : r ≡ refusal rule place

-- the bytes have this outcome
abbrev pub Has : List ℕ → Outcome → Type 0
Has bytes (accepted c n) = Accepted bytes c n
Has bytes (refused r) = Refused bytes r

-- the bytes have this outcome and no other
abbrev pub Only : List ℕ → Outcome → Type 0
Only bytes o = Has bytes o × ((other : Outcome) → Has bytes other → other ≡ o)

-- every number of the list is a byte
abbrev pub AllBytes : List ℕ → Type 0
AllBytes bytes = (i : ℕ) → slice_index bytes i < 256

-- every list of bytes has an outcome, and just one
abbrev pub OneOutcome : Type 0
OneOutcome = (bytes : List ℕ) → AllBytes bytes → ((o : Outcome) × Only bytes o)

-- the outcome that an answer of the program stands for; none for want of memory
abbrev pub refused_as : Option Refusal → Option Outcome
refused_as None = None
refused_as (Some r) = Some (refused r)

abbrev pub outcome_of : Result (Circuit × ℕ) CircuitFault → Option Outcome
outcome_of (Ok p) = Some (accepted (plain p.0) p.1)
outcome_of (Err e) = refused_as (refusal_of e)

-- an answer tells the one outcome of the bytes, unless memory was wanting
abbrev pub TellsOnly : List ℕ → Option Outcome → Type 0
TellsOnly bytes None = Unit {0}
TellsOnly bytes (Some o) = Only bytes o

-- the layout of a valid circuit determines it, whatever bytes follow
abbrev pub LayoutDetermines : Type 0
LayoutDetermines = (c d : PlainCircuit) (s t : List ℕ) → T (valid_circuit c) → T (valid_circuit d) → layout c ++ s ≡ layout d ++ t → c ≡ d
