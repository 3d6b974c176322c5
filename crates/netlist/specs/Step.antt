-- What taking one record off the reader comes to, for a head and for a gate. Assumes nothing.
use Rattle.std.specs.Prelude.{◌≡◌, ℕ, ◌+◌, ◌<◌, ◌≤◌, true, false, T, ◌⊎◌, List, ◌++◌, length, drop, Some, None, Option, ◌==◌, nat_le, slice_index, slice_index_or}
use Rattle.functions.specs.Function.{described}
use Rattle.records.specs.declared.reader.Reader.{Reader}
use Rattle.netlist.specs.declared.circuit.read.GateFields.{GateFields}
use Rattle.netlist.specs.declared.circuit.read.Head.{Head}
use Rattle.netlist.specs.declared.fault.CircuitFault.{CircuitFault}
use Rattle.netlist.specs.declared.fault.CircuitFault.TheVariants.{Record, Kind, Code, PinCount}
use Rattle.records.specs.declared.fault.RecordFault.TheVariants.{CutShort}
use Rattle.netlist.specs.Circuit.{PlainGate, valid_gates}
use Rattle.netlist.specs.Layout.{gates_bytes}
use Rattle.records.specs.Record.{length_of, kind_of, cut_short}
use Rattle.netlist.specs.Rules.{Due, gate, Rule, size_due, code_of, least_of, greatest_of, pins_of, count_due, first_broken}
use Rattle.netlist.specs.Fault.{rule_of, place_of}
use Rattle.records.specs.Next.{rest}

-- the place that is told with a rule
abbrev pub place_told : Option Rule → ℕ → ℕ
place_told None place = 0
place_told (Some r) place = place

-- the rule is the one that is broken
abbrev pub TellsRule : Option Rule → Option Rule → Type 0
TellsRule None broken = Unit {0}
TellsRule (Some r) broken = broken ≡ Some r

-- the fault tells the first rule that the record breaks, and its place, unless memory was wanting
abbrev pub Tells : CircuitFault → Option Rule → ℕ → Type 0
Tells e broken place = TellsRule (rule_of e) broken × (place_of e ≡ place_told (rule_of e) place)

-- the record at the reader's place is cut short, or its kind has another number
abbrev pub NotOfKind : ℕ → Reader → CircuitFault → Type 0
NotOfKind n before e =
    ((e ≡ Record (CutShort before.at)) × (cut_short (rest before) ≡ true)) ⊎ ((e ≡ Kind before.at) × (cut_short (rest before) ≡ false) × ((kind_of (rest before) == n) ≡ false))

-- the record keeps every rule and the reader has moved past it
pub record Passed (due : Due) (before after : Reader) : Type 0 where
  pub kept : first_broken due (rest before) ≡ None
  -- the low bytes of length and kind are below 256, so that they are what the two numbers are written as
  pub low_length : slice_index_or (rest before) 0 0 < 256
  pub low_kind : slice_index_or (rest before) 2 0 < 256
  pub moved : after.at ≡ before.at + 4 + length_of (rest before)
  pub same : after.bytes.now ≡ before.bytes.now

-- the head announces what its payload says
pub record Announces (payload : List ℕ) (h : Head) : Type 0 where
  pub inputs : h.inputs ≡ slice_index payload 0
  pub gates : h.gates ≡ slice_index payload 1

-- the gate is the one that the payload describes
pub record Describes (payload : List ℕ) (g : PlainGate) : Type 0 where
  pub code : (described g.function).code ≡ code_of payload
  pub least : g.least ≡ least_of payload
  pub greatest : g.greatest ≡ greatest_of payload
  pub pins : g.pins ≡ pins_of payload
  -- the low bytes of the delays are below 256, so that they are what the delays are written as; a delay fits two bytes
  pub low_least : slice_index_or payload 1 0 < 256
  pub low_greatest : slice_index_or payload 3 0 < 256
  pub most : g.greatest ≤ 65535

-- the payload has a gate's size, which is the same for every net, and these are its fields
pub record FieldsOf (payload : List ℕ) (f : GateFields) : Type 0 where
  pub size : size_due (gate 0) (length payload) ≡ true
  pub code : f.code ≡ code_of payload
  pub least : f.least ≡ least_of payload
  pub greatest : f.greatest ≡ greatest_of payload
  pub pins : f.pins.now ≡ pins_of payload

-- no function has this code, or the function of this code does not take so many pins
abbrev pub FunctionFault : CircuitFault → ℕ → ℕ → ℕ → Type 0
FunctionFault e place c pins =
    ((e ≡ Code place) × (nat_le c 7 ≡ false)) ⊎ ((e ≡ PinCount place) × (nat_le c 7 ≡ true) × (count_due c pins ≡ false))

-- the gates from a place on: valid ones, written out up to another place
pub record GatesTaken (bytes : List ℕ) (place own : ℕ) (gates : List PlainGate) (after : ℕ) : Type 0 where
  pub valid : T (valid_gates own gates)
  pub stands : drop place bytes ≡ gates_bytes gates ++ drop after bytes
  pub moved : after ≡ place + length (gates_bytes gates)

-- behind fewer gates than were announced, the record that follows breaks this rule first
pub record Stopped (rule : Rule) (told : ℕ) (bytes : List ℕ) (place own announced : ℕ) : Type 0 where
  pub gates : List PlainGate
  pub after : ℕ
  pub fewer : length gates < announced
  pub taken : GatesTaken bytes place own gates after
  pub broken : first_broken (gate (own + length gates)) (drop after bytes) ≡ Some rule
  pub there : told ≡ after

abbrev pub StopsBy : Option Rule → ℕ → List ℕ → ℕ → ℕ → ℕ → Type 0
StopsBy None told bytes place own announced = Unit {0}
StopsBy (Some rule) told bytes place own announced = Stopped rule told bytes place own announced

-- the fault tells where and why the gates stop, unless memory was wanting
abbrev pub Stops : CircuitFault → List ℕ → ℕ → ℕ → ℕ → Type 0
Stops e bytes place own announced = StopsBy (rule_of e) (place_of e) bytes place own announced
