-- What each fault of reading a circuit is: the rule that is broken and the place of the record that breaks it. Assumes nothing.
use Rattle.std.specs.Prelude.{ℕ, Some, None, Option}
use Rattle.std.specs.Option.{option_map}
use Rattle.records.specs.Fault.{record_place}
use Rattle.records.specs.declared.fault.RecordFault.{RecordFault}
use Rattle.refusals.specs.declared.refusal.Refusal.{Refusal}
use Rattle.netlist.specs.declared.fault.CircuitFault.{CircuitFault}
use Rattle.netlist.specs.declared.fault.CircuitFault.TheVariants.{Record, Kind, Size, Limits, Code, PinCount, Pin, Delays, Memory}
use Rattle.netlist.specs.Rules as rules

-- the refusal for breaking a rule at a place
abbrev pub refusal : rules.Rule → ℕ → Refusal
refusal r place = record { number = rules.number r; layer = rules.layer r; place = place }

-- the rule that a fault says is broken; want of memory breaks none
abbrev pub rule_of : CircuitFault → Option rules.Rule
rule_of (Record f) = Some rules.whole
rule_of (Kind place) = Some rules.kind
rule_of (Size place) = Some rules.size
rule_of (Limits place) = Some rules.limits
rule_of (Code place) = Some rules.code
rule_of (PinCount place) = Some rules.count
rule_of (Pin place) = Some rules.lower
rule_of (Delays place) = Some rules.delays
rule_of Memory = None

-- the refusal that a fault of the reader stands for
abbrev pub record_refusal : RecordFault → Refusal
record_refusal f = refusal rules.whole (record_place f)

-- the place of the record that breaks it
abbrev pub place_of : CircuitFault → ℕ
place_of (Record f) = record_place f
place_of (Kind place) = place
place_of (Size place) = place
place_of (Limits place) = place
place_of (Code place) = place
place_of (PinCount place) = place
place_of (Pin place) = place
place_of (Delays place) = place
place_of Memory = 0

-- the refusal that a fault stands for; want of memory is none of them
abbrev pub refusal_of : CircuitFault → Option Refusal
refusal_of e = option_map (λ r. refusal r (place_of e)) (rule_of e)
