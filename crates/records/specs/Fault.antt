-- What a fault of the reader is: its place, and the refusal that it stands for. Assumes nothing.
use Rattle.std.specs.Prelude.{ℕ}
use Rattle.refusals.specs.declared.refusal.Layer.TheVariants.{Reader}
use Rattle.records.specs.declared.fault.RecordFault.{RecordFault}
use Rattle.records.specs.declared.fault.RecordFault.TheVariants.{CutShort}
use Rattle.refusals.specs.declared.refusal.Refusal.{Refusal}

-- the place of the record that is cut short
abbrev pub record_place : RecordFault → ℕ
record_place (CutShort place) = place

-- the refusal that the fault stands for
abbrev pub record_refusal : RecordFault → Refusal
record_refusal f = record { number = 3; layer = Reader; place = record_place f }
