-- What the reader hands out: the record at its place, or why there is none. Assumes nothing.
use Rattle.std.specs.Prelude.{◌≡◌, ℕ, ◌+◌, ◌<◌, true, false, List, length, drop, slice_index_or}
use Rattle.records.specs.declared.reader.Reader.{Reader}
use Rattle.records.specs.declared.reader.Record.{Record}
use Rattle.records.specs.declared.fault.RecordFault.{RecordFault}
use Rattle.records.specs.declared.fault.RecordFault.TheVariants.{CutShort}
use Rattle.records.specs.Record.{length_of, kind_of, payload_of, cut_short}

-- what the reader has not handed out yet
abbrev pub rest : Reader → List ℕ
rest r = drop r.at r.bytes.now

-- the record that the rest begins with, whole, with its place; the reader moves past it
pub record Taken (before after : Reader) (r : Record) : Type 0 where
  pub whole : cut_short (rest before) ≡ false
  pub place : r.place ≡ before.at
  pub kind : r.kind ≡ kind_of (rest before)
  pub payload : r.payload.now ≡ payload_of (rest before)
  pub size : length r.payload.now ≡ length_of (rest before)
  pub moved : after.at ≡ before.at + 4 + length_of (rest before)
  -- the low bytes of length and kind are below 256, so that they are what the two numbers are written as
  pub low_length : slice_index_or (rest before) 0 0 < 256
  pub low_kind : slice_index_or (rest before) 2 0 < 256
  pub same : after.bytes.now ≡ before.bytes.now

-- the record is cut short; the reader is as it was
pub record Cut (before after : Reader) (e : RecordFault) : Type 0 where
  pub short : cut_short (rest before) ≡ true
  pub fault : e ≡ CutShort before.at
  pub same : after ≡ before
