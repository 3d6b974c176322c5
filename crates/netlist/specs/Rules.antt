-- The rules that each record of a circuit file keeps, with their numbers, and the order in which they are checked. Assumes nothing.
use Rattle.std.specs.Prelude.{ℕ, Bool, true, cond, ◌&&◌, List, [], ◌∷◌, length, drop, Some, None, Option, ◌==◌, nat_le, nat_lt, slice_index}
use Rattle.refusals.specs.declared.refusal.Layer.{Layer}
use Rattle.refusals.specs.declared.refusal.Layer.TheVariants.{Reader, Circuit}
use Rattle.netlist.specs.Circuit.{all_below, good_head}
use Rattle.records.specs.Record.{two, kind_of, payload_of, cut_short}

-- what is due at a place of the file: the head, or a gate with this number for its own net
pub data Due : Type 0 where
  head : Due
  gate : ℕ → Due

-- the rules
pub data Rule : Type 0 where
  -- the record is whole
  whole : Rule
  -- its kind is the one due
  kind : Rule
  -- its payload has 2 bytes for a head, 6 to 13 for a gate
  size : Rule
  -- a head announces 1 to 16 inputs and at most 240 gates
  limits : Rule
  -- a function code is at most 7
  code : Rule
  -- BUF and NOT have exactly one pin, the others at least two
  count : Rule
  -- each pin is a net lower than the gate's own
  lower : Rule
  -- the least delay is not above the greatest
  delays : Rule

-- the number of the refusal for a broken rule
abbrev pub number : Rule → ℕ
number whole = 3
number kind = 4
number size = 5
number limits = 6
number code = 7
number count = 8
number lower = 9
number delays = 11

-- the layer that finds it: the reader, or the circuit above it
abbrev pub layer : Rule → Layer
layer whole = Reader
layer kind = Circuit
layer size = Circuit
layer limits = Circuit
layer code = Circuit
layer count = Circuit
layer lower = Circuit
layer delays = Circuit

-- the fields of a gate's payload: its function code
abbrev pub code_of : List ℕ → ℕ
code_of payload = slice_index payload 0

-- its least delay
abbrev pub least_of : List ℕ → ℕ
least_of payload = two (slice_index payload 1) (slice_index payload 2)

-- its greatest delay
abbrev pub greatest_of : List ℕ → ℕ
greatest_of payload = two (slice_index payload 3) (slice_index payload 4)

-- its pins: all that follows
abbrev pub pins_of : List ℕ → List ℕ
pins_of payload = drop 5 payload

-- the kind that is due
abbrev pub kind_due : Due → ℕ
kind_due head = 1
kind_due (gate own) = 2

-- the payload's length is one that is due
abbrev pub size_due : Due → ℕ → Bool
size_due head n = n == 2
size_due (gate own) n = nat_le 6 n && nat_le n 13

-- the pin count is one that the function of this code has
abbrev pub count_due : ℕ → ℕ → Bool
count_due c n = cond (nat_lt c 2) (n == 1) (nat_le 2 n)

-- the nets that a pin may be: those below the gate's own
abbrev pub limit_due : Due → ℕ
limit_due head = 0
limit_due (gate own) = own

-- a whole record of this kind with this payload keeps the rule
abbrev pub keeps : Due → ℕ → List ℕ → Rule → Bool
keeps due k payload whole = true
keeps due k payload kind = k == kind_due due
keeps due k payload size = size_due due (length payload)
keeps due k payload limits = good_head (slice_index payload 0) (slice_index payload 1)
keeps due k payload code = nat_le (code_of payload) 7
keeps due k payload count = count_due (code_of payload) (length (pins_of payload))
keeps due k payload lower = all_below (limit_due due) (pins_of payload)
keeps due k payload delays = nat_le (least_of payload) (greatest_of payload)

-- the rules for a whole record, in the order in which they are checked
abbrev pub checks : Due → List Rule
checks head = kind ∷ size ∷ limits ∷ []
checks (gate own) = kind ∷ size ∷ code ∷ count ∷ lower ∷ delays ∷ []

-- the first of these rules that the record breaks, if it breaks one
abbrev pub first_of : Due → ℕ → List ℕ → List Rule → Option Rule
first_of due k payload [] = None
first_of due k payload (r ∷ rs) = cond (keeps due k payload r) (first_of due k payload rs) (Some r)

-- the first rule that the record at the front of these bytes breaks; that it is whole is checked first
abbrev pub first_broken : Due → List ℕ → Option Rule
first_broken due bs = cond (cut_short bs) (Some whole) (first_of due (kind_of bs) (payload_of bs) (checks due))
