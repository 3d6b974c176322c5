-- Records: the payload's length, the kind, both two bytes with the low one first, and the payload. Assumes nothing.
use Rattle.std.specs.Prelude.{ℕ, ◌+◌, ◌*◌, Bool, ◌||◌, List, length, take, drop, nat_lt, slice_index}

-- the number in two bytes, the low one first
abbrev pub two : ℕ → ℕ → ℕ
two low high = low + high * 256

-- of the record that these bytes begin with: the length of its payload
abbrev pub length_of : List ℕ → ℕ
length_of bs = two (slice_index bs 0) (slice_index bs 1)

-- its kind
abbrev pub kind_of : List ℕ → ℕ
kind_of bs = two (slice_index bs 2) (slice_index bs 3)

-- its payload
abbrev pub payload_of : List ℕ → List ℕ
payload_of bs = take (length_of bs) (drop 4 bs)

-- it is cut short, in its four head bytes or in its payload
abbrev pub cut_short : List ℕ → Bool
cut_short bs = nat_lt (length bs) 4 || nat_lt (length bs) (4 + length_of bs)
