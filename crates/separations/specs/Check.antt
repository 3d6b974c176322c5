-- The test for a contradiction: times from 0 that passes over the table raise. Assumes nothing.
use Rattle.std.specs.Prelude.{◌≡◌, ℕ, zero, suc, ◌^◌, ◌<◌, ◌≤◌, max, List, map, replicate, ℤ, pos, negsuc, ◌+ℤ◌, ◌≤ℤ◌, Some, None, Option, slice_index}
use Rattle.std.specs.List.{range_with_len}
use Rattle.separations.specs.Separations.{Table, spacing_at}

-- a number, or 0 where it is negative
abbrev pub whole : ℤ → ℕ
whole (pos n) = n
whole (negsuc n) = 0

-- a time, raised where the spacing after another time asks it
abbrev pub raised : Option ℤ → ℕ → ℕ → ℕ
raised None from time = time
raised (Some s) from time = max time (whole (pos from +ℤ s))

-- the time of input b, raised by the spacings after each of the first n inputs
unfoldable pub latest : Table → List ℕ → ℕ → ℕ → ℕ
latest table times b zero = slice_index times b
latest table times b (suc n) = raised (spacing_at table n b) (slice_index times n) (latest table times b n)

-- every spacing of the table is at most 65,535
abbrev pub Limited : Table → Type 0
Limited table = (a b : ℕ) (s : ℤ) → a < 16 → b < 16 → spacing_at table a b ≡ Some s → s ≤ℤ pos 65535

-- every time is at most 2 ^ 20, far below what a sum in 64 bits holds
abbrev pub Moderate : List ℕ → Type 0
Moderate times = (i : ℕ) → i < 16 → slice_index times i ≤ 2 ^ 20

-- the times after one pass: each is raised by the spacings after the times before the pass
unfoldable pub passed : Table → List ℕ → List ℕ
passed table times = map (λ b. latest table times b 16) (range_with_len 0 16)

-- the times after so many passes, all from 0
unfoldable pub times_after : Table → ℕ → List ℕ
times_after table zero = replicate 16 0
times_after table (suc k) = passed table (times_after table k)
