-- What a stem layer says over the source below it: nets that are tied to one clean net flip so many ticks after its one flip. Assumes nothing.
use Rattle.std.specs.Prelude.{ℕ, zero, suc, ◌+◌, ◌-◌, Bool, cond, not, ◌&&◌, ◌||◌, List, [], ◌∷◌, ◌++◌, is_some, Some, None, Option, ◌==◌, nat_lt, slice_index_or}
use Rattle.classes.specs.Class.{is_constant}
use Rattle.netlist.specs.Circuit.{PlainCircuit}
use Rattle.runs.specs.declared.row.Bounds.{Bounds}
use Rattle.runs.specs.declared.row.Row.{Row}
use Rattle.runs.specs.Run.{gate_at}
use Rattle.runs.specs.Row.{held_at, row_at}
use Rattle.runs.specs.Gathered.{delayed, joined}
use Rattle.ordering.specs.Source.{Says}
use Rattle.ordering.specs.Rows.{some_below, row_count, clean_net, below}

-- the bounds of all of these, joined one by one to those so far; none if one of them is not tied
abbrev pub all_tied : Option Bounds → List (Option Bounds) → Option Bounds
all_tied all [] = all
all_tied all (None ∷ ts) = None
all_tied all (Some t ∷ ts) = all_tied (joined all (Some t)) ts

-- the pin at place k, on net n, of a gate with this row: it is not held, and the net's class is not constant
abbrev pub live_pin : List Row → Row → ℕ → ℕ → Bool
live_pin rows row k n = not (is_some (held_at row k)) && not (is_constant (row_at rows n).class)

-- how the nets at the live pins are tied, from place k on
abbrev pub live_ties : List Row → List (Option Bounds) → Row → ℕ → List ℕ → List (Option Bounds)
live_ties rows ties row k [] = []
live_ties rows ties row k (n ∷ ns) =
    cond (live_pin rows row k n) (slice_index_or ties n None ∷ live_ties rows ties row (k + 1) ns) (live_ties rows ties row (k + 1) ns)

-- how net n is tied to net s, from the ties of the nets below n: s itself by 0 and 0, no other input and no constant net,
-- any other gate if it has live pins and all of them are tied
abbrev pub tie_of : PlainCircuit → List Row → ℕ → List (Option Bounds) → ℕ → Option Bounds
tie_of c rows s ties n =
    cond (n == s) (Some (record { lo = 0; hi = 0 }))
    (cond (nat_lt n c.inputs || is_constant (row_at rows n).class) None
    (delayed (gate_at c (n - c.inputs)) (all_tied None (live_ties rows ties (row_at rows n) 0 (gate_at c (n - c.inputs)).pins))))

-- one more net
abbrev pub with_next : PlainCircuit → List Row → ℕ → ℕ → List (Option Bounds) → List (Option Bounds)
with_next c rows s n ties = ties ++ (tie_of c rows s ties n ∷ [])

-- how the nets below n are tied to net s, in one rising pass
abbrev pub ties_below : PlainCircuit → List Row → ℕ → ℕ → List (Option Bounds)
ties_below c rows s zero = []
ties_below c rows s (suc n) = with_next c rows s n (ties_below c rows s n)

-- how net n is tied to net s; a net without a row is not tied
abbrev pub tie : PlainCircuit → List Row → ℕ → ℕ → Option Bounds
tie c rows s n = slice_index_or (ties_below c rows s (row_count c rows)) n None

-- net s is clean, both nets are tied to it, and the greatest of q lies below the least of p
abbrev pub tied_apart : PlainCircuit → List Row → ℕ → ℕ → ℕ → Bool
tied_apart c rows q p s = clean_net c rows s && below (tie c rows s q) (tie c rows s p)

-- the source below says so, or some clean net that has a row ties both nets apart
abbrev pub stemmed : Says → Says
stemmed under seps c rows q p = under seps c rows q p || some_below (tied_apart c rows q p) (row_count c rows)
