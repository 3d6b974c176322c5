-- Ties to a net: what they are at each net, and what the bounds of several tied nets say of each. Assumes nothing.
use Rattle.std.specs.Prelude.{◌≡◌, ℕ, zero, suc, ◌+◌, ◌<◌, ◌≤◌, min, max, Bool, true, false, cond, List, [], ◌∷◌, length, get_or, Some, None, Option, slice_index, slice_index_or, refl}
use Rattle.std.proofs.Common.{ap, subst, ⊎_elim, add-zero, arith}
use Rattle.std.proofs.lemmas.List.{length_push, get_or_push, get_or_append_left, get_or_past}
use Rattle.std.proofs.lemmas.Bool.{cases_lt, cond-true}
use Rattle.netlist.specs.Circuit.{PlainCircuit}
use Rattle.runs.specs.declared.row.Bounds.{Bounds}
use Rattle.runs.specs.declared.row.Row.{Row}
use Rattle.runs.specs.Gathered.{joined}
use Rattle.ordering.specs.Stem.{all_tied, live_pin, live_ties, tie_of, ties_below}

-- there are as many ties as nets
pub length_ties : (c : PlainCircuit) (rows : List Row) (s n : ℕ) → length (ties_below c rows s n) ≡ n
length_ties c rows s zero = refl
length_ties c rows s (suc n) =
    let h = length_ties c rows s n in omega (arith, length_push (ties_below c rows s n) (tie_of c rows s (ties_below c rows s n) n))

-- the last tie of a pass
pub last_tie : (c : PlainCircuit) (rows : List Row) (s n : ℕ) → slice_index_or (ties_below c rows s (suc n)) n None ≡ tie_of c rows s (ties_below c rows s n) n
last_tie c rows s n = get_or_push (ties_below c rows s n) _ None n (length_ties c rows s n)

-- what is tied is below the limit
pub tied_below : (c : PlainCircuit) (rows : List Row) (s n k : ℕ) (b : Bounds) → slice_index_or (ties_below c rows s n) k None ≡ Some b → k < n
tied_below c rows s n k b h =
    ⊎_elim (λ l. l)
    (λ l. let past : get_or (ties_below c rows s n) k None ≡ None = get_or_past (ties_below c rows s n) k None (omega (arith, length_ties c rows s n)) in
    let z : ◌≡◌ {A = ℕ} 0 1 = cc in absurd (omega arith))
    (cases_lt k n)

-- a pass that goes further changes no tie
pub longer_pass : (c : PlainCircuit) (rows : List Row) (s n k : ℕ) → k < n → slice_index_or (ties_below c rows s (suc n)) k None ≡ slice_index_or (ties_below c rows s n) k None
longer_pass c rows s n k l = get_or_append_left (ties_below c rows s n) _ None k (omega (arith, length_ties c rows s n))

-- all_tied bounds hold what was all_tied before, and each of the rest
pub tied_holds : (a j : Bounds) (ts : List (Option Bounds)) → all_tied (Some a) ts ≡ Some j → (j.lo ≤ a.lo) × (a.hi ≤ j.hi)
tied_holds a j [] h =
    let e : a ≡ j = cc in (omega (arith, ap (λ (b : Bounds). b.lo) e), omega (arith, ap (λ (b : Bounds). b.hi) e))
tied_holds a j (None ∷ ts) h = let z : ◌≡◌ {A = ℕ} 0 1 = cc in absurd (omega arith)
tied_holds a j (Some t ∷ ts) h =
    let r = tied_holds (record { lo = min a.lo t.lo; hi = max a.hi t.hi }) j ts h in (omega (arith, r.0), omega (arith, r.1))

-- and the one that is joined next
tied_next : (all : Option Bounds) (t j : Bounds) (ts : List (Option Bounds)) → all_tied all (Some t ∷ ts) ≡ Some j → (j.lo ≤ t.lo) × (t.hi ≤ j.hi)
tied_next None t j ts h = tied_holds t j ts h
tied_next (Some b) t j ts h =
    let r = tied_holds (record { lo = min b.lo t.lo; hi = max b.hi t.hi }) j ts h in (omega (arith, r.0), omega (arith, r.1))

-- each live pin is tied within the all_tied bounds
pub tied_live : (rows : List Row) (ties : List (Option Bounds)) (row : Row) (k place : ℕ) (ns : List ℕ) (all : Option Bounds) (j : Bounds) →
    all_tied all (live_ties rows ties row k ns) ≡ Some j → place < length ns → live_pin rows row (k + place) (slice_index ns place) ≡ true →
    (b : Bounds) × (slice_index_or ties (slice_index ns place) None ≡ Some b) × (j.lo ≤ b.lo) × (b.hi ≤ j.hi)
tied_live rows ties row k place [] all j h l live = absurd (omega arith)
tied_live rows ties row k zero (n ∷ ns) all j h l live =
    go (slice_index_or ties n None) refl (subst (λ (ts : List (Option Bounds)). all_tied all ts ≡ Some j) (cond-true _ _ _ here) h)
  where
    here : live_pin rows row k n ≡ true
    here = subst (λ (i : ℕ). live_pin rows row i n ≡ true) (add-zero k) live

    go : (o : Option Bounds) → slice_index_or ties n None ≡ o → all_tied all (o ∷ live_ties rows ties row (k + 1) ns) ≡ Some j →
        (b : Bounds) × (slice_index_or ties n None ≡ Some b) × (j.lo ≤ b.lo) × (b.hi ≤ j.hi)
    go None e f = let z : ◌≡◌ {A = ℕ} 0 1 = cc in absurd (omega arith)
    go (Some t) e f =
        let r = tied_next all t j (live_ties rows ties row (k + 1) ns) f in (t, e, r.0, r.1)
tied_live rows ties row k (suc place) (n ∷ ns) all j h l live =
    go (live_pin rows row k n) (slice_index_or ties n None) h
    (λ more e. tied_live rows ties row (k + 1) place ns more j e (omega arith) (subst (λ (i : ℕ). live_pin rows row i (slice_index ns place) ≡ true) (omega arith) live))
  where
    rest : List (Option Bounds)
    rest = live_ties rows ties row (k + 1) ns

    Found : Type 0
    Found = (b : Bounds) × (slice_index_or ties (slice_index ns place) None ≡ Some b) × (j.lo ≤ b.lo) × (b.hi ≤ j.hi)

    go : (here : Bool) (o : Option Bounds) → all_tied all (cond here (o ∷ rest) rest) ≡ Some j →
        ((more : Option Bounds) → all_tied more rest ≡ Some j → Found) → Found
    go true None f next = let z : ◌≡◌ {A = ℕ} 0 1 = cc in absurd (omega arith)
    go true (Some t) f next = next (joined all (Some t)) f
    go false o f next = next all f
