-- What rows that are true in a run tell of clean nets and of inputs. Assumes nothing.
use Rattle.std.specs.Prelude.{◌≡◌, ℕ, ◌<◌, Bool, true, false, cond, T, List, Some, Option, nat_lt, refl}
use Rattle.std.proofs.Common.{sym, ◌∙◌, subst, arith}
use Rattle.std.proofs.lemmas.Bool.{ltb-true, and_parts, false≢true}
use Rattle.signals.specs.Waveform.{FlipsAt, constant}
use Rattle.classes.specs.Class.{Middle, low, high, rise, fall, free, constant_middle, clean_middle, is_clean}
use Rattle.netlist.specs.Circuit.{PlainCircuit, valid_circuit}
use Rattle.runs.specs.declared.row.Bounds.{Bounds}
use Rattle.runs.specs.declared.row.Row.{Row}
use Rattle.runs.specs.Run.{Run, wave, input_wave}
use Rattle.runs.specs.Row.{Bounded, HasRow, RowTrue, RowsTrue, row_at}
use Rattle.runs.proofs.Classes.{clean_once}
use Rattle.runs.proofs.Circuits.{counts_good}
use Rattle.ordering.specs.Rows.{row_count, has_row, clean_net, clean_input, below}

-- the test and the fact
pub has_row_lem : (c : PlainCircuit) (rows : List Row) (n : ℕ) → has_row c rows n ≡ true → HasRow c rows n
has_row_lem c rows n h = let l = ltb-true n (row_count c rows) h in (omega arith, omega arith)

pub its_row_true : (c : PlainCircuit) (rows : List Row) (run : Run) → RowsTrue c rows run → (n : ℕ) → has_row c rows n ≡ true → RowTrue c run n (row_at rows n)
its_row_true c rows run ok n h = ok n _ (has_row_lem c rows n h)

-- a constant class is not clean
pub still_middle : (m : Middle) → constant_middle m ≡ true → clean_middle m ≡ false
still_middle low h = refl
still_middle high h = refl
still_middle rise h = absurd (false≢true h)
still_middle fall h = absurd (false≢true h)
still_middle free h = absurd (false≢true h)

-- a clean net flips exactly once
pub clean_net_once : (c : PlainCircuit) (rows : List Row) (run : Run) → RowsTrue c rows run → (n : ℕ) → clean_net c rows n ≡ true →
    (t : ℕ) × FlipsAt (wave run n) t × ((u : ℕ) → FlipsAt (wave run n) u → u ≡ t)
clean_net_once c rows run ok n h =
    let p = and_parts (has_row c rows n) (is_clean (row_at rows n).class) h in
    clean_once (its_row_true c rows run ok n p.0).class p.1

-- what flips as an input is an input, with its net's waveform
pub input_flips : (c : PlainCircuit) (run : Run) (i t : ℕ) → FlipsAt (input_wave c run i) t → (i < c.inputs) × FlipsAt (wave run i) t
input_flips c run i t h = go (nat_lt i c.inputs) refl h
  where
    go : (b : Bool) → nat_lt i c.inputs ≡ b → FlipsAt (cond b (wave run i) (constant false)) t → (i < c.inputs) × FlipsAt (wave run i) t
    go true e f = (ltb-true i c.inputs e, f)
    go false e f = absurd f

-- two flips of a clean input are one
pub clean_input_once : (c : PlainCircuit) (rows : List Row) (run : Run) → RowsTrue c rows run → (i : ℕ) → clean_input c rows i ≡ true →
    (t u : ℕ) → FlipsAt (input_wave c run i) t → FlipsAt (input_wave c run i) u → t ≡ u
clean_input_once c rows run ok i h t u f g =
    let p = and_parts (nat_lt i c.inputs) (clean_net c rows i) h in
    let one = clean_net_once c rows run ok i p.1 in
    one.2 t (input_flips c run i t f).1 ∙ sym (one.2 u (input_flips c run i u g).1)

-- the bounds that are told apart
pub below_parts : (x y : Option Bounds) → below x y ≡ true → (b d : Bounds) → x ≡ Some b → y ≡ Some d → b.hi < d.lo
below_parts x y h b d e f =
    ltb-true b.hi d.lo (subst (λ (o : Option Bounds). below (Some b) o ≡ true) f (subst (λ (o : Option Bounds). below o y ≡ true) e h))

-- an input that flips is one of the sixteen
pub input_below : (c : PlainCircuit) → T (valid_circuit c) → (run : Run) (i t : ℕ) → FlipsAt (input_wave c run i) t → i < 16
input_below c valid run i t f = omega (arith, (input_flips c run i t f).0, (counts_good c valid).few_inputs)

-- two flips that come from one clean input, the greatest bound of the first below the least of the second
pub apart_by_input : (c : PlainCircuit) (rows : List Row) (run : Run) → RowsTrue c rows run → (x y : Row) (t u : ℕ)
    (f : Bounded c run x t) (g : Bounded c run y u) → f.input ≡ g.input → clean_input c rows g.input ≡ true →
    f.bounds.hi < g.bounds.lo → t < u
apart_by_input c rows run ok x y t u f g e clean l =
    let same = clean_input_once c rows run ok g.input clean f.cause g.cause
    (subst (λ (i : ℕ). FlipsAt (input_wave c run i) f.cause) e f.flips) g.flips in
    omega (arith, f.until, g.after)
