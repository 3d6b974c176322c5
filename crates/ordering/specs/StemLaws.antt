-- The laws of a stem layer, from those of the source below it. Assumes nothing.
use Rattle.std.specs.Prelude.{◌≡◌, ℕ, zero, suc, ◌+◌, ◌-◌, ◌<◌, ◌≤◌, Bool, true, false, cond, ◌||◌, T, List, length, get_or, is_some, Some, None, Option, ◌==◌, nat_lt, slice_index, slice_index_or, refl}
use Rattle.std.proofs.Common.{sym, ap, ◌∙◌, subst, ⊎_elim, arith}
use Rattle.std.proofs.lemmas.Bool.{and_parts, and_from, or_cases, or_parts, eqb-true, ltb-true, ltb-false, not_from_false, cases_order, false≢true}
use Rattle.signals.specs.Waveform.{FlipsAt}
use Rattle.classes.specs.Class.{is_constant}
use Rattle.netlist.specs.Circuit.{PlainCircuit, valid_circuit}
use Rattle.runs.specs.declared.row.Bounds.{Bounds}
use Rattle.runs.specs.declared.row.Row.{Row}
use Rattle.runs.specs.Run.{Run, RunOf, wave, gate_at}
use Rattle.runs.specs.Gathered.{delayed}
use Rattle.runs.specs.Row.{Caused, RowsTrue, held_at, row_at}
use Rattle.runs.proofs.Circuits.{gate_good}
use Rattle.runs.proofs.Classes.{flip_not_constant}
use Rattle.ordering.specs.Rows.{some_below, row_count, clean_net, below}
use Rattle.ordering.specs.Source.{Says, YesIsBefore, YesHasRows}
use Rattle.ordering.specs.Stem.{all_tied, live_pin, live_ties, tie_of, ties_below, tie, tied_apart, stemmed}
use Rattle.ordering.specs.Below.{some_at}
use Rattle.ordering.specs.Reading.{clean_net_once}
use Rattle.ordering.specs.Ties.{last_tie, longer_pass, tied_below, tied_live}

-- every flip of a tied net lies within its bounds after tick t0
abbrev TiesHold : Run → ℕ → List (Option Bounds) → Type 0
TiesHold run t0 ts =
    (k : ℕ) (b : Bounds) → slice_index_or ts k None ≡ Some b → (t : ℕ) → FlipsAt (wave run k) t → (t0 + b.lo ≤ t) × (t ≤ t0 + b.hi)

-- a pin that causes a flip is live: it is not held, and its net, which flips, has no constant class
cause_live : (c : PlainCircuit) (rows : List Row) (run : Run) → T (valid_circuit c) → RowsTrue c rows run →
    (k : ℕ) → k < length c.gates → c.inputs + k < length rows → (t : ℕ) (row : Row) (f : Caused c run row k t) →
    live_pin rows row f.place (slice_index (gate_at c k).pins f.place) ≡ true
cause_live c rows run valid ok k l m t row f =
    let pin = get_or (gate_at c k).pins f.place 0 in
    let low = (gate_good c valid k l).lower f.place f.exists in
    let free : is_some (held_at row f.place) ≡ false = ap is_some f.unheld in
    let moves : is_constant (row_at rows pin).class ≡ false = flip_not_constant (ok pin _ (omega arith, omega arith)).class f.cause f.flips in
    and_from _ _ (not_from_false _ free) (not_from_false _ moves)

-- behind a gate whose live pins are tied within bounds j
gate_tied : (c : PlainCircuit) (rows : List Row) (run : Run) → T (valid_circuit c) → RunOf c run → RowsTrue c rows run →
    (k : ℕ) → k < length c.gates → (n : ℕ) → n ≡ c.inputs + k → n < length rows → (t0 : ℕ) (ts : List (Option Bounds)) → TiesHold run t0 ts → (j : Bounds) →
    all_tied None (live_ties rows ts (row_at rows n) 0 (gate_at c k).pins) ≡ Some j → (t : ℕ) → Caused c run (row_at rows n) k t →
    (t0 + (j.lo + (gate_at c k).least) ≤ t) × (t ≤ t0 + (j.hi + (gate_at c k).greatest))
gate_tied c rows run valid isRun ok k l n e m t0 ts holds j h t f =
    let r = tied_live rows ts (row_at rows n) 0 f.place (gate_at c k).pins None j h f.exists
    (subst (λ (i : ℕ). live_pin rows (row_at rows n) i (slice_index (gate_at c k).pins f.place) ≡ true) (omega arith)
    (cause_live c rows run valid ok k l (omega arith) t (row_at rows n) f)) in
    let w = holds (slice_index (gate_at c k).pins f.place) r.0 r.1 f.cause f.flips in
    let d = isRun.within k l in
    (omega (arith, f.delayed, r.2, d.0, w.0), omega (arith, f.delayed, r.3, d.1, w.1))

-- one net, from the ties below it
net_tied : (c : PlainCircuit) (rows : List Row) (run : Run) → T (valid_circuit c) → RunOf c run → RowsTrue c rows run →
    (s t0 : ℕ) → ((u : ℕ) → FlipsAt (wave run s) u → u ≡ t0) → (ts : List (Option Bounds)) → TiesHold run t0 ts →
    (n : ℕ) → n < row_count c rows → (b : Bounds) → tie_of c rows s ts n ≡ Some b → (t : ℕ) → FlipsAt (wave run n) t → (t0 + b.lo ≤ t) × (t ≤ t0 + b.hi)
net_tied c rows run valid isRun ok s t0 once ts holds n l b h t f = itself (n == s) refl h
  where
    k : ℕ
    k = n - c.inputs

    Within : Type 0
    Within = (t0 + b.lo ≤ t) × (t ≤ t0 + b.hi)

    none_tied : None ≡ Some b → Within
    none_tied e = let z : ◌≡◌ {A = ℕ} 0 1 = cc in absurd (omega arith)

    pins : Option Bounds
    pins = all_tied None (live_ties rows ts (row_at rows n) 0 (gate_at c k).pins)

    gate : c.inputs ≤ n → (o : Option Bounds) → pins ≡ o → delayed (gate_at c k) o ≡ Some b → Within
    gate m None e g = none_tied g
    gate m (Some j) e g =
        let at_n : n ≡ c.inputs + k = omega arith in
        let caused = (ok n _ (omega arith, omega arith)).caused m t f in
        let r = gate_tied c rows run valid isRun ok k (omega arith) n at_n (omega arith) t0 ts holds j e t caused in
        let same : record { lo = j.lo + (gate_at c k).least; hi = j.hi + (gate_at c k).greatest } ≡ b = cc in
        (omega (arith, r.0, ap (λ (x : Bounds). x.lo) same), omega (arith, r.1, ap (λ (x : Bounds). x.hi) same))

    other : (x : Bool) → (nat_lt n c.inputs || is_constant (row_at rows n).class) ≡ x → cond x None (delayed (gate_at c k) pins) ≡ Some b → Within
    other true e g = none_tied g
    other false e g = gate (ltb-false n c.inputs (or_parts _ _ e).0) pins refl g

    itself : (x : Bool) → (n == s) ≡ x →
        cond x (Some (record { lo = 0; hi = 0 })) (cond (nat_lt n c.inputs || is_constant (row_at rows n).class) None (delayed (gate_at c k) pins)) ≡ Some b → Within
    itself true e g =
        let u = once t (subst (λ (i : ℕ). FlipsAt (wave run i) t) (eqb-true n s e) f) in
        let zero-bounds : Bounds = record { lo = 0; hi = 0 } in
        let same : zero-bounds ≡ b = cc in
        (omega (arith, ap (λ (x : Bounds). x.lo) same), omega (arith, ap (λ (x : Bounds). x.hi) same))
    itself false e g = other (nat_lt n c.inputs || is_constant (row_at rows n).class) refl g

-- all nets, in one rising pass
nets_tied : (c : PlainCircuit) (rows : List Row) (run : Run) → T (valid_circuit c) → RunOf c run → RowsTrue c rows run →
    (s t0 : ℕ) → ((u : ℕ) → FlipsAt (wave run s) u → u ≡ t0) → (n : ℕ) → n ≤ row_count c rows → TiesHold run t0 (ties_below c rows s n)
nets_tied c rows run valid isRun ok s t0 once zero l k b h t f = let z : ◌≡◌ {A = ℕ} 0 1 = cc in absurd (omega arith)
nets_tied c rows run valid isRun ok s t0 once (suc n) l k b h t f =
    let before = nets_tied c rows run valid isRun ok s t0 once n (omega arith) in
    ⊎_elim
    (λ e. net_tied c rows run valid isRun ok s t0 once (ties_below c rows s n) before n (omega arith) b
    (sym (last_tie c rows s n) ∙ subst (λ (i : ℕ). slice_index_or (ties_below c rows s (suc n)) i None ≡ Some b) e h) t (subst (λ (i : ℕ). FlipsAt (wave run i) t) e f))
    (⊎_elim
    (λ m. before k b (sym (longer_pass c rows s n k m) ∙ h) t f)
    (λ m. absurd (omega (arith, tied_below c rows s (suc n) k b h))))
    (cases_order k n)

-- the stem, and the two nets tied to it
record Stem (c : PlainCircuit) (rows : List Row) (q p : ℕ) : Type 0 where
  net : ℕ
  clean : clean_net c rows net ≡ true
  early : Bounds
  late : Bounds
  q_tied : tie c rows net q ≡ Some early
  p_tied : tie c rows net p ≡ Some late
  apart : early.hi < late.lo

both_given : (x y : Option Bounds) → below x y ≡ true → (b : Bounds) × (d : Bounds) × (x ≡ Some b) × (y ≡ Some d) × (b.hi < d.lo)
both_given None y h = absurd (false≢true h)
both_given (Some b) None h = absurd (false≢true h)
both_given (Some b) (Some d) h = (b, d, refl, refl, ltb-true b.hi d.lo h)

stem : (c : PlainCircuit) (rows : List Row) (q p : ℕ) → some_below (tied_apart c rows q p) (row_count c rows) ≡ true → Stem c rows q p
stem c rows q p h =
    let s = some_at (tied_apart c rows q p) (row_count c rows) h in
    let a = and_parts _ _ s.2 in
    let g = both_given (tie c rows s.0 q) (tie c rows s.0 p) a.1 in
    record { net = s.0; clean = a.0; early = g.0; late = g.1; q_tied = g.2; p_tied = g.3; apart = g.4 }

pub stem_first : (under : Says) → YesIsBefore under → YesIsBefore (stemmed under)
stem_first under law seps c rows q p valid h run isRun met ok =
    ⊎_elim
    (λ e. law seps c rows q p valid e run isRun met ok)
    (λ e t u f g.
    let s = stem c rows q p e in
    let one = clean_net_once c rows run ok s.net s.clean in
    let held = nets_tied c rows run valid isRun ok s.net one.0 one.2 (row_count c rows) (omega arith) in
    let x = held q s.early s.q_tied t f in
    let y = held p s.late s.p_tied u g in
    omega (arith, s.apart, x.1, y.0))
    (or_cases _ _ h)

pub stem_third : (under : Says) → YesHasRows under → YesHasRows (stemmed under)
stem_third under law seps c rows q p h =
    ⊎_elim
    (law seps c rows q p)
    (λ e. let s = stem c rows q p e in
    let x = tied_below c rows s.net (row_count c rows) q s.early s.q_tied in
    let y = tied_below c rows s.net (row_count c rows) p s.late s.p_tied in
    ((omega arith, omega arith), (omega arith, omega arith)))
    (or_cases _ _ h)
