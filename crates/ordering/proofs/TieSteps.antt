-- The table of ties, filled net by net: it comes to the ties, its bounds stay small, and nothing below the stem is tied. Assumes nothing.
use Rattle.std.proofs.Common.{◌≡◌, ℕ, zero, suc, ◌+◌, ◌-◌, ◌*◌, ◌<◌, ◌≤◌, min, max, Bool, true, false, cond, ◌||◌, T, eqb, ltb, ◌⊎◌, List, [], ◌∷◌, length, get_or, drop, set, replicate, Some, None, Option, sym, refl, ap, ◌∙◌, subst, inl, inr, arith}
use Rattle.std.proofs.lemmas.List.{at_drop_more, at_drop_all, get_or_past, get_or-set_same, get_or-set_other, length-set, length-replicate}
use Rattle.std.proofs.lemmas.Bool.{cond-true, cond-false, or_parts, ltb-false, ltb-true, ne_eqb, not-true, not-false, cases_order, cases_eq, cases_lt, and_parts, and_cases, and_left, and_right, or_cases, or_left, or_right, eqb-false, true≢false}
use Rattle.classes.specs.Class.{is_constant, is_clean}
use Rattle.netlist.specs.Circuit.{PlainGate, PlainCircuit, valid_gate, valid_circuit, net_count}
use Rattle.runs.specs.declared.row.Bounds.{Bounds}
use Rattle.runs.specs.declared.row.Row.{Row}
use Rattle.runs.specs.Run.{gate_at}
use Rattle.runs.specs.Row.{row_at}
use Rattle.runs.specs.Gathered.{delayed, joined}
use Rattle.runs.proofs.Circuits.{good_gate, gate_good, pins_few}
use Rattle.ordering.specs.Rows.{some_below, row_count, has_row, can_move, clean_net, below}
use Rattle.ordering.specs.Stem.{all_tied, live_pin, live_ties, tie_of, ties_below, tie, tied_apart}
use Rattle.ordering.specs.TieTable.{AtMost, SmallBelow, is_apart}
use Rattle.ordering.specs.Below.{some_none, some_same}
use Rattle.ordering.specs.Reading.{still_middle}
use Rattle.ordering.specs.Ties.{length_ties, last_tie, longer_pass, tied_live}

-- two tables of ties are alike at the nets of these pins
abbrev Alike : List (Option Bounds) → List (Option Bounds) → List ℕ → Type 0
Alike ts us ns = (place : ℕ) → place < length ns → get_or ts (get_or ns place 0) None ≡ get_or us (get_or ns place 0) None

live_alike : (rows : List Row) (ts us : List (Option Bounds)) (row : Row) (k : ℕ) (ns : List ℕ) → Alike ts us ns → live_ties rows ts row k ns ≡ live_ties rows us row k ns
live_alike rows ts us row k [] h = refl
live_alike rows ts us row k (n ∷ ns) h =
    let here = h 0 (omega arith) in
    let rest = live_alike rows ts us row (k + 1) ns (λ place l. h (suc place) (omega arith)) in
    cc

-- a net's tie depends on the ties below it alone
pub tie_alike : (c : PlainCircuit) → T (valid_circuit c) → (rows : List Row) (s : ℕ) (ts us : List (Option Bounds)) (n : ℕ) → n < net_count c →
    ((k : ℕ) → k < n → get_or ts k None ≡ get_or us k None) → tie_of c rows s ts n ≡ tie_of c rows s us n
tie_alike c valid rows s ts us n l h = go (ltb n c.inputs || is_constant (row_at rows n).class) refl
  where
    k : ℕ
    k = n - c.inputs

    pins : List (Option Bounds) → Option Bounds
    pins x = delayed (gate_at c k) (all_tied None (live_ties rows x (row_at rows n) 0 (gate_at c k).pins))

    itself : Option Bounds
    itself = Some (record { lo = 0; hi = 0 })

    go : (b : Bool) → (ltb n c.inputs || is_constant (row_at rows n).class) ≡ b →
        cond (eqb n s) itself (cond b None (pins ts)) ≡ cond (eqb n s) itself (cond b None (pins us))
    go true e = refl
    go false e =
        let m = ltb-false n c.inputs (or_parts _ _ e).0 in
        let good = gate_good c valid k (omega arith) in
        ap (λ (x : List (Option Bounds)). cond (eqb n s) itself (delayed (gate_at c k) (all_tied None x)))
        (live_alike rows ts us (row_at rows n) 0 (gate_at c k).pins (λ place f. h _ (omega (arith, good.lower place f))))

-- a pass that goes further changes no tie
pub pass_agrees : (c : PlainCircuit) (rows : List Row) (s n d k : ℕ) → k < n → get_or (ties_below c rows s (d + n)) k None ≡ get_or (ties_below c rows s n) k None
pass_agrees c rows s n zero k l = let e : 0 + n ≡ n = omega arith in ap (λ (m : ℕ). get_or (ties_below c rows s m) k None) e
pass_agrees c rows s n (suc d) k l =
    let e : suc d + n ≡ suc (d + n) = omega arith in
    ap (λ (m : ℕ). get_or (ties_below c rows s m) k None) e ∙ longer_pass c rows s (d + n) k (omega arith) ∙ pass_agrees c rows s n d k l

pub pass_to : (c : PlainCircuit) (rows : List Row) (s n m k : ℕ) → k < n → n ≤ m → get_or (ties_below c rows s m) k None ≡ get_or (ties_below c rows s n) k None
pass_to c rows s n m k l h =
    let e : m ≡ (m - n) + n = omega arith in
    ap (λ (x : ℕ). get_or (ties_below c rows s x) k None) e ∙ pass_agrees c rows s n (m - n) k l

-- the tie of a net is that which all ties give it
pub tie_is : (c : PlainCircuit) → T (valid_circuit c) → (rows : List Row) (s n : ℕ) → n < row_count c rows →
    tie c rows s n ≡ tie_of c rows s (ties_below c rows s (row_count c rows)) n
tie_is c valid rows s n l =
    pass_to c rows s (suc n) (row_count c rows) n (omega arith) (omega arith) ∙ last_tie c rows s n
    ∙ tie_alike c valid rows s (ties_below c rows s n) (ties_below c rows s (row_count c rows)) n (omega arith)
    (λ k m. sym (pass_to c rows s n (row_count c rows) k m (omega arith)))

-- from a table that has the ties of the nets below n, the tie of n
pub tie_from : (c : PlainCircuit) → T (valid_circuit c) → (rows : List Row) (s : ℕ) (ts : List (Option Bounds)) (n : ℕ) → n < row_count c rows →
    ((k : ℕ) → k < n → get_or ts k None ≡ tie c rows s k) → tie_of c rows s ts n ≡ tie c rows s n
tie_from c valid rows s ts n l h = tie_alike c valid rows s ts _ n (omega arith) h ∙ sym (tie_is c valid rows s n l)

-- pins on nets that are not tied give no bounds
untied_none : (rows : List Row) (ts : List (Option Bounds)) (row : Row) (k : ℕ) (ns : List ℕ) →
    ((place : ℕ) → place < length ns → get_or ts (get_or ns place 0) None ≡ None) → all_tied None (live_ties rows ts row k ns) ≡ None
untied_none rows ts row k [] h = refl
untied_none rows ts row k (n ∷ ns) h = go (live_pin rows row k n) (untied_none rows ts row (k + 1) ns (λ place l. h (suc place) (omega arith)))
  where
    rest : List (Option Bounds)
    rest = live_ties rows ts row (k + 1) ns

    here : get_or ts n None ≡ None
    here = h 0 (omega arith)

    go : (b : Bool) → all_tied None rest ≡ None → all_tied None (cond b (get_or ts n None ∷ rest) rest) ≡ None
    go true e = ap (λ (o : Option Bounds). all_tied None (o ∷ rest)) here
    go false e = e

-- no net below the stem is tied, if none before it is
low_untied : (c : PlainCircuit) → T (valid_circuit c) → (rows : List Row) (s : ℕ) (ts : List (Option Bounds)) (n : ℕ) → n < net_count c → n < s →
    ((k : ℕ) → k < n → get_or ts k None ≡ None) → tie_of c rows s ts n ≡ None
low_untied c valid rows s ts n l low h =
    cond-false (eqb n s) _ _ (ne_eqb n s (λ e. omega arith)) ∙ go (ltb n c.inputs || is_constant (row_at rows n).class) refl
  where
    k : ℕ
    k = n - c.inputs

    pins : Option Bounds
    pins = all_tied None (live_ties rows ts (row_at rows n) 0 (gate_at c k).pins)

    go : (b : Bool) → (ltb n c.inputs || is_constant (row_at rows n).class) ≡ b → cond b None (delayed (gate_at c k) pins) ≡ None
    go true e = refl
    go false e =
        let m = ltb-false n c.inputs (or_parts _ _ e).0 in
        let good = gate_good c valid k (omega arith) in
        ap (delayed (gate_at c k)) (untied_none rows ts (row_at rows n) 0 (gate_at c k).pins (λ place f. h _ (omega (arith, good.lower place f))))

pass_low : (c : PlainCircuit) → T (valid_circuit c) → (rows : List Row) (s n : ℕ) → n ≤ row_count c rows → (k : ℕ) → k < s → get_or (ties_below c rows s n) k None ≡ None
pass_low c valid rows s zero l k low = refl
pass_low c valid rows s (suc n) l k low =
    let before = pass_low c valid rows s n (omega arith) in
    elim (cases_order k n) [
      | inl e ↦ ap (λ (i : ℕ). get_or (ties_below c rows s (suc n)) i None) e ∙ last_tie c rows s n
          ∙ low_untied c valid rows s (ties_below c rows s n) n (omega arith) (omega arith) (λ j m. before j (omega arith))
      | inr (inl m) ↦ longer_pass c rows s n k m ∙ before k low
      | inr (inr m) ↦ get_or_past (ties_below c rows s (suc n)) k None (omega (arith, length_ties c rows s (suc n)))
    ]

-- a net below the stem is not tied
pub tie_low : (c : PlainCircuit) → T (valid_circuit c) → (rows : List Row) (s k : ℕ) → k < s → tie c rows s k ≡ None
tie_low c valid rows s k low = pass_low c valid rows s (row_count c rows) (omega arith) k low

-- a net without a row is not tied
pub tie_past : (c : PlainCircuit) (rows : List Row) (s k : ℕ) → row_count c rows ≤ k → tie c rows s k ≡ None
tie_past c rows s k l = get_or_past (ties_below c rows s (row_count c rows)) k None (omega (arith, length_ties c rows s (row_count c rows)))

-- another net than the stem is not tied if it is an input, or if its class is constant
pub tie_idle : (c : PlainCircuit) → T (valid_circuit c) → (rows : List Row) (s n : ℕ) → (n ≡ s → ⊥) →
    (ltb n c.inputs || is_constant (row_at rows n).class) ≡ true → tie c rows s n ≡ None
tie_idle c valid rows s n ne idle =
    elim (cases_lt n (row_count c rows)) [
      | inl l ↦ tie_is c valid rows s n l ∙ cond-false (eqb n s) _ _ (ne_eqb n s ne) ∙ cond-true _ _ _ idle
      | inr l ↦ tie_past c rows s n l
    ]

-- so no net apart from the stem is tied
pub apart_untied : (c : PlainCircuit) → T (valid_circuit c) → (rows : List Row) (s n : ℕ) → is_apart c s n ≡ true → tie c rows s n ≡ None
apart_untied c valid rows s n h =
    elim (or_cases _ _ h) [
      | inl e ↦ tie_low c valid rows s n (ltb-true n s e)
      | inr e ↦ let p = and_parts _ _ e in tie_idle c valid rows s n (eqb-false n s (not-true _ p.0)) (or_left _ _ p.1)
    ]

-- nor is a gate whose live pins are not all tied
pub tie_loose : (c : PlainCircuit) → T (valid_circuit c) → (rows : List Row) (s n : ℕ) → n < row_count c rows → (n ≡ s → ⊥) →
    all_tied None (live_ties rows (ties_below c rows s (row_count c rows)) (row_at rows n) 0 (gate_at c (n - c.inputs)).pins) ≡ None → tie c rows s n ≡ None
tie_loose c valid rows s n l ne loose =
    tie_is c valid rows s n l ∙ cond-false (eqb n s) _ _ (ne_eqb n s ne) ∙ go (ltb n c.inputs || is_constant (row_at rows n).class)
  where
    go : (b : Bool) → cond b None (delayed (gate_at c (n - c.inputs)) (all_tied None (live_ties rows (ties_below c rows s (row_count c rows)) (row_at rows n) 0 (gate_at c (n - c.inputs)).pins))) ≡ None
    go true = refl
    go false = ap (delayed (gate_at c (n - c.inputs))) loose

-- told of a row and of pins that are the same
pub alike_pins : (rows : List Row) (ts : List (Option Bounds)) {row same : Row} {pins all : List ℕ} → row ≡ same → pins ≡ all →
    all_tied None (live_ties rows ts row 0 pins) ≡ None → all_tied None (live_ties rows ts same 0 all) ≡ None
alike_pins rows ts e f h = cc

-- one live pin that is not tied is enough
pub loose_pin : (rows : List Row) (ts : List (Option Bounds)) (row : Row) (ns : List ℕ) (place : ℕ) → place < length ns →
    live_pin rows row place (get_or ns place 0) ≡ true → get_or ts (get_or ns place 0) None ≡ None → all_tied None (live_ties rows ts row 0 ns) ≡ None
loose_pin rows ts row ns place l live e = go (all_tied None (live_ties rows ts row 0 ns)) refl
  where
    go : (o : Option Bounds) → all_tied None (live_ties rows ts row 0 ns) ≡ o → o ≡ None
    go None f = refl
    go (Some j) f =
        let r = tied_live rows ts row 0 place ns None j f l (subst (λ (i : ℕ). live_pin rows row i (get_or ns place 0) ≡ true) (omega arith) live) in
        let h = r.1 in
        let z : ◌≡◌ {A = ℕ} 0 1 = cc in absurd (omega arith)

-- one pin after the other: a pin that is not live, a live one that is tied, a live one that is not, the end
pub join_skips : (rows : List Row) (ts : List (Option Bounds)) (row : Row) (ns : List ℕ) (k : ℕ) (all next whole : Option Bounds) → k < length ns →
    live_pin rows row k (get_or ns k 0) ≡ false → next ≡ all → all_tied all (live_ties rows ts row k (drop k ns)) ≡ whole →
    all_tied next (live_ties rows ts row (k + 1) (drop (k + 1) ns)) ≡ whole
join_skips rows ts row ns k all next whole l dead e h =
    ap (λ (o : Option Bounds). all_tied o (live_ties rows ts row (k + 1) (drop (k + 1) ns))) e ∙ ap (all_tied all) (sym (cond-false _ _ _ dead)) ∙ sym (at_drop_more (λ (x : List ℕ). all_tied all (live_ties rows ts row k x)) ns k 0 l) ∙ h

pub join_takes : (rows : List Row) (ts : List (Option Bounds)) (row : Row) (ns : List ℕ) (k : ℕ) (all next whole : Option Bounds) (t : Bounds) → k < length ns →
    live_pin rows row k (get_or ns k 0) ≡ true → get_or ts (get_or ns k 0) None ≡ Some t → next ≡ joined all (Some t) →
    all_tied all (live_ties rows ts row k (drop k ns)) ≡ whole →
    all_tied next (live_ties rows ts row (k + 1) (drop (k + 1) ns)) ≡ whole
join_takes rows ts row ns k all next whole t l live tied e h =
    let rest = live_ties rows ts row (k + 1) (drop (k + 1) ns) in
    ap (λ (o : Option Bounds). all_tied o rest) e ∙ ap (λ (o : Option Bounds). all_tied all (o ∷ rest)) (sym tied)
    ∙ ap (all_tied all) (sym (cond-true _ _ _ live)) ∙ sym (at_drop_more (λ (x : List ℕ). all_tied all (live_ties rows ts row k x)) ns k 0 l) ∙ h

pub join_stops : (rows : List Row) (ts : List (Option Bounds)) (row : Row) (ns : List ℕ) (k : ℕ) (all whole : Option Bounds) → k < length ns →
    live_pin rows row k (get_or ns k 0) ≡ true → get_or ts (get_or ns k 0) None ≡ None →
    all_tied all (live_ties rows ts row k (drop k ns)) ≡ whole → None ≡ whole
join_stops rows ts row ns k all whole l live none h =
    ap (λ (o : Option Bounds). all_tied all (o ∷ live_ties rows ts row (k + 1) (drop (k + 1) ns))) (sym none)
    ∙ ap (all_tied all) (sym (cond-true _ _ _ live)) ∙ sym (at_drop_more (λ (x : List ℕ). all_tied all (live_ties rows ts row k x)) ns k 0 l) ∙ h

pub join_ends : (rows : List Row) (ts : List (Option Bounds)) (row : Row) (ns : List ℕ) (k : ℕ) (all whole : Option Bounds) → length ns ≤ k →
    all_tied all (live_ties rows ts row k (drop k ns)) ≡ whole → all ≡ whole
join_ends rows ts row ns k all whole l h = sym (at_drop_all (λ (x : List ℕ). all_tied all (live_ties rows ts row k x)) ns k l) ∙ h

-- bounds that are small stay small
some_is : (a b : Bounds) → Some a ≡ Some b → a ≡ b
some_is a b e = cc

joined_small : (limit : ℕ) (all : Option Bounds) (t : Bounds) → AtMost limit all → (t.lo ≤ limit) × (t.hi ≤ limit) → AtMost limit (joined all (Some t))
joined_small limit None t h g b e =
    let same = some_is t b e in (omega (arith, g.0, ap (λ (x : Bounds). x.lo) same), omega (arith, g.1, ap (λ (x : Bounds). x.hi) same))
joined_small limit (Some a) t h g b e =
    let same = some_is (record { lo = min a.lo t.lo; hi = max a.hi t.hi }) b e in
    let old = h a refl in
    (omega (arith, old.0, g.0, ap (λ (x : Bounds). x.lo) same), omega (arith, old.1, g.1, ap (λ (x : Bounds). x.hi) same))

tied_small : (limit : ℕ) (rows : List Row) (ts : List (Option Bounds)) (row : Row) (k : ℕ) (ns : List ℕ) (all : Option Bounds) → AtMost limit all →
    ((place : ℕ) → place < length ns → AtMost limit (get_or ts (get_or ns place 0) None)) → AtMost limit (all_tied all (live_ties rows ts row k ns))
tied_small limit rows ts row k [] all h each = h
tied_small limit rows ts row k (n ∷ ns) all h each =
    go (live_pin rows row k n) (get_or ts n None) refl (λ more small. tied_small limit rows ts row (k + 1) ns more small (λ place l. each (suc place) (omega arith)))
  where
    rest : List (Option Bounds)
    rest = live_ties rows ts row (k + 1) ns

    go : (b : Bool) (o : Option Bounds) → get_or ts n None ≡ o → ((more : Option Bounds) → AtMost limit more → AtMost limit (all_tied more rest)) →
        AtMost limit (all_tied all (cond b (o ∷ rest) rest))
    go true None e next = λ b f. let z : ◌≡◌ {A = ℕ} 0 1 = cc in absurd (omega arith)
    go true (Some t) e next = next (joined all (Some t)) (joined_small limit all t h (each 0 (omega arith) t e))
    go false o e next = next all h

-- what a gate's pins are tied by, before its own delay is added, and after
pub pins_small : (rows : List Row) (ts : List (Option Bounds)) (row : Row) (ns : List ℕ) (n : ℕ) → SmallBelow ts n → ((place : ℕ) → place < length ns → get_or ns place 0 < n) →
    (b : Bounds) → all_tied None (live_ties rows ts row 0 ns) ≡ Some b → (b.lo + 65535 ≤ 65535 * n) × (b.hi + 65535 ≤ 65535 * n)
pins_small rows ts row [] n small low b e = let z : ◌≡◌ {A = ℕ} 0 1 = cc in absurd (omega arith)
pins_small rows ts row (m ∷ ms) n small low b e =
    let first = low 0 (omega arith) in
    let r = tied_small (65535 * (n - 1)) rows ts row 0 (m ∷ ms) None (λ x f. let z : ◌≡◌ {A = ℕ} 0 1 = cc in absurd (omega arith))
    (λ place l x f. let s = small _ (low place l) x f in let p = low place l in (omega arith, omega arith)) b e in
    (omega (arith, r.0), omega (arith, r.1))

-- the pins of a valid gate are few, and on lower nets
pub pins_fit : (g : PlainGate) (n limit : ℕ) → T (valid_gate n g) → n < limit → (pins : List ℕ) → pins ≡ g.pins →
    (length pins ≤ 8) × ((k : ℕ) → k < length pins → get_or pins k 0 < limit)
pins_fit g n limit valid l pins same =
    let good = good_gate n g valid in
    let few = pins_few g.function (length g.pins) good.pin_count in (
      omega (arith, few.1, ap length same),
      λ k m. omega (arith, good.lower k (omega (arith, ap length same, m)), ap (λ (xs : List ℕ). get_or xs k 0) same),
    )

-- what the pins of a gate came to, as the program read them
pub record Sums (rows : List Row) (ts : List (Option Bounds)) (row : Row) (g : PlainGate) (n : ℕ) (b : Bounds) : Type 0 where
  pub pins : all_tied None (live_ties rows ts row 0 g.pins) ≡ Some b
  pub low : b.lo + g.least ≤ 65535 * n
  pub high : b.hi + g.greatest ≤ 65535 * n

pub gate_sums : (rows : List Row) (ts : List (Option Bounds)) (row : Row) (g : PlainGate) (n : ℕ) → T (valid_gate n g) → SmallBelow ts n →
    (pins : List ℕ) → pins ≡ g.pins → (o : Option Bounds) → o ≡ all_tied None (live_ties rows ts row 0 pins) → (b : Bounds) → o ≡ Some b → Sums rows ts row g n b
gate_sums rows ts row g n valid small pins same o told b e =
    let good = good_gate n g valid in
    let all = ap (λ (ns : List ℕ). all_tied None (live_ties rows ts row 0 ns)) (sym same) ∙ sym told ∙ e in
    let r = pins_small rows ts row g.pins n small good.lower b all in
    record { pins = all; low = omega (arith, r.0, good.ordered, good.short); high = omega (arith, r.1, good.short) }

pub delayed_small : (limit : ℕ) (a : Bounds) → (b : Bounds) → Some a ≡ Some b → a.lo ≤ limit → a.hi ≤ limit → (b.lo ≤ limit) × (b.hi ≤ limit)
delayed_small limit a b e l h =
    let same = some_is a b e in (omega (arith, ap (λ (x : Bounds). x.lo) same), omega (arith, ap (λ (x : Bounds). x.hi) same))

-- a table of no ties has none
pub get_d_none : (n k : ℕ) → get_or {A = Option Bounds} (replicate n None) k None ≡ None
get_d_none zero k = refl
get_d_none (suc n) zero = refl
get_d_none (suc n) (suc k) = get_d_none n k

-- the table has the ties of the nets below n, and they are small
abbrev pub HasTies : PlainCircuit → List Row → ℕ → List (Option Bounds) → ℕ → Type 0
HasTies c rows s ts n = (length ts ≡ 256) × ((k : ℕ) → k < n → get_or ts k None ≡ tie c rows s k) × SmallBelow ts n

-- the table at the start: it has the ties of the nets below the stem
pub table_starts : (c : PlainCircuit) → T (valid_circuit c) → (rows : List Row) (s : ℕ) (ts : List (Option Bounds)) → ts ≡ replicate 256 None →
    HasTies c rows s ts s
table_starts c valid rows s ts e =
    let empty = λ (k : ℕ). ap (λ (us : List (Option Bounds)). get_or us k None) e ∙ get_d_none 256 k in (
      ap length e ∙ length-replicate {A = Option Bounds} 256 None,
      λ k l. empty k ∙ sym (tie_low c valid rows s k l),
      λ k l b f. let h = empty k in let z : ◌≡◌ {A = ℕ} 0 1 = cc in absurd (omega arith),
    )

-- the tie of a net that may have no row
tie_if_row : (c : PlainCircuit) → T (valid_circuit c) → (rows : List Row) (s : ℕ) (ts : List (Option Bounds)) (n : ℕ) →
    ((k : ℕ) → k < n → get_or ts k None ≡ tie c rows s k) → cond (has_row c rows n) (tie_of c rows s ts n) None ≡ tie c rows s n
tie_if_row c valid rows s ts n h = go (has_row c rows n) refl
  where
    go : (b : Bool) → has_row c rows n ≡ b → cond b (tie_of c rows s ts n) None ≡ tie c rows s n
    go true e = tie_from c valid rows s ts n (ltb-true n (row_count c rows) e) h
    go false e = sym (tie_past c rows s n (ltb-false n (row_count c rows) e))

-- one more net
grows_at : (c : PlainCircuit) → T (valid_circuit c) → (rows : List Row) (s : ℕ) (ts : List (Option Bounds)) (n : ℕ) → n < 256 →
    HasTies c rows s ts n → (o : Option Bounds) → o ≡ cond (has_row c rows n) (tie_of c rows s ts n) None → AtMost (65535 * n) o →
    HasTies c rows s (set ts n o) (n + 1)
grows_at c valid rows s ts n l inv o told small =
    let len = inv.0 in
    let here : get_or (set ts n o) n None ≡ o = get_or-set_same ts n o None (omega arith) in (
      length-set ts n o ∙ len,
      λ k h. elim (cases_eq k n) [
        | inl e ↦ ap (λ (i : ℕ). get_or (set ts n o) i None) e ∙ here ∙ told ∙ tie_if_row c valid rows s ts n inv.1 ∙ ap (tie c rows s) (sym e)
        | inr ne ↦ get_or-set_other ts n k o None ne ∙ inv.1 k (omega arith)
      ],
      λ k h b f. elim (cases_eq k n) [
        | inl e ↦ let r = small b (sym here ∙ ap (λ (i : ℕ). get_or (set ts n o) i None) (sym e) ∙ f) in (omega (arith, r.0), omega (arith, r.1))
        | inr ne ↦ inv.2 k (omega arith) b (sym (get_or-set_other ts n k o None ne) ∙ f)
      ],
    )

pub table_grows : (c : PlainCircuit) → T (valid_circuit c) → (rows : List Row) (s : ℕ) (ts : List (Option Bounds)) (n : ℕ) → n < 256 →
    HasTies c rows s ts n → (o : Option Bounds) → o ≡ cond (has_row c rows n) (tie_of c rows s ts n) None → AtMost (65535 * n) o →
    (i : ℕ) → i ≡ n → HasTies c rows s (set ts i o) (n + 1)
table_grows c valid rows s ts n l inv o told small i e =
    subst (λ (k : ℕ). HasTies c rows s (set ts k o) (n + 1)) (sym e) (grows_at c valid rows s ts n l inv o told small)

-- nothing is tied apart by a stem above one of the two nets, or where one of them has no row
below_none : (x : Option Bounds) → below x None ≡ false
below_none None = refl
below_none (Some b) = refl

not_apart : (c : PlainCircuit) (rows : List Row) (q p s : ℕ) → (tie c rows s q ≡ None) ⊎ (tie c rows s p ≡ None) → tied_apart c rows q p s ≡ false
not_apart c rows q p s (inl e) = and_right _ _ (ap (λ (o : Option Bounds). below o (tie c rows s p)) e)
not_apart c rows q p s (inr e) = and_right _ _ (ap (below (tie c rows s q)) e ∙ below_none (tie c rows s q))

-- a net that can move has a row
pub movable_row : (c : PlainCircuit) (rows : List Row) (n : ℕ) → can_move c rows n ≡ true → n < row_count c rows
movable_row c rows n h = ltb-true n (row_count c rows) (and_parts _ _ h).0

-- a net without a row, or of constant class, is tied to no clean net
idle_untied : (c : PlainCircuit) → T (valid_circuit c) → (rows : List Row) (n s : ℕ) → can_move c rows n ≡ false → clean_net c rows s ≡ true → tie c rows s n ≡ None
idle_untied c valid rows n s still clean =
    elim (and_cases _ _ still) [
      | inl e ↦ tie_past c rows s n (ltb-false n (row_count c rows) e)
      | inr e ↦ constant (not-false _ e)
    ]
  where
    constant : is_constant (row_at rows n).class ≡ true → tie c rows s n ≡ None
    constant e =
        elim (cases_eq n s) [
          | inl same ↦ absurd (true≢false (sym (and_parts _ _ clean).1 ∙ ap (λ (k : ℕ). is_clean (row_at rows k).class) (sym same) ∙ still_middle _ e))
          | inr other ↦ tie_idle c valid rows s n other (or_right _ _ e)
        ]

pub no_stem : (c : PlainCircuit) → T (valid_circuit c) → (rows : List Row) (q p : ℕ) → (can_move c rows q ≡ false) ⊎ (can_move c rows p ≡ false) →
    false ≡ some_below (tied_apart c rows q p) (row_count c rows)
no_stem c valid rows q p h =
    sym (some_none _)
    ∙ some_same (tied_apart c rows q p) 0 (row_count c rows) (omega arith) (λ s a b. go s (clean_net c rows s) refl)
  where
    go : (s : ℕ) (b : Bool) → clean_net c rows s ≡ b → tied_apart c rows q p s ≡ false
    go s true e = not_apart c rows q p s (elim h [ inl l ↦ inl (idle_untied c valid rows q s l e) | inr l ↦ inr (idle_untied c valid rows p s l e) ])
    go s false e = and_left _ _ e

pub no_higher_stem : (c : PlainCircuit) → T (valid_circuit c) → (rows : List Row) (q p m : ℕ) → m ≤ row_count c rows → min q p < m →
    some_below (tied_apart c rows q p) m ≡ some_below (tied_apart c rows q p) (row_count c rows)
no_higher_stem c valid rows q p m l h =
    some_same (tied_apart c rows q p) m (row_count c rows) l
    (λ s a b. not_apart c rows q p s (elim (cases_lt q s) [ inl x ↦ inl (tie_low c valid rows s q x) | inr x ↦ inr (tie_low c valid rows s p (omega arith)) ]))
