-- The laws of the spaced source. Assumes nothing.
use Rattle.std.specs.Prelude.{◌≡◌, ℕ, ◌+◌, ◌<◌, ◌≤◌, Bool, true, false, cond, ◌&&◌, T, List, ℤ, pos, ◌+ℤ◌, ◌≤ℤ◌, ◌<ℤ◌, Some, None, Option, ◌==◌, int_lt, nat_lt, slice_index_or, refl}
use Rattle.std.proofs.Common.{sym, subst, arith}
use Rattle.std.specs.Int.Signed.{lt_z_yes}
use Rattle.std.proofs.ByRecursion.{All-weaker}
use Rattle.std.proofs.lemmas.Int.{ints}
use Rattle.std.proofs.lemmas.Bool.{and_parts, eqb-true, ltb-true, false≢true}
use Rattle.classes.specs.declared.class.Class.{Class}
use Rattle.classes.specs.declared.class.Class.TheVariants.{C000}
use Rattle.netlist.specs.Circuit.{PlainCircuit}
use Rattle.runs.specs.declared.row.Bounds.{Bounds}
use Rattle.runs.specs.declared.row.Row.{Row}
use Rattle.runs.specs.Run.{Run, input_wave}
use Rattle.runs.specs.Row.{Bounded, RowsTrue, bounds_from, row_at}
use Rattle.separations.specs.Separations.{Separation, Meets, MeetsAll, spacing_in}
use Rattle.separations.proofs.Lists.{found}
use Rattle.ordering.specs.Rows.{every_below, has_row, clean_input}
use Rattle.ordering.specs.Source.{Meeting, MetBy, Met, YesIsBefore, YesHasRows}
use Rattle.ordering.specs.Spaced.{spaced_by, agreed, agrees, agrees_with_all, spaced}
use Rattle.ordering.specs.Below.{every_at}
use Rattle.ordering.specs.Reading.{has_row_lem, its_row_true, input_below, apart_by_input}
use Rattle.ordering.specs.Samples.{sample, sample_flips}

-- what the answer comes from
record Told (seps : List Separation) (c : PlainCircuit) (rows : List Row) (q p : ℕ) : Type 0 where
  q_row : has_row c rows q ≡ true
  p_row : has_row c rows p ≡ true
  all : every_below (agrees_with_all seps c rows (row_at rows q) (row_at rows p)) 16 ≡ true

told : (seps : List Separation) (c : PlainCircuit) (rows : List Row) (q p : ℕ) → spaced seps c rows q p ≡ true → Told seps c rows q p
told seps c rows q p h =
    let a = and_parts _ _ h in
    let b = and_parts _ _ a.0 in
    let d = and_parts _ _ b.0 in
    let e = and_parts _ _ d.0 in
    record { q_row = e.0; p_row = e.1; all = a.1 }

-- two flips whose inputs are spaced
apart_by_spacing : (s : ℤ) (x y : Bounds) (a b t u : ℕ) → int_lt (pos x.hi) (pos y.lo +ℤ s) ≡ true → (pos a +ℤ s) ≤ℤ pos b →
    t ≤ a + x.hi → b + y.lo ≤ u → t < u
apart_by_spacing s x y a b t u h m l n =
    let less : pos x.hi <ℤ (pos y.lo +ℤ s) = lt_z_yes (subst T (sym h) tt) in omega (arith, ints)

-- two flips whose bounds agree
apart_by_agreement : (seps : List Separation) (c : PlainCircuit) (rows : List Row) (run : Run) → Met c run seps → RowsTrue c rows run →
    (x y : Row) (t u : ℕ) (f : Bounded c run x t) (g : Bounded c run y u) → agrees seps c rows x y f.input g.input ≡ true → t < u
apart_by_agreement seps c rows run met ok x y t u f g h = same (j == i) refl told_of
  where
    j : ℕ
    j = f.input

    i : ℕ
    i = g.input

    told_of : cond (j == i) (clean_input c rows i && nat_lt f.bounds.hi g.bounds.lo) (spaced_by (spacing_in j i seps) f.bounds g.bounds) ≡ true
    told_of =
        subst (λ (o : Option Bounds). agreed seps c rows j i (Some f.bounds) o ≡ true) g.given
        (subst (λ (o : Option Bounds). agreed seps c rows j i o (bounds_from y i) ≡ true) f.given h)

    held : (o : Option ℤ) → spacing_in j i seps ≡ o → spaced_by o f.bounds g.bounds ≡ true → t < u
    held None e k = absurd (false≢true k)
    held (Some s) e k =
        apart_by_spacing s f.bounds g.bounds f.cause g.cause t u k
        (found (Meeting (input_wave c run)) j i s seps met e f.cause g.cause f.flips g.flips) f.until g.after

    same : (b : Bool) → (j == i) ≡ b → cond b (clean_input c rows i && nat_lt f.bounds.hi g.bounds.lo) (spaced_by (spacing_in j i seps) f.bounds g.bounds) ≡ true → t < u
    same true e k =
        let p = and_parts _ _ k in
        apart_by_input c rows run ok x y t u f g (eqb-true j i e) p.0 (ltb-true f.bounds.hi g.bounds.lo p.1)
    same false e k = held (spacing_in j i seps) refl k

pub spaced_first : YesIsBefore spaced
spaced_first seps c rows q p valid h run isRun met ok t u f g =
    let k = told seps c rows q p h in
    let x = (its_row_true c rows run ok q k.q_row).bounded t f in
    let y = (its_row_true c rows run ok p k.p_row).bounded u g in
    apart_by_agreement seps c rows run met ok (row_at rows q) (row_at rows p) t u x y
    (every_at (agrees seps c rows (row_at rows q) (row_at rows p) x.input) 16
    (every_at (agrees_with_all seps c rows (row_at rows q) (row_at rows p)) 16 k.all x.input (input_below c valid run x.input x.cause x.flips))
    y.input (input_below c valid run y.input y.cause y.flips))

pub spaced_third : YesHasRows spaced
spaced_third seps c rows q p h =
    let k = told seps c rows q p h in (has_row_lem c rows q k.q_row, has_row_lem c rows p k.p_row)

-- the waveforms that flip at times that meet the separations meet them too
samples_meet : (classes : List Class) (times : ℕ → ℕ) (x : Separation) → Meets (λ i. pos (times i)) x →
    Meeting (λ i. sample (slice_index_or classes i C000) (times i)) x
samples_meet classes times x m t u f g =
    let a = sample_flips (slice_index_or classes x.a C000) (times x.a) t f in
    let b = sample_flips (slice_index_or classes x.b C000) (times x.b) u g in
    omega (arith, ints)

pub samples_meet_all : (classes : List Class) (times : ℕ → ℕ) (seps : List Separation) → MeetsAll (λ i. pos (times i)) seps →
    MetBy (λ i. sample (slice_index_or classes i C000) (times i)) seps
samples_meet_all classes times seps m =
    All-weaker (Meets (λ i. pos (times i))) (Meeting (λ i. sample (slice_index_or classes i C000) (times i))) (samples_meet classes times) seps m
