-- In a run every flip of a net comes by a live path from a flip of an input. Assumes nothing.
use Rattle.std.proofs.Common.{◌≡◌, ℕ, zero, suc, ◌+◌, ◌-◌, ◌<◌, ◌≤◌, T, List, length, get_or, Some, None, Option, sym, refl, subst, inl, inr, arith}
use Rattle.signals.specs.Waveform.{Waveform, FlipsAt}
use Rattle.classes.specs.Class.{In}
use Rattle.netlist.specs.Circuit.{PlainCircuit, valid_circuit, net_count}
use Rattle.runs.specs.declared.row.Bounds.{Bounds}
use Rattle.runs.specs.declared.row.Row.{Row}
use Rattle.runs.specs.Run.{Run, RunOf, wave, gate_at}
use Rattle.runs.specs.Row.{Bounded, Caused, RowTrue, bounds_from, row_at}
use Rattle.runs.specs.LivePath.{Live, LivePath, start, step, TightBounds}
use Rattle.runs.proofs.Circuits.{gate_good, net_cases}
use Rattle.runs.proofs.Classes.{flip_not_constant}
use Rattle.runs.proofs.LivePaths.{path_input}
use Rattle.runs.proofs.Rows.{input_wave_lem}

-- a net's row tells its class, and of a gate the pin that causes each flip
pub record Explained (c : PlainCircuit) (rows : List Row) (run : Run) (n : ℕ) : Type 0 where
  pub has : n < length rows
  pub class : In (row_at rows n).class (wave run n)
  pub caused : (k : ℕ) → n ≡ c.inputs + k → (t : ℕ) → FlipsAt (wave run n) t → Caused c run (row_at rows n) k t

-- a true row tells that
pub explained_by : (c : PlainCircuit) (rows : List Row) (run : Run) (n : ℕ) → n < length rows → RowTrue c run n (row_at rows n) → Explained c rows run n
explained_by c rows run n l r = record {
  has = l;
  class = r.class;
  caused = λ k e t h. subst (λ (j : ℕ). Caused c run (row_at rows n) j t) (omega arith) (r.caused (omega arith) t h);
}

-- a flip at tick t comes along a live path to net n after a flip of an input
pub record Traced (c : PlainCircuit) (rows : List Row) (run : Run) (n t : ℕ) : Type 0 where
  pub input : ℕ
  pub least_sum : ℕ
  pub greatest_sum : ℕ
  pub cause : ℕ
  pub path : LivePath c rows input n least_sum greatest_sum
  pub flips : FlipsAt (wave run input) cause
  pub after : cause + least_sum ≤ t
  pub until : t ≤ cause + greatest_sum

explained_live : (c : PlainCircuit) (rows : List Row) (run : Run) (n t : ℕ) → Explained c rows run n → FlipsAt (wave run n) t → Live rows n
explained_live c rows run n t e h = record { has = e.has; moves = flip_not_constant e.class t h }

traced_gate :
    (c : PlainCircuit) (rows : List Row) (run : Run) → RunOf c run → (k t : ℕ) → k < length c.gates → Live rows (c.inputs + k) →
    (u : Caused c run (row_at rows (c.inputs + k)) k t) → Traced c rows run (get_or (gate_at c k).pins u.place 0) u.cause →
    Traced c rows run (c.inputs + k) t
traced_gate c rows run r k t l v u s = record {
  input = s.input;
  least_sum = s.least_sum + (gate_at c k).least;
  greatest_sum = s.greatest_sum + (gate_at c k).greatest;
  cause = s.cause;
  path = step k u.place l u.exists u.unheld v s.path;
  flips = s.flips;
  after = omega (arith, d.0, s.after, u.delayed);
  until = omega (arith, d.1, s.until, u.delayed);
}
  where
    d : ((gate_at c k).least ≤ get_or run.delays k 0) × (get_or run.delays k 0 ≤ (gate_at c k).greatest)
    d = r.within k l

traced_below :
    (c : PlainCircuit) (rows : List Row) (run : Run) → T (valid_circuit c) → RunOf c run →
    (b n : ℕ) → n < b → n < net_count c → ((m : ℕ) → m ≤ n → Explained c rows run m) → (t : ℕ) → FlipsAt (wave run n) t → Traced c rows run n t
traced_below c rows run valid r zero n a l e t h = absurd (omega arith)
traced_below c rows run valid r (suc b) n a l e t h = elim (net_cases c n l) [
  | inl p ↦ at_input p
  | inr p ↦ at_gate p.0 p.1 p.2 (traced_below c rows run valid r b)
]
  where
    live : Live rows n
    live = explained_live c rows run n t (e n (omega arith)) h

    at_input : n < c.inputs → Traced c rows run n t
    at_input p = record {
      input = n;
      least_sum = 0;
      greatest_sum = 0;
      cause = t;
      path = start p live;
      flips = h;
      after = omega arith;
      until = omega arith;
    }

    at_gate :
        (k : ℕ) → k < length c.gates → n ≡ c.inputs + k →
        ((m : ℕ) → m < b → m < net_count c → ((j : ℕ) → j ≤ m → Explained c rows run j) → (s : ℕ) → FlipsAt (wave run m) s → Traced c rows run m s) →
        Traced c rows run n t
    at_gate k p q below =
        let v = subst (Live rows) q live in
        let u = subst (λ (x : ℕ). Caused c run (row_at rows x) k t) q ((e n (omega arith)).caused k q t h) in
        let lower = (gate_good c valid k p).lower u.place u.exists in
        subst (λ (x : ℕ). Traced c rows run x t) (sym q)
        (traced_gate c rows run r k t p v u
        (below (get_or (gate_at c k).pins u.place 0) (omega arith) (omega arith) (λ j m. e j (omega arith)) u.cause u.flips))

-- every flip of a net whose lower nets are all explained comes by a live path
pub traced :
    (c : PlainCircuit) (rows : List Row) (run : Run) → T (valid_circuit c) → RunOf c run → (n : ℕ) → n < net_count c →
    ((m : ℕ) → m ≤ n → Explained c rows run m) → (t : ℕ) → FlipsAt (wave run n) t → Traced c rows run n t
traced c rows run valid r n l e t h = traced_below c rows run valid r (suc n) n (omega arith) l e t h

-- where the bounds are tight, such a flip lies within them
pub bounded_by_lem : (c : PlainCircuit) (rows : List Row) (run : Run) (n t : ℕ) → ((i : ℕ) → TightBounds c rows i n) → Traced c rows run n t → Bounded c run (row_at rows n) t
bounded_by_lem c rows run n t tight s = go (bounds_from (row_at rows n) s.input) refl
  where
    go : (o : Option Bounds) → bounds_from (row_at rows n) s.input ≡ o → Bounded c run (row_at rows n) t
    go None e = absurd ((tight s.input).absent e s.least_sum s.greatest_sum s.path)
    go (Some b) e =
        let w = ((tight s.input).given b e).between s.least_sum s.greatest_sum s.path in
        record {
          input = s.input;
          bounds = b;
          cause = s.cause;
          given = e;
          flips = subst (λ (v : Waveform). FlipsAt v s.cause) (sym (input_wave_lem c run s.input (path_input s.path))) s.flips;
          after = omega (arith, w.0, s.after);
          until = omega (arith, w.1, s.until);
        }

-- a row is true if its class holds, its flips are caused by pins that are not held, and its bounds are tight
pub row_true_by :
    (c : PlainCircuit) (rows : List Row) (run : Run) → T (valid_circuit c) → RunOf c run → (n : ℕ) → n < net_count c →
    ((m : ℕ) → m ≤ n → Explained c rows run m) → ((i : ℕ) → TightBounds c rows i n) → RowTrue c run n (row_at rows n)
row_true_by c rows run valid r n l e tight = record {
  class = (e n (omega arith)).class;
  bounded = λ t h. bounded_by_lem c rows run n t tight (traced c rows run valid r n l e t h);
  caused = λ b t h. (e n (omega arith)).caused (n - c.inputs) (omega arith) t h;
}
