-- Lemmas on live paths. Assumes nothing.
use Rattle.std.proofs.Common.{◌≡◌, ℕ, suc, ◌+◌, ◌-◌, ◌*◌, ◌<◌, ◌≤◌, false, T, List, length, get_or, None, sym, refl, ap, ◌∙◌, subst, arith}
use Rattle.classes.specs.Class.{is_constant}
use Rattle.netlist.specs.Circuit.{PlainCircuit, valid_circuit, net_count}
use Rattle.runs.specs.declared.row.Bounds.{Bounds}
use Rattle.runs.specs.declared.row.Row.{Row}
use Rattle.runs.specs.Run.{gate_at}
use Rattle.runs.specs.Row.{bounds_from, held_at, row_at}
use Rattle.runs.specs.LivePath.{Live, LivePath, start, step, Tight, TightBounds}
use Rattle.runs.proofs.Circuits.{gate_good}

-- the ends of a live path
pub path_input : {c : PlainCircuit} {rows : List Row} {i n lo hi : ℕ} → LivePath c rows i n lo hi → i < c.inputs
path_input (start l v) = l
path_input (step k place l m u v p) = path_input p

pub path_net : {c : PlainCircuit} {rows : List Row} {i n lo hi : ℕ} → LivePath c rows i n lo hi → n < net_count c
path_net (start l v) = omega arith
path_net (step k place l m u v p) = omega arith

pub path_live : {c : PlainCircuit} {rows : List Row} {i n lo hi : ℕ} → LivePath c rows i n lo hi → Live rows n
path_live (start l v) = v
path_live (step k place l m u v p) = v

-- a live path with its sums written otherwise
pub path_with : {c : PlainCircuit} {rows : List Row} {i n lo hi : ℕ} → LivePath c rows i n lo hi → (least greatest : ℕ) → least ≡ lo → greatest ≡ hi → LivePath c rows i n least greatest
path_with p least greatest e f = rw (e, f) p

-- the last step of a live path to the net of gate k
pub record LastStep (c : PlainCircuit) (rows : List Row) (i k lo hi : ℕ) : Type 0 where
  pub place : ℕ
  pub least_sum : ℕ
  pub greatest_sum : ℕ
  pub exists : place < length (gate_at c k).pins
  pub unheld : held_at (row_at rows (c.inputs + k)) place ≡ None
  pub live : Live rows (c.inputs + k)
  pub before : LivePath c rows i (get_or (gate_at c k).pins place 0) least_sum greatest_sum
  pub lo_is : lo ≡ least_sum + (gate_at c k).least
  pub hi_is : hi ≡ greatest_sum + (gate_at c k).greatest

-- a live path to an input is that input alone
pub path_to_input : {c : PlainCircuit} {rows : List Row} {i n lo hi : ℕ} → LivePath c rows i n lo hi → n < c.inputs → (n ≡ i) × (lo ≡ 0) × (hi ≡ 0)
path_to_input (start l v) h = (refl, refl, refl)
path_to_input (step k place l m u v p) h = absurd (omega arith)

-- a live path to the net of a gate has a last step
pub path_to_gate : {c : PlainCircuit} {rows : List Row} {i n lo hi : ℕ} → LivePath c rows i n lo hi → (k : ℕ) → n ≡ c.inputs + k → LastStep c rows i k lo hi
path_to_gate (start l v) k e = absurd (omega arith)
path_to_gate {c} {rows} {i} (step j place {lo} {hi} l m u v p) k e =
    subst (λ (g : ℕ). LastStep c rows i g (lo + (gate_at c j).least) (hi + (gate_at c j).greatest)) (omega arith) last
  where
    last : LastStep c rows i j (lo + (gate_at c j).least) (hi + (gate_at c j).greatest)
    last = record {
      place = place;
      least_sum = lo;
      greatest_sum = hi;
      exists = m;
      unheld = u;
      live = v;
      before = p;
      lo_is = refl;
      hi_is = refl;
    }

-- the sums of a live path: the least delays give no more than the greatest, and those at most 65,535 for each gate up to the net
pub path_sums : {c : PlainCircuit} {rows : List Row} {i n lo hi : ℕ} → T (valid_circuit c) → LivePath c rows i n lo hi → (lo ≤ hi) × (hi ≤ 65535 * (suc n - c.inputs))
path_sums valid (start l v) = (omega arith, omega arith)
path_sums {c} valid (step k place l m u v p) =
    let s = path_sums valid p in let g = gate_good c valid k l in let b = g.lower place m in
    (omega (arith, g.ordered), omega (arith, g.short))

-- both lists have rows up to net n, and the same ones
abbrev pub Alike : List Row → List Row → ℕ → Type 0
Alike rows others n = (m : ℕ) → m ≤ n → (m < length rows) × (m < length others) × (row_at rows m ≡ row_at others m)

pub alike_sym : (rows others : List Row) (n : ℕ) → Alike rows others n → Alike others rows n
alike_sym rows others n h m l = let a = h m l in (a.1, a.0, sym a.2)

live_alike : (rows others : List Row) (n : ℕ) → Alike rows others n → Live rows n → Live others n
live_alike rows others n h v =
    let a = h n (omega arith) in record { has = a.1; moves = subst (λ (r : Row). is_constant r.class ≡ false) a.2 v.moves }

-- a live path looks at the rows up to its net alone
pub path_alike :
    {c : PlainCircuit} {rows : List Row} {i n lo hi : ℕ} → T (valid_circuit c) → (others : List Row) → Alike rows others n →
    LivePath c rows i n lo hi → LivePath c others i n lo hi
path_alike {c} {rows} {i} valid others h (start l v) = start l (live_alike rows others i h v)
path_alike {c} {rows} {i} valid others h (step k place l m u v p) =
    let b = (gate_good c valid k l).lower place m in
    step k place l m
    (subst (λ (r : Row). held_at r place ≡ None) (h (c.inputs + k) (omega arith)).2 u)
    (live_alike rows others (c.inputs + k) h v)
    (path_alike valid others (λ j q. h j (omega arith)) p)

-- and so do tight bounds
pub tight_alike : (c : PlainCircuit) (rows others : List Row) (i n : ℕ) → T (valid_circuit c) → Alike rows others n → TightBounds c rows i n → TightBounds c others i n
tight_alike c rows others i n valid h t = record {
  given = λ b e. given b (t.given b (ap (λ (r : Row). bounds_from r i) same ∙ e));
  absent = λ e lo hi p. t.absent (ap (λ (r : Row). bounds_from r i) same ∙ e) lo hi (path_alike valid rows back p);
}
  where
    same : row_at rows n ≡ row_at others n
    same = (h n (omega arith)).2

    back : Alike others rows n
    back = alike_sym rows others n h

    given : (b : Bounds) → Tight c rows i n b → Tight c others i n b
    given b g = record {
      lowest = (g.lowest.0, path_alike valid others h g.lowest.1);
      highest = (g.highest.0, path_alike valid others h g.highest.1);
      between = λ lo hi p. g.between lo hi (path_alike valid rows back p);
    }
