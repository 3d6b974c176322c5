-- Tight bounds for one net: at an input, at a net of constant class, and at a gate from the nets at its pins. Assumes nothing.
use Rattle.std.proofs.Common.{◌≡◌, ℕ, zero, suc, ◌+◌, ◌-◌, ◌*◌, ◌<◌, ◌≤◌, min, max, Bool, true, T, List, length, get_or, Some, None, Option, sym, refl, ap, subst, inl, inr, arith}
use Rattle.std.proofs.lemmas.Bool.{cases_lt, both_ways}
use Rattle.classes.specs.Class.{is_constant}
use Rattle.netlist.specs.Circuit.{PlainGate, PlainCircuit, valid_circuit}
use Rattle.runs.specs.declared.row.Bounds.{Bounds}
use Rattle.runs.specs.declared.row.Row.{Row}
use Rattle.runs.specs.Run.{gate_at}
use Rattle.runs.specs.Row.{bounds_from, held_at, row_at}
use Rattle.runs.specs.LivePath.{Live, LivePath, start, step, NoPath, Tight, TightBounds}
use Rattle.runs.specs.Gathered.{delayed, joined, unless_held, from_place, gathered}
use Rattle.runs.proofs.LivePaths.{LastStep, path_live, path_with, path_to_input, path_to_gate, path_sums}

-- what is given is not absent
none_is_not_some : {X : Type 0} (o : Option X) (x : X) → o ≡ None → o ≡ Some x → ⊥
none_is_not_some o x p q = let z : ◌≡◌ {A = ℕ} 0 1 = cc in omega arith

-- no bounds and no path
pub tight_absent : (c : PlainCircuit) (rows : List Row) (i n : ℕ) → bounds_from (row_at rows n) i ≡ None → NoPath c rows i n → TightBounds c rows i n
tight_absent c rows i n e h = record { given = λ b g. absurd (none_is_not_some (bounds_from (row_at rows n) i) b e g); absent = λ _. h }

-- these bounds, and they are tight
pub tight_given : (c : PlainCircuit) (rows : List Row) (i n : ℕ) (b : Bounds) → bounds_from (row_at rows n) i ≡ Some b → Tight c rows i n b → TightBounds c rows i n
tight_given c rows i n b e t = record {
  given = λ q g. subst (Tight c rows i n) (same q g) t;
  absent = λ g. absurd (none_is_not_some (bounds_from (row_at rows n) i) b g e);
}
  where
    same : (q : Bounds) → bounds_from (row_at rows n) i ≡ Some q → b ≡ q
    same q g = cc

-- tight bounds are in order, and at most 65,535 for each gate up to the net
pub tight_sums : (c : PlainCircuit) (rows : List Row) (i n : ℕ) (b : Bounds) → T (valid_circuit c) → Tight c rows i n b → (b.lo ≤ b.hi) × (b.hi ≤ 65535 * (suc n - c.inputs))
tight_sums c rows i n b valid t =
    let low = path_sums valid t.lowest.1 in let high = path_sums valid t.highest.1 in
    let inside = t.between b.lo t.lowest.0 t.lowest.1 in
    (omega arith, omega arith)

-- a net of constant class has no live path
pub tight_constant : (c : PlainCircuit) (rows : List Row) (i n : ℕ) → is_constant (row_at rows n).class ≡ true → bounds_from (row_at rows n) i ≡ None → TightBounds c rows i n
tight_constant c rows i n k e = tight_absent c rows i n e (λ lo hi p. both_ways (is_constant (row_at rows n).class) (path_live p).moves k)

-- an input from itself
pub tight_own : (c : PlainCircuit) (rows : List Row) (i : ℕ) → i < c.inputs → Live rows i → bounds_from (row_at rows i) i ≡ Some (record { lo = 0; hi = 0 }) → TightBounds c rows i i
tight_own c rows i l v e = tight_given c rows i i (record { lo = 0; hi = 0 }) e (record {
  lowest = (0, start l v);
  highest = (0, start l v);
  between = λ lo hi p. let q = path_to_input p l in (omega arith, omega arith);
})

-- an input from another one
pub tight_other : (c : PlainCircuit) (rows : List Row) (i n : ℕ) → n < c.inputs → (n ≡ i → ⊥) → bounds_from (row_at rows n) i ≡ None → TightBounds c rows i n
tight_other c rows i n l d e = tight_absent c rows i n e (λ lo hi p. d (path_to_input p l).0)

-- the least of the lower bounds that the first places give, and the greatest of the upper ones
pub record Joins (from : ℕ → Option Bounds) (m : ℕ) (b : Bounds) : Type 0 where
  pub lowest : (place : ℕ) × (place < m) × ((q : Bounds) × (from place ≡ Some q) × (q.lo ≡ b.lo))
  pub highest : (place : ℕ) × (place < m) × ((q : Bounds) × (from place ≡ Some q) × (q.hi ≡ b.hi))
  pub between : (place : ℕ) → place < m → (q : Bounds) → from place ≡ Some q → (b.lo ≤ q.lo) × (q.hi ≤ b.hi)

-- what the first places give is that, or nothing if none of them gives anything
abbrev pub JoinsAll : (ℕ → Option Bounds) → ℕ → Option Bounds → Type 0
JoinsAll from m None = (place : ℕ) → place < m → from place ≡ None
JoinsAll from m (Some b) = Joins from m b

-- a fact about each place below m and about m
up_to : (P : ℕ → Type 0) (m : ℕ) → ((place : ℕ) → place < m → P place) → P m → (place : ℕ) → place < suc m → P place
up_to P m h here place l = elim (cases_lt place m) [ inl b ↦ h place b | inr b ↦ subst P (omega arith) here ]

-- a place with bounds q lies within bounds b
abbrev Inside : (ℕ → Option Bounds) → Bounds → ℕ → Type 0
Inside from b place = (q : Bounds) → from place ≡ Some q → (b.lo ≤ q.lo) × (q.hi ≤ b.hi)

joins_first : (from : ℕ → Option Bounds) (m : ℕ) (b : Bounds) → from m ≡ Some b → ((place : ℕ) → place < m → from place ≡ None) → Joins from (suc m) b
joins_first from m b e h = record {
  lowest = (m, omega arith, (b, e, refl));
  highest = (m, omega arith, (b, e, refl));
  between = up_to (Inside from b) m (λ place l q g. absurd (none_is_not_some (from place) q (h place l) g)) here;
}
  where
    here : Inside from b m
    here q g = let s : b ≡ q = cc in (rw s (omega arith), rw s (omega arith))

joins_skip : (from : ℕ → Option Bounds) (m : ℕ) (b : Bounds) → from m ≡ None → Joins from m b → Joins from (suc m) b
joins_skip from m b e j = record {
  lowest = (j.lowest.0, omega (arith, j.lowest.1), j.lowest.2);
  highest = (j.highest.0, omega (arith, j.highest.1), j.highest.2);
  between = up_to (Inside from b) m j.between (λ q g. absurd (none_is_not_some (from m) q e g));
}

joins_both : (from : ℕ → Option Bounds) (m : ℕ) (a b : Bounds) → from m ≡ Some b → Joins from m a → Joins from (suc m) (record { lo = min a.lo b.lo; hi = max a.hi b.hi })
joins_both from m a b e j = record {
  lowest = elim (cases_lt a.lo b.lo) [
    | inl l ↦ (j.lowest.0, omega (arith, j.lowest.1), (j.lowest.2.0, j.lowest.2.1, omega (arith, j.lowest.2.2)))
    | inr l ↦ (m, omega arith, (b, e, omega arith))
  ];
  highest = elim (cases_lt b.hi a.hi) [
    | inl l ↦ (j.highest.0, omega (arith, j.highest.1), (j.highest.2.0, j.highest.2.1, omega (arith, j.highest.2.2)))
    | inr l ↦ (m, omega arith, (b, e, omega arith))
  ];
  between = up_to (Inside from both) m (λ place l q g. let i = j.between place l q g in (omega arith, omega arith)) here;
}
  where
    both : Bounds
    both = record { lo = min a.lo b.lo; hi = max a.hi b.hi }

    here : Inside from both m
    here q g = let s : b ≡ q = cc in (rw (← s) (omega arith), rw (← s) (omega arith))

joins_more : (from : ℕ → Option Bounds) (m : ℕ) (o q : Option Bounds) → from m ≡ q → JoinsAll from m o → JoinsAll from (suc m) (joined o q)
joins_more from m None None e h = up_to (λ place. from place ≡ None) m h e
joins_more from m None (Some b) e h = joins_first from m b e h
joins_more from m (Some a) None e h = joins_skip from m a e h
joins_more from m (Some a) (Some b) e h = joins_both from m a b e h

pub joins_all : (from : ℕ → Option Bounds) (m : ℕ) → JoinsAll from m (gathered from m)
joins_all from zero = λ place l. absurd (omega arith)
joins_all from (suc m) = joins_more from m (gathered from m) (from m) refl (joins_all from m)

-- places that give the same, gathered
pub gathered_alike : (from other : ℕ → Option Bounds) (m : ℕ) → ((place : ℕ) → place < m → from place ≡ other place) → gathered from m ≡ gathered other m
gathered_alike from other zero h = refl
gathered_alike from other (suc m) h =
    let p = gathered_alike from other m (λ place l. h place (omega arith)) in let q = h m (omega arith) in cc

-- what a place gives comes from its net's bounds, and the place is not held
pub record Gives (o : Option Bounds) (held : Option Bool) (g : PlainGate) (q : Bounds) : Type 0 where
  pub pin : Bounds
  pub unheld : held ≡ None
  pub given : o ≡ Some pin
  pub lo_is : q.lo ≡ pin.lo + g.least
  pub hi_is : q.hi ≡ pin.hi + g.greatest

pub place_gives : (o : Option Bounds) (held : Option Bool) (g : PlainGate) (q : Bounds) → delayed g (unless_held held o) ≡ Some q → Gives o held g q
place_gives (Some b) None g q e = record { pin = b; unheld = refl; given = refl; lo_is = ap lo s; hi_is = ap hi s }
  where
    s : q ≡ record { lo = b.lo + g.least; hi = b.hi + g.greatest }
    s = cc

    lo : Bounds → ℕ
    lo x = x.lo

    hi : Bounds → ℕ
    hi x = x.hi
place_gives None None g q e = absurd (none_is_not_some None q refl e)
place_gives o (Some v) g q e = absurd (none_is_not_some None q refl e)

pub place_absent : (o : Option Bounds) (held : Option Bool) (g : PlainGate) → delayed g (unless_held held o) ≡ None → held ≡ None → o ≡ None
place_absent None None g e h = refl
place_absent (Some b) None g e h = absurd (none_is_not_some (delayed g (Some b)) _ e refl)
place_absent o (Some v) g e h = absurd (none_is_not_some (Some v) v h refl)

-- the net of a gate that is live: its bounds, gathered from its pins, are tight if those of the nets at its pins are
module _ (c : PlainCircuit) (rows : List Row) (i k : ℕ) (inside : k < length c.gates) (live : Live rows (c.inputs + k))
    (pins-tight : (place : ℕ) → place < length (gate_at c k).pins → TightBounds c rows i (get_or (gate_at c k).pins place 0)) where
  -- the bounds of the net at a place, and whether the place is held
  abbrev pin_bounds : ℕ → Option Bounds
  pin_bounds place = bounds_from (row_at rows (get_or (gate_at c k).pins place 0)) i

  abbrev holding : ℕ → Option Bool
  holding place = held_at (row_at rows (c.inputs + k)) place

  abbrev from : ℕ → Option Bounds
  from place = delayed (gate_at c k) (unless_held (holding place) (pin_bounds place))

  -- a live path comes through a place that gives bounds
  through : (lo hi : ℕ) → (s : LastStep c rows i k lo hi) → (q : Bounds) × (from s.place ≡ Some q) × (q.lo ≤ lo) × (hi ≤ q.hi)
  through lo hi s = go (pin_bounds s.place) refl
    where
      go : (o : Option Bounds) → pin_bounds s.place ≡ o → (q : Bounds) × (from s.place ≡ Some q) × (q.lo ≤ lo) × (hi ≤ q.hi)
      go None e = absurd ((pins-tight s.place s.exists).absent e s.least_sum s.greatest_sum s.before)
      go (Some b) e =
          let t = ((pins-tight s.place s.exists).given b e).between s.least_sum s.greatest_sum s.before in
          (record { lo = b.lo + (gate_at c k).least; hi = b.hi + (gate_at c k).greatest }, rw (e, s.unheld) refl, omega (arith, s.lo_is), omega (arith, s.hi_is))

  none_through : ((place : ℕ) → place < length (gate_at c k).pins → from place ≡ None) → NoPath c rows i (c.inputs + k)
  none_through h lo hi p =
      let s = path_to_gate p k refl in let t = through lo hi s in none_is_not_some (from s.place) t.0 (h s.place s.exists) t.1

  -- what a place gives is attained by live paths
  attains_lo : (place : ℕ) → place < length (gate_at c k).pins → (q : Bounds) → from place ≡ Some q → (hi : ℕ) × LivePath c rows i (c.inputs + k) q.lo hi
  attains_lo place l q e =
      let g = place_gives (pin_bounds place) (holding place) (gate_at c k) q e in let t = ((pins-tight place l).given g.pin g.given).lowest in
      (t.0 + (gate_at c k).greatest, path_with (step k place inside l g.unheld live t.1) q.lo _ g.lo_is refl)

  attains_hi : (place : ℕ) → place < length (gate_at c k).pins → (q : Bounds) → from place ≡ Some q → (lo : ℕ) × LivePath c rows i (c.inputs + k) lo q.hi
  attains_hi place l q e =
      let g = place_gives (pin_bounds place) (holding place) (gate_at c k) q e in let t = ((pins-tight place l).given g.pin g.given).highest in
      (t.0 + (gate_at c k).least, path_with (step k place inside l g.unheld live t.1) _ q.hi refl g.hi_is)

  tight_joins : (b : Bounds) → Joins from (length (gate_at c k).pins) b → Tight c rows i (c.inputs + k) b
  tight_joins b j = record { lowest = lowest; highest = highest; between = between }
    where
      lowest : (hi : ℕ) × LivePath c rows i (c.inputs + k) b.lo hi
      lowest = let p = j.lowest in let t = attains_lo p.0 p.1 p.2.0 p.2.1 in (t.0, path_with t.1 b.lo _ (sym p.2.2) refl)

      highest : (lo : ℕ) × LivePath c rows i (c.inputs + k) lo b.hi
      highest = let p = j.highest in let t = attains_hi p.0 p.1 p.2.0 p.2.1 in (t.0, path_with t.1 _ b.hi refl (sym p.2.2))

      between : (lo hi : ℕ) → LivePath c rows i (c.inputs + k) lo hi → (b.lo ≤ lo) × (hi ≤ b.hi)
      between lo hi p =
          let s = path_to_gate p k refl in let t = through lo hi s in let r = j.between s.place s.exists t.0 t.1 in
          (omega arith, omega arith)

  pub tight_gate :
      bounds_from (row_at rows (c.inputs + k)) i ≡ gathered (from_place rows i (gate_at c k) (row_at rows (c.inputs + k)).held) (length (gate_at c k).pins) →
      TightBounds c rows i (c.inputs + k)
  tight_gate e = go (gathered from (length (gate_at c k).pins)) e (joins_all from (length (gate_at c k).pins))
    where
      go : (o : Option Bounds) → bounds_from (row_at rows (c.inputs + k)) i ≡ o → JoinsAll from (length (gate_at c k).pins) o → TightBounds c rows i (c.inputs + k)
      go None d h = tight_absent c rows i (c.inputs + k) d (none_through h)
      go (Some b) d h = tight_given c rows i (c.inputs + k) b d (tight_joins b h)
