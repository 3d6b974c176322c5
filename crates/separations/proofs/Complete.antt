-- The test is exact: where some times meet the table, sixteen passes reach times that no further pass raises. Assumes nothing.
use Rattle.std.proofs.Common.{◌≡◌, ℕ, zero, suc, ◌-◌, ◌<◌, ◌≤◌, cond, eqb, ◌⊎◌, get_or, sym, ap, ◌∙◌, inl, inr, ⊎_elim, arith}
use Rattle.std.proofs.lemmas.List.{ext_get_or}
use Rattle.std.proofs.lemmas.Int.{ints}
use Rattle.std.proofs.lemmas.Bool.{cases_lt}
use Rattle.std.proofs.lemmas.Bool.Decides.{nat_tests}
use Rattle.separations.specs.Separations.{Table}
use Rattle.separations.specs.Check.{times_after}
use Rattle.separations.proofs.Passes.{time_after, Solves, after_keeps, after_meets, after_below, length_after}
use Rattle.separations.proofs.Sums.{sum_of, sum_mono, sum_less, sum_shift, sum_full}

-- 1 where the two are equal, else 0
abbrev mark : ℕ → ℕ → ℕ
mark x y = cond (eqb x y) 1 0

-- the second, less by 1 unless the two are equal
abbrev lower : ℕ → ℕ → ℕ
lower x y = cond (eqb x y) y (y - 1)

lower_is :
    (x y : ℕ) →
    ((x ≡ y) × (mark x y ≡ 1) × (lower x y ≡ y)) ⊎ ((x ≡ y → ⊥) × (mark x y ≡ 0) × (lower x y ≡ y - 1))
lower_is x y = grind (arith, nat_tests)

module _ (table : Table) where
  -- how many inputs have reached their time of a solution after k passes
  count : (ℕ → ℕ) → ℕ → ℕ
  count times k = sum_of (λ i. mark (time_after table k i) (times i)) 16

  -- a solution, less by 1 at each input that has not reached its time
  lowered : (ℕ → ℕ) → ℕ → ℕ → ℕ
  lowered times k i = lower (time_after table k i) (times i)

  -- an input that has reached its time stays there
  mark_keeps :
      (times : ℕ → ℕ) → Solves table times → (k i : ℕ) → i < 16 →
      mark (time_after table k i) (times i) ≤ mark (time_after table (suc k) i) (times i)
  mark_keeps times solves k i h =
      let u = lower_is (time_after table k i) (times i) in
      let v = lower_is (time_after table (suc k) i) (times i) in
      let keeps = after_keeps table k i h in
      let below = after_below table times solves (suc k) i h in omega arith

  -- if the count does not rise in a pass, no input reaches its time in it
  mark_same :
      (times : ℕ → ℕ) → Solves table times → (k i : ℕ) → count times (suc k) ≤ count times k → i < 16 →
      mark (time_after table (suc k) i) (times i) ≤ mark (time_after table k i) (times i)
  unfolding count
  mark_same times solves k i none h =
      ⊎_elim
      (λ (p : mark (time_after table k i) (times i) < mark (time_after table (suc k) i) (times i)).
      let more =
      sum_less (λ i. mark (time_after table k i) (times i)) (λ i. mark (time_after table (suc k) i) (times i)) 16 i
      (mark_keeps times solves k) h p in omega arith)
      (λ p. p)
      (cases_lt (mark (time_after table k i) (times i)) (mark (time_after table (suc k) i) (times i)))

  -- the lowered times meet the table too, if no input reaches its time in the next pass
  lowered_solves :
      (times : ℕ → ℕ) (k : ℕ) → Solves table times → count times (suc k) ≤ count times k →
      Solves table (lowered times k)
  unfolding lowered
  lowered_solves times k solves none a b s g h e =
      let ua = lower_is (time_after table k a) (times a) in
      let ub = lower_is (time_after table k b) (times b) in
      let vb = lower_is (time_after table (suc k) b) (times b) in
      let low-a = after_below table times solves k a g in
      let low-b = after_below table times solves (suc k) b h in
      let m = solves a b s g h e in
      let n = after_meets table k a b s g h e in
      let same = mark_same times solves k b none h in omega (arith, ints)

  -- their sum is less, if some input has not reached its time
  lowered_less :
      (times : ℕ → ℕ) (k : ℕ) → Solves table times → count times k < 16 → sum_of (lowered times k) 16 < sum_of times 16
  unfolding count lowered
  lowered_less times k solves few =
      let shift =
      sum_shift (lowered times k) times (λ i. mark (time_after table k i) (times i)) 16
      (λ i h.
      let u = lower_is (time_after table k i) (times i) in
      let low = after_below table times solves k i h in omega arith) in omega arith

  -- another solution with a smaller sum
  Smaller : (ℕ → ℕ) → Type 0
  Smaller times = (lesser : ℕ → ℕ) × Solves table lesser × (sum_of lesser 16 < sum_of times 16)

  count_keeps : (times : ℕ → ℕ) → Solves table times → (k : ℕ) → count times k ≤ count times (suc k)
  unfolding count
  count_keeps times solves k =
      sum_mono (λ i. mark (time_after table k i) (times i)) (λ i. mark (time_after table (suc k) i) (times i)) 16
      (mark_keeps times solves k)

  -- in each pass a further input reaches its time, unless all have, or there is a smaller solution
  reaches :
      (times : ℕ → ℕ) → Solves table times → (k : ℕ) → k ≤ 16 → (k ≤ count times k) ⊎ Smaller times
  unfolding Smaller
  reaches times solves zero h = inl (omega arith)
  reaches times solves (suc k) h =
      let keeps = count_keeps times solves k in
      ⊎_elim
      (λ (c : k ≤ count times k).
      ⊎_elim (λ (p : count times k < count times (suc k)). inl (omega arith))
      (λ (p : count times (suc k) ≤ count times k).
      ⊎_elim
      (λ (q : count times k < 16).
      inr (lowered times k, lowered_solves times k solves p, lowered_less times k solves q))
      (λ (q : 16 ≤ count times k). inl (omega arith))
      (cases_lt (count times k) 16))
      (cases_lt (count times k) (count times (suc k))))
      inr
      (reaches times solves k (omega arith))

  -- all inputs have reached their time of a solution: a further pass raises none
  full_settles :
      (times : ℕ → ℕ) → Solves table times → 16 ≤ count times 16 → (b : ℕ) → b < 16 →
      time_after table 17 b ≡ time_after table 16 b
  unfolding count
  full_settles times solves full b h =
      let one = sum_full (λ i. mark (time_after table 16 i) (times i)) 16 b
      (λ i l. let u = lower_is (time_after table 16 i) (times i) in omega arith) full h in
      let u = lower_is (time_after table 16 b) (times b) in
      let low = after_below table times solves 17 b h in
      let keeps = after_keeps table 16 b h in omega arith

  settles :
      (fuel : ℕ) (times : ℕ → ℕ) → Solves table times → sum_of times 16 < fuel → (b : ℕ) → b < 16 →
      time_after table 17 b ≡ time_after table 16 b
  unfolding Smaller
  settles zero times solves h b l = omega arith
  settles (suc fuel) times solves h b l =
      ⊎_elim (λ (full : 16 ≤ count times 16). full_settles times solves full b l)
      (λ (less : (lesser : ℕ → ℕ) × Solves table lesser × (sum_of lesser 16 < sum_of times 16)).
      let smaller = less.2 in settles fuel less.0 less.1 (omega arith) b l)
      (reaches times solves 16 (omega arith))

  -- where some times meet the table, a pass after the sixteenth raises none
  pub complete : (times : ℕ → ℕ) → Solves table times → times_after table 17 ≡ times_after table 16
  complete times solves =
      let long = length_after table 17 in
      ext_get_or 0 (times_after table 17) (times_after table 16) (long ∙ sym (length_after table 16))
      (λ i h. settles (suc (sum_of times 16)) times solves (omega arith) i (omega arith))

  -- times that a further pass does not raise meet the table
  pub sound : times_after table 17 ≡ times_after table 16 → Solves table (time_after table 16)
  sound e a b s g h at =
      let m = after_meets table 16 a b s g h at in
      let same : time_after table 17 b ≡ time_after table 16 b = ap (λ ts. get_or ts b 0) e in omega (arith, ints)
