-- Lemmas on passes: they raise times, no further than any times that meet the table, and by 65,535 at the most. Assumes nothing.
use Rattle.std.proofs.Common.{◌≡◌, ℕ, zero, suc, ◌+◌, ◌*◌, ◌<◌, ◌≤◌, ◌⊎◌, List, [], length, get_or, replicate, ℤ, pos, negsuc, ◌+ℤ◌, ◌≤ℤ◌, ◌<ℤ◌, Some, None, Option, sym, refl, ap, ◌∙◌, subst, inl, inr, ⊎_elim, add-one, arith}
use Rattle.std.proofs.lemmas.List.FromFn.{get_or-map-range_with_len, length-map-range_with_len}
use Rattle.std.proofs.lemmas.List.{get_or-replicate}
use Rattle.std.proofs.lemmas.Int.{ints}
use Rattle.std.proofs.lemmas.Bool.{cases_eq}
use Rattle.separations.specs.Separations.{Table, spacing_at}
use Rattle.separations.specs.Check.{whole, raised, latest, Limited, Moderate, passed, times_after}

pub whole_is : (z : ℤ) → (z ≡ pos (whole z)) ⊎ ((z <ℤ pos 0) × (whole z ≡ 0))
whole_is (pos n) = inl refl
whole_is (negsuc n) = inr (omega (arith, ints), refl)

-- a time is never lowered
raised_keeps : (o : Option ℤ) (from time : ℕ) → time ≤ raised o from time
raised_keeps None from time = omega arith
raised_keeps (Some s) from time = omega arith

raised_meets_some : (s : ℤ) (from time : ℕ) → (pos from +ℤ s) ≤ℤ pos (raised (Some s) from time)
raised_meets_some s from time = let w = whole_is (pos from +ℤ s) in omega (arith, ints)

-- the raised time meets the spacing
raised_meets : (o : Option ℤ) (s : ℤ) (from time : ℕ) → o ≡ Some s → (pos from +ℤ s) ≤ℤ pos (raised o from time)
raised_meets o s from time e =
    subst (λ (o : Option ℤ). (pos from +ℤ s) ≤ℤ pos (raised o from time)) (sym e) (raised_meets_some s from time)

-- a time at or above the old one that meets the spacing is at or above the raised one
raised_least :
    (o : Option ℤ) (from time top : ℕ) → time ≤ top → ((s : ℤ) → o ≡ Some s → (pos from +ℤ s) ≤ℤ pos top) →
    raised o from time ≤ top
raised_least None from time top h m = h
raised_least (Some s) from time top h m =
    let w = whole_is (pos from +ℤ s) in let k = m s refl in omega (arith, ints)

module _ (table : Table) (times : List ℕ) (b : ℕ) where
  latest_keeps : (n : ℕ) → get_or times b 0 ≤ latest table times b n
  unfolding latest
  latest_keeps zero = omega arith
  latest_keeps (suc n) =
      omega (arith, latest_keeps n, raised_keeps (spacing_at table n b) (get_or times n 0) (latest table times b n))

  latest_meets :
      (a n : ℕ) (s : ℤ) → a < n → spacing_at table a b ≡ Some s →
      (pos (get_or times a 0) +ℤ s) ≤ℤ pos (latest table times b n)
  unfolding latest
  latest_meets a zero s h e = omega (arith, ints)
  latest_meets a (suc n) s h e =
      let low = raised_keeps (spacing_at table n b) (get_or times n 0) (latest table times b n) in
      ⊎_elim
      (λ (p : a ≡ n).
      let e' : spacing_at table n b ≡ Some s = ap (λ i. spacing_at table i b) (sym p) ∙ e in
      let m = raised_meets (spacing_at table n b) s (get_or times n 0) (latest table times b n) e' in
      let same : get_or times a 0 ≡ get_or times n 0 = ap (λ i. get_or times i 0) p in omega (arith, ints))
      (λ (p : a ≡ n → ⊥). let m = latest_meets a n s (omega arith) e in omega (arith, ints))
      (cases_eq a n)

  latest_least :
      (n top : ℕ) → get_or times b 0 ≤ top →
      ((a : ℕ) (s : ℤ) → a < n → spacing_at table a b ≡ Some s → (pos (get_or times a 0) +ℤ s) ≤ℤ pos top) →
      latest table times b n ≤ top
  unfolding latest
  latest_least zero top h m = h
  latest_least (suc n) top h m =
      raised_least (spacing_at table n b) (get_or times n 0) (latest table times b n) top
      (latest_least n top h (λ a s l e. m a s (omega arith) e)) (λ s e. m n s (omega arith) e)

  pub latest_none : get_or times b 0 ≡ latest table times b 0
  unfolding latest
  latest_none = refl

  -- one input more
  pub latest_more :
      (n time from : ℕ) (row : List (Option ℤ)) → time ≡ latest table times b n → row ≡ get_or table n [] →
      from ≡ get_or times n 0 → raised (get_or row b None) from time ≡ latest table times b (n + 1)
  unfolding latest
  latest_more n time from row e f g = rw (add-one n, e, f, g)

-- the time of an input after so many passes
abbrev pub time_after : Table → ℕ → ℕ → ℕ
time_after table k i = get_or (times_after table k) i 0

-- times of the inputs that meet every separation of the table
abbrev pub Solves : Table → (ℕ → ℕ) → Type 0
Solves table times =
    (a b : ℕ) (s : ℤ) → a < 16 → b < 16 → spacing_at table a b ≡ Some s → (pos (times a) +ℤ s) ≤ℤ pos (times b)

get_d_passed :
    (table : Table) (times : List ℕ) (b : ℕ) → b < 16 → get_or (passed table times) b 0 ≡ latest table times b 16
unfolding passed
get_d_passed table times b h = get_or-map-range_with_len (λ b. latest table times b 16) 0 16 b b 0 h (omega arith)

length_passed : (table : Table) (times : List ℕ) → length (passed table times) ≡ 16
unfolding passed
length_passed table times = length-map-range_with_len (λ b. latest table times b 16) 0 16

module _ (table : Table) where
  pub length_after : (k : ℕ) → length (times_after table k) ≡ 16
  unfolding times_after
  length_after zero = refl
  length_after (suc k) = length_passed table (times_after table k)

  start : (b : ℕ) → b < 16 → time_after table 0 b ≡ 0
  unfolding times_after
  start b h = get_or-replicate 16 b 0 0 h

  step : (k b : ℕ) → b < 16 → time_after table (suc k) b ≡ latest table (times_after table k) b 16
  unfolding times_after
  step k b h = get_d_passed table (times_after table k) b h

  -- a pass lowers no time
  pub after_keeps : (k b : ℕ) → b < 16 → time_after table k b ≤ time_after table (suc k) b
  after_keeps k b h = rw (step k b h) (latest_keeps table (times_after table k) b 16)

  -- after a pass each time meets the separations from the times before it
  pub after_meets :
      (k a b : ℕ) (s : ℤ) → a < 16 → b < 16 → spacing_at table a b ≡ Some s →
      (pos (time_after table k a) +ℤ s) ≤ℤ pos (time_after table (suc k) b)
  after_meets k a b s g h e = rw (step k b h) (latest_meets table (times_after table k) b a 16 s g e)

  -- what a time is not raised above in a pass
  after_least :
      (k b top : ℕ) → b < 16 → time_after table k b ≤ top →
      ((a : ℕ) (s : ℤ) → a < 16 → spacing_at table a b ≡ Some s → (pos (time_after table k a) +ℤ s) ≤ℤ pos top) →
      time_after table (suc k) b ≤ top
  after_least k b top h l m = rw (step k b h) (latest_least table (times_after table k) b 16 top l m)

  -- passes stay below all times that meet the table
  pub after_below : (times : ℕ → ℕ) → Solves table times → (k b : ℕ) → b < 16 → time_after table k b ≤ times b
  after_below times solves zero b h = omega (arith, start b h)
  after_below times solves (suc k) b h =
      after_least k b (times b) h (after_below times solves k b h)
      (λ a s g e. let low = after_below times solves k a g in let m = solves a b s g h e in omega (arith, ints))

  -- each pass raises a time by at most 65,535
  pub after_bounded : Limited table → (k b : ℕ) → b < 16 → time_after table k b ≤ k * 65535
  after_bounded lim zero b h = omega (arith, start b h)
  after_bounded lim (suc k) b h =
      let low = after_bounded lim k b h in
      after_least k b (suc k * 65535) h (omega arith)
      (λ a s g e. let low = after_bounded lim k a g in let m = lim a b s g h e in omega (arith, ints))

  -- no pass
  pub after_none : replicate 16 0 ≡ times_after table 0
  unfolding times_after
  after_none = refl

  -- one pass more
  pub after_more :
      (times : List ℕ) (k : ℕ) → times ≡ times_after table k → passed table times ≡ times_after table (k + 1)
  unfolding times_after
  after_more times k e = rw (add-one k, e)

  -- the times stay so small that no sum passes 32 bits
  pub after_moderate : Limited table → (times : List ℕ) (k : ℕ) → k ≤ 16 → times ≡ times_after table k → Moderate times
  after_moderate lim times k h e i l =
      let low = after_bounded lim k i l in
      let same : get_or times i 0 ≡ time_after table k i = ap (λ ts. get_or ts i 0) e in omega arith
