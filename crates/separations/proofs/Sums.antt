-- Sums of the first n values of a function. Assumes nothing.
use Rattle.std.proofs.Common.{◌≡◌, ℕ, zero, suc, ◌+◌, ◌<◌, ◌≤◌, refl, ⊎_elim, arith}
use Rattle.std.proofs.lemmas.Bool.{cases_eq, cases_lt}

-- the sum of the first n values
abbrev pub sum_of : (ℕ → ℕ) → ℕ → ℕ
sum_of f zero = 0
sum_of f (suc n) = f n + sum_of f n

pub sum_mono : (f g : ℕ → ℕ) (n : ℕ) → ((i : ℕ) → i < n → f i ≤ g i) → sum_of f n ≤ sum_of g n
sum_mono f g zero h = omega arith
sum_mono f g (suc n) h =
    let rest = sum_mono f g n (λ i l. h i (omega arith)) in omega (arith, h n (omega arith))

-- a value that is less makes the sum less
pub sum_less :
    (f g : ℕ → ℕ) (n j : ℕ) → ((i : ℕ) → i < n → f i ≤ g i) → j < n → f j < g j → sum_of f n < sum_of g n
sum_less f g zero j h l less = omega arith
sum_less f g (suc n) j h l less =
    let last = h n (omega arith) in
    ⊎_elim
    (λ (p : j ≡ n).
    let k : f n < g n = rw p at less in
    let rest = sum_mono f g n (λ i l. h i (omega arith)) in omega arith)
    (λ (p : j ≡ n → ⊥).
    let rest = sum_less f g n j (λ i l. h i (omega arith)) (omega arith) less in omega arith)
    (cases_eq j n)

pub sum_part : (f : ℕ → ℕ) (n j : ℕ) → j < n → f j ≤ sum_of f n
sum_part f zero j l = omega arith
sum_part f (suc n) j l =
    ⊎_elim
    (λ (p : j ≡ n). rw p (omega arith))
    (λ (p : j ≡ n → ⊥). let rest = sum_part f n j (omega arith) in omega arith)
    (cases_eq j n)

-- if each f i + 1 is g i + h i, so it is of the sums
pub sum_shift :
    (f g h : ℕ → ℕ) (n : ℕ) → ((i : ℕ) → i < n → f i + 1 ≡ g i + h i) → sum_of f n + n ≡ sum_of g n + sum_of h n
sum_shift f g h zero e = refl
sum_shift f g h (suc n) e =
    let rest = sum_shift f g h n (λ i l. e i (omega arith)) in omega (arith, e n (omega arith))

sum_ones : (n : ℕ) → sum_of (λ i. 1) n ≡ n
sum_ones zero = refl
sum_ones (suc n) = omega (arith, sum_ones n)

-- values of at most 1 whose sum reaches n are all 1
pub sum_full : (f : ℕ → ℕ) (n j : ℕ) → ((i : ℕ) → i < n → f i ≤ 1) → n ≤ sum_of f n → j < n → f j ≡ 1
sum_full f n j h full l =
    let most = h j l in
    ⊎_elim
    (λ (p : f j < 1). let less = sum_less f (λ i. 1) n j h l p in omega (arith, sum_ones n))
    (λ (p : 1 ≤ f j). omega arith)
    (cases_lt (f j) 1)
