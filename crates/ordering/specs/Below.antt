-- Tests of every number below a limit: what they give. Assumes nothing.
use Rattle.std.specs.Prelude.{◌≡◌, ℕ, zero, suc, ◌<◌, ◌≤◌, Bool, true, false, ◌||◌, refl}
use Rattle.std.proofs.Common.{sym, ap, ◌∙◌, inl, inr, ⊎_elim, arith}
use Rattle.std.proofs.Math.Bool.{or-false}
use Rattle.std.proofs.lemmas.Bool.{false≢true, and_parts, or_cases, cases_eq, cases_lt}
use Rattle.ordering.specs.Rows.{some_below, every_below}

-- none below 0
pub some_none : (test : ℕ → Bool) → some_below test 0 ≡ false
unfolding some_below
some_none test = refl

-- none from m on
pub some_same : (test : ℕ → Bool) (m n : ℕ) → m ≤ n → ((k : ℕ) → m ≤ k → k < n → test k ≡ false) → some_below test m ≡ some_below test n
unfolding some_below
some_same test m zero le past = let e : m ≡ 0 = omega arith in ap (some_below test) e
some_same test m (suc n) le past =
    ⊎_elim
    (λ l. some_same test m n (omega arith) (λ k a b. past k a (omega arith))
    ∙ sym (ap (λ (b : Bool). some_below test n || b) (past n (omega arith) (omega arith)) ∙ or-false (some_below test n)))
    (λ l. let e : m ≡ suc n = omega arith in ap (some_below test) e)
    (cases_lt m (suc n))

-- where the test passes
pub some_at : (test : ℕ → Bool) (n : ℕ) → some_below test n ≡ true → (k : ℕ) × (k < n) × (test k ≡ true)
unfolding some_below
some_at test zero h = absurd (false≢true h)
some_at test (suc n) h =
    elim (or_cases (some_below test n) (test n) h) [ inl p ↦ let r = some_at test n p in (r.0, omega arith, r.2) | inr p ↦ (n, omega arith, p) ]

-- the test passes at each
pub every_at : (test : ℕ → Bool) (n : ℕ) → every_below test n ≡ true → (k : ℕ) → k < n → test k ≡ true
unfolding every_below
every_at test zero h k l = absurd (omega arith)
every_at test (suc n) h k l =
    let p = and_parts (every_below test n) (test n) h in
    ⊎_elim (λ e. ap test (omega arith) ∙ p.1) (λ e. every_at test n p.0 k (omega arith)) (cases_eq k n)
