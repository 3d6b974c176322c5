-- Tests of every number below a limit, by number: one that passes or fails, and the steps from one limit to the next. Assumes nothing.
use Rattle.std.proofs.Common.{◌≡◌, ℕ, zero, suc, ◌+◌, ◌<◌, ◌≤◌, Bool, true, false, refl, sym, ap, ◌∙◌, ⊎_elim, add-one, arith}
use Rattle.std.proofs.lemmas.Bool.{and_from, and_left, and_right, or_from, or_left, or_right, cases_eq}
use Rattle.ordering.specs.Rows.{some_below, every_below}

-- a test that passes below n
pub some_found : (test : ℕ → Bool) (n k : ℕ) → k < n → test k ≡ true → some_below test n ≡ true
unfolding some_below
some_found test zero k l h = absurd (omega arith)
some_found test (suc n) k l h =
    ⊎_elim
    (λ e. or_right (some_below test n) (test n) (ap test (omega arith) ∙ h))
    (λ e. or_left (some_below test n) (test n) (some_found test n k (omega arith) h))
    (cases_eq n k)

-- none below i, and not i either
pub some_more : (test : ℕ → Bool) (i : ℕ) (r : Bool) → some_below test i ≡ false → r ≡ test i → r ≡ false → some_below test (i + 1) ≡ false
unfolding some_below
some_more test i r h e f = ap (some_below test) (add-one i) ∙ or_from (some_below test i) (test i) h (sym e ∙ f)

-- a loop's answers: at the number that passes the test, and at the end
pub some_yes : (test : ℕ → Bool) (n i : ℕ) (r : Bool) → i < n → r ≡ test i → r ≡ true → true ≡ some_below test n
some_yes test n i r l e f = sym (some_found test n i l (sym e ∙ f))

pub some_no : (test : ℕ → Bool) (n i : ℕ) → some_below test i ≡ false → n ≤ i → i ≤ n → false ≡ some_below test n
some_no test n i h k l = sym h ∙ ap (some_below test) (omega arith)

-- every number below 0
pub every_none : (test : ℕ → Bool) → every_below test 0 ≡ true
unfolding every_below
every_none test = refl

-- every number below i, and i too
pub every_more : (test : ℕ → Bool) (i : ℕ) (r : Bool) → every_below test i ≡ true → r ≡ test i → r ≡ true → every_below test (i + 1) ≡ true
unfolding every_below
every_more test i r h e f = ap (every_below test) (add-one i) ∙ and_from (every_below test i) (test i) h (sym e ∙ f)

-- a test that fails below n
pub every_missed : (test : ℕ → Bool) (n k : ℕ) → k < n → test k ≡ false → every_below test n ≡ false
unfolding every_below
every_missed test zero k l h = absurd (omega arith)
every_missed test (suc n) k l h =
    ⊎_elim
    (λ e. and_right (every_below test n) (test n) (ap test (omega arith) ∙ h))
    (λ e. and_left (every_below test n) (test n) (every_missed test n k (omega arith) h))
    (cases_eq n k)

-- a loop's answers: at the number that fails the test, and at the end
pub every_no : (test : ℕ → Bool) (n i : ℕ) (r : Bool) → i < n → r ≡ test i → r ≡ false → false ≡ every_below test n
every_no test n i r l e f = sym (every_missed test n i l (sym e ∙ f))

pub every_yes : (test : ℕ → Bool) (n i : ℕ) → every_below test i ≡ true → n ≤ i → i ≤ n → true ≡ every_below test n
every_yes test n i h k l = sym h ∙ ap (every_below test) (omega arith)
