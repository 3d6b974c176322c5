-- The words of a text, found one after the other. Assumes nothing.
use Rattle.std.proofs.Common.{◌≡◌, ℕ, suc, ◌<◌, ◌≤◌, Bool, true, false, not, T, eqb, List, [], ◌∷◌, ◌++◌, length, get_or, Bor, sym, refl, ap, ◌∙◌, subst, arith, eqb→eq, length-append}
use lib.Dec.{eqb-suc-zero}
use Rattle.std.proofs.lemmas.Bool.{not-true, not-false}
use Rattle.std.specs.Bool.{then_some}
use Rattle.std.specs.Iterator.{YieldsFirstRef}
use Rattle.words.specs.Words.{longer, parts, with_word, filled, words}

-- no space among these
abbrev pub NoSpace : List ℕ → Type 0
NoSpace x = (i : ℕ) → i < length x → get_or x i 0 ≡ 32 → ⊥

not_space : (b : ℕ) → (b ≡ 32 → ⊥) → eqb b 32 ≡ false
not_space b h = go (eqb b 32) (λ t. h (eqb→eq b 32 t))
  where
    go : (v : Bool) → (T v → ⊥) → v ≡ false
    go true k = absurd (k tt)
    go false k = refl

parts_last : (x : List ℕ) → NoSpace x → parts x ≡ x ∷ []
parts_last [] h = refl
parts_last (b ∷ x) h =
    rw (not_space b (h 0 (omega arith))) (ap (longer b) (parts_last x (λ i l. h (suc i) (omega arith))))

parts_cut : (x y : List ℕ) → NoSpace x → parts (x ++ (32 ∷ y)) ≡ x ∷ parts y
parts_cut [] y h = refl
parts_cut (b ∷ x) y h =
    rw (not_space b (h 0 (omega arith))) (ap (longer b) (parts_cut x y (λ i l. h (suc i) (omega arith))))

-- a text without spaces is one word, or none if it is empty
pub words_last : (x : List ℕ) → NoSpace x → words x ≡ with_word x []
words_last x h = ap filled (parts_last x h)

-- a text up to its first space, and the words after that space
pub words_cut : (x y : List ℕ) → NoSpace x → words (x ++ (32 ∷ y)) ≡ with_word x (words y)
words_cut x y h = ap filled (parts_cut x y h)

-- a part that is not empty comes first among the words
pub word_found : (text rest x y : List ℕ) → words text ≡ words rest → length rest ≤ length text → rest ≡ x ++ (32 ∷ y) → NoSpace x → eqb (length x) 0 ≡ false → (words text ≡ x ∷ words y) × (length y < length text)
word_found text rest [] y same less e h k = absurd (subst T k tt)
word_found text rest (b ∷ x) y same less e h k =
    (same ∙ ap words e ∙ words_cut (b ∷ x) y h, omega (arith, ap length e, length-append (b ∷ x) (32 ∷ y)))

-- nothing is left, or one word without a space after it
pub no_word_left : (text rest : List ℕ) → words text ≡ words rest → NoSpace rest → eqb (length rest) 0 ≡ true → words text ≡ []
no_word_left text [] same h k = same
no_word_left text (b ∷ x) same h k = absurd (subst T (sym k ∙ eqb-suc-zero (length x)) tt)

pub last_word_left : (text rest : List ℕ) → words text ≡ words rest → length rest ≤ length text → NoSpace rest → eqb (length rest) 0 ≡ false → (words text ≡ rest ∷ []) × (0 < length text)
last_word_left text [] same less h k = absurd (subst T k tt)
last_word_left text (b ∷ x) same less h k = (same ∙ words_last (b ∷ x) h, omega arith)

-- what is left without a space is the last word, or none
pub last_found : (rest : Bor (List ℕ)) → NoSpace rest.now → (b : Bool) → b ≡ not (eqb (length rest.now) 0) →
    YieldsFirstRef (λ left. left) (words rest.now) (then_some b rest) []
last_found rest h true e = (last_word_left rest.now rest.now refl (omega arith) h (not-true _ (sym e))).0
last_found rest h false e = (no_word_left rest.now rest.now refl h (not-false _ (sym e)), refl)
