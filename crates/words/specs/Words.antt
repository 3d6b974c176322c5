-- The words of a text: what stands between its spaces. Assumes nothing.
use Rattle.std.specs.Prelude.{ℕ, cond, List, [], ◌∷◌, ◌==◌}

-- one character more at the front of the first part
abbrev pub longer : ℕ → List (List ℕ) → List (List ℕ)
longer b [] = (b ∷ []) ∷ []
longer b (p ∷ ps) = (b ∷ p) ∷ ps

-- the parts of a text between its spaces, empty ones too
abbrev pub parts : List ℕ → List (List ℕ)
parts [] = [] ∷ []
parts (b ∷ bs) = cond (b == 32) ([] ∷ parts bs) (longer b (parts bs))

-- a part before these words, unless it is empty
abbrev pub with_word : List ℕ → List (List ℕ) → List (List ℕ)
with_word [] ws = ws
with_word (b ∷ p) ws = (b ∷ p) ∷ ws

-- the parts that are not empty
abbrev pub filled : List (List ℕ) → List (List ℕ)
filled [] = []
filled (p ∷ ps) = with_word p (filled ps)

-- the words of a text
abbrev pub words : List ℕ → List (List ℕ)
words text = filled (parts text)
