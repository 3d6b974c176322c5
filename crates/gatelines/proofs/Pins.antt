-- The pins of a line, read one word after the other. Assumes nothing.
use Rattle.std.proofs.Common.{◌≡◌, ℕ, ◌<◌, List, [], ◌∷◌, ◌++◌, map, length, Ok, Err, Result, MatchResult, sym, ap, ◌∙◌, append_assoc, arith}
use Rattle.std.proofs.lemmas.List.{length_push, map_push}
use Rattle.classes.specs.declared.class.Class.{Class}
use Rattle.classes.specs.Class.{letters, NoneLettered}
use Rattle.gatelines.specs.declared.fault.LineFault.{LineFault}
use Rattle.gatelines.specs.declared.fault.LineFault.TheVariants.{TooManyPins}
use Rattle.gatelines.specs.Line.{Classes}

-- what adding one more class to the pins does
abbrev pub Adds : List Class → List Class → Class → Result (Unit {0}) LineFault → Type 0
Adds old new c r = MatchResult r (λ _. (length old < 8) × (new ≡ old ++ c ∷ [])) (λ e. (e ≡ TooManyPins) × (new ≡ old) × (length old ≡ 8))

-- the pins are these classes, if the last of them was added; if not, there are more than eight
abbrev pub Kept : List Class → List Class → Result (Unit {0}) LineFault → Type 0
Kept pins classes r = MatchResult r (λ _. pins ≡ classes) (λ e. (e ≡ TooManyPins) × (8 < length classes) × (length pins ≡ 8))

-- of the words `all` these are left, and the others are classes, kept as pins as far as there is room
pub record Held (all left : List (List ℕ)) (pins : List Class) (added : Result (Unit {0}) LineFault) : Type 0 where
  pub classes : List Class
  pub read : all ≡ map letters classes ++ left
  pub kept : Kept pins classes added

still : (old new classes : List Class) (c : Class) (added next : Result (Unit {0}) LineFault) → Adds old new c next → Kept old classes added → Kept new (classes ++ c ∷ []) next
still old new classes c (Ok u) (Ok v) adds kept = adds.1 ∙ ap (λ cs. cs ++ c ∷ []) kept
still old new classes c (Err e) (Ok v) adds kept = absurd (omega (arith, adds.0, kept.2))
still old new classes c (Ok u) (Err d) adds kept = (adds.0, omega (arith, length_push classes c, ap length kept, adds.2), ap length adds.1 ∙ adds.2)
still old new classes c (Err e) (Err d) adds kept = (adds.0, omega (arith, length_push classes c, kept.1), ap length adds.1 ∙ adds.2)

-- one class more
pub held_more : (all rest left : List (List ℕ)) (w : List ℕ) (old new : List Class) (added next : Result (Unit {0}) LineFault) (c : Class) → rest ≡ w ∷ left → letters c ≡ w
    → Adds old new c next → Held all rest old added → Held all left new next
held_more all rest left w old new added next c first lettered adds h = record {
  classes = h.classes ++ c ∷ [];
  read = h.read ∙ ap (λ ws. map letters h.classes ++ ws) (first ∙ ap (λ x. x ∷ left) (sym lettered))
      ∙ sym (append_assoc (map letters h.classes) (letters c ∷ []) left) ∙ ap (λ ws. ws ++ left) (sym (map_push letters h.classes c));
  kept = still old new h.classes c added next adds h.kept;
}

-- a word that is no class: the words are not those of any classes
pub none_lettered : (all rest left : List (List ℕ)) (w : List ℕ) (pins : List Class) (added : Result (Unit {0}) LineFault) → rest ≡ w ∷ left → NoneLettered w → Held all rest pins added → (cs : List Class) → Classes all cs → ⊥
none_lettered all rest left w pins added first none h cs e =
    other h.classes cs (sym (h.read ∙ ap (λ ws. map letters h.classes ++ ws) first) ∙ e)
  where
    other : (ds cs : List Class) → map letters ds ++ (w ∷ left) ≡ map letters cs → ⊥
    other [] [] p = let z : ◌≡◌ {A = ℕ} 0 1 = cc in omega arith
    other [] (c ∷ cs) p = let q : letters c ≡ w = cc in none c q
    other (d ∷ ds) [] p = let z : ◌≡◌ {A = ℕ} 0 1 = cc in omega arith
    other (d ∷ ds) (c ∷ cs) p = let q : map letters ds ++ (w ∷ left) ≡ map letters cs = cc in other ds cs q
