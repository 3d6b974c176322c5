-- A part before a space is the next word, unless it is empty; so is what is left without a space.
use Rattle.std.proofs.Common.{Some, None, [], sym, refl, ◌∙◌, rules, arith, lit<}
use Rattle.std.proofs.Math.Path.{subst₂}
use Rattle.std.proofs.lemmas.Str.Pattern.{split_parts}
use Rattle.std.proofs.lemmas.Bool.{not-true}
use Rattle.std.specs.Iterator.{YieldsFirstRef}
use Rattle.words.proofs.Parts.{word_found, last_found}
use Rattle.words.proofs.WordsIterator.next.Goals as goal

pub returns-then-is_word-clause-steps : goal.returns-then-is_word-clause-steps
returns-then-is_word-clause-steps c =
    let cut = split_parts 32 c.loop-part.self-inside.left.now (Some (c.in-Some.part, c.in-Some.after)) c.in-Some.ensures.cases (lit< tt) in
    let rest = c.loop-part.self-inside.left.now in
    sym c.self.view_is ∙ c.loop-part.invariant
    ∙ (word_found rest rest c.in-Some.part.now c.in-Some.after.now refl (omega arith) cut.0 cut.1 (not-true _ (sym c.if-is_word.ensures))).0

pub returns-then-is_word-clause-goes : goal.returns-then-is_word-clause-goes
returns-then-is_word-clause-goes c = let first = returns-then-is_word-clause-steps c in search rules

pub returns-clause-steps : goal.returns-clause-steps
returns-clause-steps c =
    let clear = split_parts 32 c.loop-part.self-inside.left.now None c.in_default.ensures.cases (lit< tt) in
    subst₂ (λ ws r. YieldsFirstRef (λ left. left) ws r []) (sym (sym c.self.view_is ∙ c.loop-part.invariant)) (sym c.then_some.ensures)
    (last_found c.loop-part.self-inside.left clear c.is_word-2.result c.is_word-2.ensures)

pub returns-clause-goes : goal.returns-clause-goes
returns-clause-goes c = let first = returns-clause-steps c in search rules
