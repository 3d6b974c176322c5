-- A word more is a class more, or shows that the words are not all classes.
use Rattle.std.proofs.Common.{rules}
use Rattle.gatelines.proofs.Pins.{held_more, none_lettered}
use Rattle.gatelines.proofs.line.read_pins.Goals as goal

pub returns-in_err-class : goal.returns-in_err-class
returns-in_err-class c =
    let none = none_lettered _ _ _ c.in-Some.word.now c.loop-word.pins.items c.loop-word.added c.in-Some.ensures.steps (search rules) c.loop-word.invariant in
    search rules

pub loop-word-preserved : goal.loop-word-preserved
loop-word-preserved c =
    held_more _ _ _ c.in-Some.word.now c.loop-word.pins.items _ c.loop-word.added _ c.in_ok-class.class c.in-Some.ensures.steps (search rules) c.add-added.ensures c.loop-word.invariant
