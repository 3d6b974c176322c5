-- The law at the value of the fold; a narrower value that contains every output would have to hold the whole of it.
use Rattle.std.proofs.Common.{sym, subst}
use Rattle.functions.specs.Function.{described}
use Rattle.waveform.specs.Narrowest.{Narrowest}
use Rattle.narrowest.proofs.evaluate_narrowest.Goals as goal

pub returns : goal.returns
returns g c =
    let f = c.args.function in
    let pins = c.args.pins.now in
    let e = c.folded.ensures in
    let n = subst (Narrowest g.V.SwitchingAlgebra.stands (described f).truth pins) (sym e) (g.met.V.NarrowestAlgebra.narrowest f pins) in
    record { value = e; narrowest = n; none_narrower = λ u narrower contains. narrower.1 (n.least u contains) }
