-- Each place is asked in turn.
use Rattle.std.proofs.Common.{length, rules, tests}
use Rattle.netlist.specs.Plain.{plain_gate}
use Rattle.settling.proofs.Places.{other_by_any}
use Rattle.settling.proofs.pin.Pin.has_holder.Goals as goal

pub returns : goal.returns
returns g c = other_by_any _ _ (length (plain_gate c.args.self.now.at.now.gate.now).pins) c.any.ensures.ran (cc) (λ k b q h. search (rules, tests))
