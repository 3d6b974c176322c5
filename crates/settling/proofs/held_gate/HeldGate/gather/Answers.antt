-- Each place is joined in turn.
use Rattle.std.proofs.Common.{length, rules, tests}
use Rattle.netlist.specs.Plain.{plain_gate}
use Rattle.settling.proofs.Places.{gathered_by_fold}
use Rattle.settling.proofs.held_gate.HeldGate.gather.Goals as goal

pub returns : goal.returns
returns c = gathered_by_fold _ (length (plain_gate c.args.self.now.at.gate.now).pins) c.fold.ensures.ran (cc) (λ all place one q h. search (rules, tests))
