-- What head and gates came to is the one outcome of the file.
use Rattle.std.proofs.Common.{vec_items, sym, ◌∙◌}
use Rattle.std.proofs.lemmas.List.{length-map}
use Rattle.std.proofs.lemmas.Result.{err_from_is_err_and}
use Rattle.netlist.specs.Plain.{plain_gate, plain_gates}
use Rattle.netlist.specs.Outcome.{accepted}
use Rattle.netlist.proofs.Files.{one_outcome, layout_determines, only, head_refused, gate_refused, file_accepted}
use Rattle.netlist.proofs.circuit.Circuit.read.Goals as goal

pub returns-in_err-head : goal.returns-in_err-head
returns-in_err-head c =
    let p = err_from_is_err_and c.from_residual.result c.from_residual.ensures.1 in
    let start = c.new-reader in
    record {
      outcome = rw (p.1, p.2) (head_refused c.args.bytes.now start.result start.ensures.place start.ensures.bytes c.in_err-head.field-0.0 c.in_err-head.ensures.taken);
      one = one_outcome;
      layout = layout_determines;
    }

pub returns-in_err-gates : goal.returns-in_err-gates
returns-in_err-gates c =
    let p = err_from_is_err_and c.from_residual-in_err-gates.result c.from_residual-in_err-gates.ensures.1 in
    let start = c.new-reader in
    let head = c.in_ok-head in
    record {
      outcome = rw (p.1, p.2) (gate_refused c.args.bytes.now start.result start.ensures.place start.ensures.bytes c.read_head.new.reader head.head head.ensures.taken c.in_err-gates.field-0.0 c.in_err-gates.ensures.taken);
      one = one_outcome;
      layout = layout_determines;
    }

pub returns : goal.returns
returns c =
    let start = c.new-reader in
    let head = c.in_ok-head in
    let gates = c.in_ok-gates.gates in
    let taken = c.in_ok-gates.ensures.taken in
    let count = length-map (vec_items gates) plain_gate ∙ sym gates.ok.0 ∙ taken.1 in
    record {
      outcome = only c.args.bytes.now (accepted _ _) (rw c.place-used.ensures (file_accepted c.args.bytes.now start.result start.ensures.place start.ensures.bytes c.read_head.new.reader head.head head.ensures.taken (plain_gates (vec_items gates)) c.read_gates.new.reader.at taken.0 count));
      one = one_outcome;
      layout = layout_determines;
    }
