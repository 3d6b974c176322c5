-- Each turn settles one more net.
use Rattle.std.proofs.Common.{◌≡◌, ◌<◌, ◌≤◌, length, ap, ◌∙◌, arith}
use Rattle.netlist.specs.declared.circuit.Circuit.{Circuit}
use Rattle.netlist.specs.Circuit.{net_count}
use Rattle.netlist.specs.View.{plain}
use Rattle.settling.specs.Asked.{asked}
use Rattle.settling.specs.Tables.{circuit_of, classes_of, rows_of}
use Rattle.settling.proofs.Growth.{settled_small}
use Rattle.settling.proofs.Laws.{settled_told}
use Rattle.settling.proofs.Steps.{settled_all, settled_more}
use Rattle.settling.proofs.settling.settle.Goals as goal

pub settle_net-requires : goal.settle_net-requires
settle_net-requires g c =
    let start = c.args.tables.now in
    let within : c.loop-n.n < net_count (circuit_of start) = omega (arith, c.len-n-end.ensures, start.covered) in
    let same = ap (λ (x : Circuit). net_count (plain x)) c.loop-n.invariant.1 in (
      omega (arith, within, same),
      settled_small (asked g.S.OrderSource c.args.source.now start.circuit) (circuit_of start) (classes_of start) start.circuit.valid c.loop-n.n _ (omega arith) c.loop-n.invariant.0,
    )

pub loop-n-preserved : goal.loop-n-preserved
loop-n-preserved g c =
    let start = c.args.tables.now in
    let tables = c.loop-n.tables in
    let done = c.settle_net.ensures in
    let same = ap (λ (x : Circuit). net_count (plain x)) c.loop-n.invariant.1 in
    let within : c.loop-n.n < length (rows_of tables) = omega (arith, c.len-n-end.ensures, start.covered, tables.covered, tables.rows.ok.0) in (
      settled_more g.S.OrderSource c.args.source.now tables.circuit start.circuit (classes_of tables) (classes_of start) (rows_of tables) (rows_of c.settle_net.new.tables) c.loop-n.n
          within c.loop-n.invariant.1 c.loop-n.invariant.2 c.loop-n.invariant.0 done.rows,
      done.circuit ∙ c.loop-n.invariant.1,
      done.classes ∙ c.loop-n.invariant.2,
    )

pub returns : goal.returns
returns g c =
    let start = c.args.tables.now in
    let tables = c.loop-n.tables in
    let same = ap (λ (x : Circuit). net_count (plain x)) c.loop-n.invariant.1 in
    let reached : length (rows_of tables) ≤ c.loop-n.n = omega (arith, c.len-n-end.ensures, start.covered, tables.covered, tables.rows.ok.0) in
    let count : c.loop-n.n ≡ net_count (circuit_of start) = omega (arith, c.len-n-end.ensures, start.covered) in
    let is = settled_all (asked g.S.OrderSource c.args.source.now start.circuit) (circuit_of start) (classes_of start) (rows_of tables) _ c.loop-n.n reached count c.loop-n.invariant.0 in
    let theorems = settled_told g.S.OrderSource.says g.S.OrderSource.held g.met.S.OrderSource.first g.met.S.OrderSource.second
    c.args.source.now (circuit_of start) start.circuit.valid (classes_of start) (rows_of tables) is in
    record { rows = is; circuit = c.loop-n.invariant.1; classes = c.loop-n.invariant.2; means = theorems.means; letters = theorems.letters; fit = theorems.fit }
