-- The table stays full, and each of its separations well formed.
use Rattle.std.proofs.Common.{rules, ◌≡◌, true, [], get_or, set, Some, sym, subst, w32, of_z, to_z}
use Rattle.std.specs.List.{list_all}
use Rattle.separations.specs.Separations.{Table, held, is_full, is_formed, placed}
use Rattle.separations.proofs.Exact.{placed_full, placed_formed}
use Rattle.separations.proofs.table.Spacings.with_larger.Goals as goal

pub invariant_of-result : goal.invariant_of-result
invariant_of-result c =
    let rows = c.args.self.now.rows in
    let new = c.args.new in
    let put : set rows c.from-a.result
    (set (get_or rows c.from-a.result []) c.from-b.result (Some (to_z w32 (of_z w32 c.larger_than.result))))
    ≡ placed rows new.a new.b new.s = search rules in
    record {
      full = subst (λ (table : Table). is_full table ≡ true) (sym put) (placed_full c.args.self.now new);
      formed = subst (λ (table : Table). list_all is_formed (held table) ≡ true) (sym put) (placed_formed c.args.self.now new);
    }
