-- Only places without a spacing were passed over.
use Rattle.std.proofs.Common.{◌≡◌, ◌+◌, ◌*◌, ◌≤◌, true, nat_eq, length}
use Rattle.std.specs.List.{list_all}
use Rattle.separations.specs.Separations.{held_in_row, held_from}
use Rattle.separations.proofs.table.held.IterIterator.next.Given as goal

abbrev pub invariant-loop-place : goal.invariant-loop-place
invariant-loop-place l =
    (l.self-inside.a + length l.self-inside.rows.now ≤ 15)
    × (l.self-inside.b + length l.self-inside.row.now ≤ 16)
    × (list_all (λ row. nat_eq (length row) 16) l.self-inside.rows.now ≡ true)
    × (held_in_row l.self-inside.a l.self-inside.b l.self-inside.row.now (held_from (l.self-inside.a + 1) l.self-inside.rows.now)
    ≡ l.fn.self)

abbrev pub decreases-loop-place : goal.decreases-loop-place
decreases-loop-place l = length l.self-inside.row.now + 17 * length l.self-inside.rows.now
