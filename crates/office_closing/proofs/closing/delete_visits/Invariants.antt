use Rattle.std.proofs.Common.{◌≡◌, Ok, take}
use Rattle.sqlite.specs.Held.{state}
use Rattle.office_closing.specs.Deleting.{Deletes, without_visits}
use Rattle.office_closing.proofs.closing.delete_visits.Given as goal

abbrev pub invariant-loop-visit : goal.invariant-loop-visit
invariant-loop-visit g l =
    (l.tx.conn.ghost_name ≡ l.fn.tx.conn.ghost_name)
    × Deletes {T = Unit {0}} (without_visits (take l.visit-index l.visits)) (state g.S.Store l.fn.tx.conn.now) (state g.S.Store l.tx.conn.now) (Ok tt)
