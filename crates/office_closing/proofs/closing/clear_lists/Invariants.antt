use Rattle.std.proofs.Common.{Ok, map, take}
use Rattle.sqlite.specs.Held.{state}
use Rattle.office_parts.specs.OwnLists.{rows_without_lists}
use Rattle.office_closing.specs.{Lists.list_content, Clearing.{Clears, IsWithoutSomeLists}, Deleting.is_one_of}
use Rattle.office_closing.proofs.closing.clear_lists.Given as goal

abbrev pub invariant-loop-list : goal.invariant-loop-list
invariant-loop-list g l =
    Clears {T = Unit {0}} (rows_without_lists (is_one_of (take l.list-index (map list_content l.lists)))) (IsWithoutSomeLists (is_one_of (map list_content l.lists))) (state g.S.Store l.fn.conn) (state g.S.Store l.conn) (Ok tt)
