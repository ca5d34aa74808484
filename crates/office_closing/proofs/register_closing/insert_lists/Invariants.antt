use Rattle.std.proofs.Common.{◌≡◌, Ok, map, take}
use Rattle.sqlite.specs.Held.{state}
use Rattle.office_closing.specs.{Changes.{unchanged, with_lists}, Lists.list_content, Stored.HasWhole, Transactions.WritesIfOpen}
use Rattle.office_closing.proofs.register_closing.insert_lists.Given as goal

abbrev pub invariant-loop-list : goal.invariant-loop-list
invariant-loop-list g l =
    (l.tx.conn.ghost_name ≡ l.fn.tx.conn.ghost_name)
    × WritesIfOpen {T = Unit {0}} HasWhole unchanged (with_lists (map list_content (take l.list-index l.lists))) (state g.S.Store l.fn.tx.conn.now) (state g.S.Store l.tx.conn.now) (Ok tt)
