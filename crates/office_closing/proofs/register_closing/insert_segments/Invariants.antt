use Rattle.std.proofs.Common.{◌≡◌, Ok, take}
use Rattle.sqlite.specs.Held.{state}
use Rattle.office_closing.specs.{Changes.{unchanged, with_segments}, Stored.HasWhole, Transactions.WritesIfOpen}
use Rattle.office_closing.proofs.register_closing.insert_segments.Given as goal

abbrev pub invariant-loop-segment : goal.invariant-loop-segment
invariant-loop-segment g l =
    (l.tx.conn.ghost_name ≡ l.fn.tx.conn.ghost_name)
    × WritesIfOpen {T = Unit {0}} HasWhole unchanged (with_segments (take l.segment-index l.segments)) (state g.S.Store l.fn.tx.conn.now) (state g.S.Store l.tx.conn.now) (Ok tt)
