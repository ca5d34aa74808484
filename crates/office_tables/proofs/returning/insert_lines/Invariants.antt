use Rattle.std.proofs.Common.{◌≡◌, Ok, take, map}
use Rattle.sqlite.specs.Held.{state}
use Rattle.office_rows.specs.{Rows.listing_content, Opening.with_lines}
use Rattle.office_tables.specs.Writes.{WritesIfOpen}
use Rattle.office_tables.proofs.returning.insert_lines.Given as goal

abbrev pub invariant-loop-line : goal.invariant-loop-line
invariant-loop-line g l =
    (l.tx.conn.ghost_name ≡ l.fn.tx.conn.ghost_name)
    × WritesIfOpen {T = Unit {0}} (with_lines (map listing_content (take l.line-index l.lines))) (state g.S.Store l.fn.tx.conn.now) (state g.S.Store l.tx.conn.now) (Ok tt)
