use Rattle.std.proofs.Common.{map, Ok, string_bytes}
use Rattle.sqlite.specs.Held.{state}
use Rattle.terminal_core.specs.Rows.{change_content}
use Rattle.office_rows.specs.Effects.{with_taken}
use Rattle.office_tables.{specs.Writes.{Writes, WritesIfOpen}, proofs.WritesLemmas.if_open_then}
use Rattle.office_history.specs.Cascade.{with_changes}
use Rattle.office_tables.proofs.writing.write_interchange.Goals as goal

pub returns-clause-writes : goal.returns-clause-writes
returns-clause-writes g c =
    let a = c.args in
    let taken = a.taken.now in
    let old = state g.S.Store a.tx.now.conn.now in
    let mid = state g.S.Store c.apply_all.new.tx.conn.now in
    let new = state g.S.Store c.mark_taken.new.tx.conn.now in
    let first : WritesIfOpen (with_changes (map change_content taken.changes.items)) old mid (Ok tt) = rw c.deref.ensures.value at c.in_ok-apply_all.ensures.writes in
    let second : Writes (with_taken a.partner taken.number (string_bytes taken.reply)) mid new c.mark_taken.result = rw c.as_str.ensures.value at c.mark_taken.ensures.writes in
    if_open_then (with_changes (map change_content taken.changes.items)) (with_taken a.partner taken.number (string_bytes taken.reply)) old mid new tt c.mark_taken.result first second
