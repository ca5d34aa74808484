use Rattle.std.proofs.Common.{map, Ok, string_bytes}
use Rattle.sqlite.specs.Held.{state}
use Rattle.terminal_core.specs.Rows.{change_content}
use Rattle.office_tables.{specs.{Kept.with_kept_reply, Writes.{Writes, WritesIfOpen}, Taken.taken_content}, proofs.WriteLemmas.writes_first}
use Rattle.office_history.specs.Cascade.{with_changes}
use Rattle.office_tables.proofs.writing.write_first.Goals as goal

pub returns-clause-writes : goal.returns-clause-writes
returns-clause-writes g c =
    let a = c.args in
    let taken = a.taken.now in
    let old = state g.S.Store a.tx.now.conn.now in
    let kept = state g.S.Store c.keep_taken.new.tx.conn.now in
    let changed = state g.S.Store c.apply_all.new.tx.conn.now in
    let new = state g.S.Store c.set_next.new.tx.conn.now in
    let first : Writes (with_kept_reply a.partner taken.number a.text.now (string_bytes taken.reply)) old kept (Ok tt) = rw c.as_str.ensures.value at c.in_ok-keep_taken.ensures.writes in
    let second : WritesIfOpen (with_changes (map change_content taken.changes.items)) kept changed (Ok tt) = rw c.deref.ensures.value at c.in_ok-apply_all.ensures.writes in
    writes_first a.partner a.text.now (taken_content taken) old kept changed new tt tt c.set_next.result first second c.set_next.ensures.writes
