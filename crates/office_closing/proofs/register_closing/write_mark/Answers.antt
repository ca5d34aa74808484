use Rattle.sqlite.specs.Held.{state}
use Rattle.office_closing.specs.{Changes.{unchanged, unmarked, marked_for}, Stored.{HasRegister, HasWhole}}
use Rattle.office_closing.proofs.Committing.{writes_from, writes_then, writes_if_open}
use Rattle.office_closing.proofs.register_closing.write_mark.Goals as goal

pub returns-clause-writes : goal.returns-clause-writes
returns-clause-writes g c =
    let s0 = state g.S.Store c.args.tx.now.conn.now in
    let s1 = state g.S.Store c.complete_tables.new.tx.conn.now in
    let s2 = state g.S.Store c.insert_mark.new.tx.conn.now in
    let marked = marked_for c.args.file.now in
    let first = writes_from HasRegister unmarked unchanged unchanged s0 s1 _ c.in_ok-complete_tables.ensures.writes in
    writes_then HasRegister unmarked unmarked marked s0 s1 s2 _ c.insert_mark.result first (writes_if_open HasWhole unmarked marked s1 s2 _ c.insert_mark.ensures.writes)
