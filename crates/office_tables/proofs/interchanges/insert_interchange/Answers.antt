use Rattle.std.proofs.Common.{[], ◌∷◌, Ok}
use Rattle.sqlite.specs.{Held.state, State.Executes}
use Rattle.office_rows.{specs.{Values.interchange_values, Opening.{interchange_row, with_interchanges}}, proofs.Written.inserted_whole}
use Rattle.office_rows.proofs.InPlace.{copies_in_place}
use Rattle.office_tables.proofs.{PairLemmas.new_pair, WritesLemmas.writes_of}
use Rattle.office_rows.proofs.Writing as texts
use Rattle.office_tables.proofs.interchanges.insert_interchange.Goals as goal

pub returns-clause-writes : goal.returns-clause-writes
returns-clause-writes g c =
    let old = state g.S.Store c.args.tx.now.conn.now in
    let new = state g.S.Store c.execute.new.self.conn.now in
    let one = interchange_row c.args.partner c.args.number c.args.body.now c.args.reply.now in
    writes_of (with_interchanges (one ∷ [])) old new _ c.execute.ensures.survives (λ clean inside.
    let ran = c.in_ok-execute.ensures.runs clean inside in
    let h : Executes texts.insert_whole (interchange_values one) old new (Ok c.in_ok-execute.field-0) = rw (c.integer.ensures, c.integer-2.ensures, c.characters.ensures, c.as_bytes.ensures.value) at ran.0 in
    (ran.1, λ rows has. inserted_whole old new rows c.in_ok-execute.field-0 has one h, λ rows has held. copies_in_place old new rows c.in_ok-execute.field-0 one has held h))

pub returns-clause-new : goal.returns-clause-new
returns-clause-new g c clean inside rows has =
    let old = state g.S.Store c.args.tx.now.conn.now in
    let new = state g.S.Store c.execute.new.self.conn.now in
    let one = interchange_row c.args.partner c.args.number c.args.body.now c.args.reply.now in
    let ran = c.in_ok-execute.ensures.runs clean inside in
    let h : Executes texts.insert_whole (interchange_values one) old new (Ok c.in_ok-execute.field-0) = rw (c.integer.ensures, c.integer-2.ensures, c.characters.ensures, c.as_bytes.ensures.value) at ran.0 in
    new_pair old new rows c.in_ok-execute.field-0 has one h
