use Rattle.std.proofs.Common.{[], ◌∷◌, Ok}
use Rattle.sqlite.specs.{Held.state, State.Executes}
use Rattle.office_rows.{specs.{Values.partner_values, Opening.with_partners}, proofs.Written.inserted_partner}
use Rattle.office_tables.proofs.{PairLemmas.insert_partner_stays, WritesLemmas.writes_of}
use Rattle.office_rows.proofs.Writing as texts
use Rattle.office_tables.proofs.settings.insert_account.Goals as goal

pub returns-clause-writes : goal.returns-clause-writes
returns-clause-writes g c =
    let old = state g.S.Store c.args.tx.now.conn.now in
    let new = state g.S.Store c.execute.new.self.conn.now in
    writes_of (with_partners (record { id = c.args.id; code = c.args.code.now; kind = c.args.kind; next = c.args.next } ∷ [])) old new _ c.execute.ensures.survives (λ clean inside.
    let ran = c.in_ok-execute.ensures.runs clean inside in
    let h : Executes texts.insert_partner (partner_values (record { id = c.args.id; code = c.args.code.now; kind = c.args.kind; next = c.args.next })) old new (Ok c.in_ok-execute.field-0) = rw (c.integer.ensures, c.characters.ensures, c.as_bytes.ensures.value, c.integer-2.ensures, c.kind_code.ensures, c.integer-3.ensures) at ran.0 in
    (ran.1, λ rows has. inserted_partner old new rows c.in_ok-execute.field-0 has (record { id = c.args.id; code = c.args.code.now; kind = c.args.kind; next = c.args.next }) h, λ rows has held. insert_partner_stays old new rows c.in_ok-execute.field-0 has held _ h))
