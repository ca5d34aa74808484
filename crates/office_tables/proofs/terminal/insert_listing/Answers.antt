use Rattle.std.proofs.Common.{[], ◌∷◌, Ok}
use Rattle.sqlite.specs.{Held.state, State.Executes}
use Rattle.edi_messages.specs.Owned.{call_content}
use Rattle.office_rows.{specs.{Values.line_values, Opening.{listing_row, with_lines}}, proofs.Written.inserted_listed}
use Rattle.office_tables.proofs.{PairLemmas.insert_listed_stays, WritesLemmas.writes_of}
use Rattle.office_rows.proofs.Writing as texts
use Rattle.office_tables.proofs.terminal.insert_listing.Goals as goal

pub returns-clause-writes : goal.returns-clause-writes
returns-clause-writes g c =
    let old = state g.S.Store c.args.tx.now.conn.now in
    let new = state g.S.Store c.execute.new.self.conn.now in
    writes_of (with_lines (listing_row (call_content c.args.call.now) c.args.side c.args.container c.args.port.now c.args.line_state ∷ [])) old new _ c.execute.ensures.survives (λ clean inside.
    let ran = c.in_ok-execute.ensures.runs clean inside in
    let h : Executes texts.insert_listed (line_values (record { call = call_content c.args.call.now; side = c.args.side; container = c.args.container; port = c.args.port.now; state = c.args.line_state })) old new (Ok c.in_ok-execute.field-0) = rw (c.characters.ensures, c.as_bytes.ensures.value, c.characters-2.ensures, c.as_bytes-2.ensures.value, c.integer.ensures, c.side_code.ensures, c.characters-3.ensures, c.text-container.ensures.same, c.characters-4.ensures, c.as_bytes-3.ensures.value, c.integer-2.ensures, c.state_code.ensures) at ran.0 in
    (ran.1, λ rows has. inserted_listed old new rows c.in_ok-execute.field-0 has (record { call = call_content c.args.call.now; side = c.args.side; container = c.args.container; port = c.args.port.now; state = c.args.line_state }) h, λ rows has held. insert_listed_stays old new rows c.in_ok-execute.field-0 has held _ h))
