use Rattle.std.proofs.Common.{[], ◌∷◌, Ok}
use Rattle.sqlite.specs.{declared.types.Value.TheVariants.Text, Held.state, State.Executes}
use Rattle.edi_messages.specs.Owned.{call_content}
use Rattle.terminal_core.specs.{State.side_code, Rows.line_done}
use Rattle.office_rows.{specs.{Values.number_value, Effects.with_change}, proofs.Written.update_doned}
use Rattle.office_tables.proofs.{PairLemmas.update_done_stays, WritesLemmas.writes_of}
use Rattle.office_rows.proofs.Writing as texts
use Rattle.office_tables.proofs.terminal.set_done.Goals as goal

pub returns-clause-writes : goal.returns-clause-writes
returns-clause-writes g c =
    let old = state g.S.Store c.args.tx.now.conn.now in
    let new = state g.S.Store c.execute.new.self.conn.now in
    writes_of (with_change (line_done (call_content c.args.call.now) c.args.side c.args.container)) old new _ c.execute.ensures.survives (λ clean inside.
    let ran = c.in_ok-execute.ensures.runs clean inside in
    let h : Executes texts.update_done (Text (call_content c.args.call.now).vessel ∷ Text (call_content c.args.call.now).voyage ∷ number_value (side_code c.args.side) ∷ Text c.args.container ∷ []) old new (Ok c.in_ok-execute.field-0) = rw (c.characters.ensures, c.as_bytes.ensures.value, c.characters-2.ensures, c.as_bytes-2.ensures.value, c.integer.ensures, c.side_code.ensures, c.characters-3.ensures, c.text-container.ensures.same) at ran.0 in
    (ran.1, λ rows has. update_doned old new rows c.in_ok-execute.field-0 has (call_content c.args.call.now) c.args.side c.args.container h, λ rows has held. update_done_stays old new rows c.in_ok-execute.field-0 has held _ h))
