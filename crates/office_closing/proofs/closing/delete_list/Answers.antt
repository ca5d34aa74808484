use Rattle.std.proofs.Common.{[], ◌∷◌, Ok}
use Rattle.sqlite.specs.{declared.types.Value.TheVariants.Text, Held.state, State.Executes}
use Rattle.edi_messages.specs.Owned.{call_content}
use Rattle.terminal_core.specs.State.{side_code}
use Rattle.office_parts.specs.{Bringing.is_list, OwnLists.{list_name, rows_without_lists}}
use Rattle.office_rows.specs.Values.{number_value}
use Rattle.office_closing.proofs.ClearLemmas as lemma
use Rattle.office_closing.proofs.closing.delete_list.Goals as goal

pub returns-clause-deletes : goal.returns-clause-deletes
returns-clause-deletes g c =
    let old = state g.S.Store c.args.tx.now.conn.now in
    let new = state g.S.Store c.execute.new.self.conn.now in
    let call = call_content c.args.call.now in
    lemma.deletes_of (rows_without_lists (is_list (list_name call c.args.side))) old new _ c.execute.ensures.survives (λ clean inside.
    let ran = c.in_ok-execute.ensures.runs clean inside in
    let h : Executes lemma.delete_list (Text call.vessel ∷ Text call.voyage ∷ number_value (side_code c.args.side) ∷ []) old new (Ok c.in_ok-execute.field-0) =
    rw (c.characters.ensures, c.as_str.ensures.value, c.characters-2.ensures, c.as_str-2.ensures.value, c.integer.ensures, c.side_code.ensures) at ran.0 in
    (ran.1, λ rows has. lemma.deleted_list old new rows c.in_ok-execute.field-0 has call c.args.side h))
