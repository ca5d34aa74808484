use Rattle.std.proofs.Common.{[], ◌∷◌, Ok}
use Rattle.sqlite.specs.{declared.types.Value.TheVariants.Text, Held.state, State.Executes}
use Rattle.box6346.specs.SlotName.{slot_text}
use Rattle.terminal_core.specs.Rows.{moved_to}
use Rattle.office_rows.{specs.Effects.with_change, proofs.Written.update_slotd}
use Rattle.office_tables.proofs.{PairLemmas.update_slot_stays, WritesLemmas.writes_of}
use Rattle.office_rows.proofs.Writing as texts
use Rattle.office_tables.proofs.terminal.set_slot.Goals as goal

pub returns-clause-writes : goal.returns-clause-writes
returns-clause-writes g c =
    let old = state g.S.Store c.args.tx.now.conn.now in
    let new = state g.S.Store c.execute.new.self.conn.now in
    writes_of (with_change (moved_to c.args.container c.args.slot)) old new _ c.execute.ensures.survives (λ clean inside.
    let ran = c.in_ok-execute.ensures.runs clean inside in
    let h : Executes texts.update_slot (Text c.args.container ∷ Text (slot_text c.args.slot) ∷ []) old new (Ok c.in_ok-execute.field-0) = rw (c.characters.ensures, c.text-container.ensures.same, c.characters-2.ensures, c.text-slot.ensures) at ran.0 in
    (ran.1, λ rows has. update_slotd old new rows c.in_ok-execute.field-0 has c.args.container c.args.slot h, λ rows has held. update_slot_stays old new rows c.in_ok-execute.field-0 has held _ h))
