use Rattle.std.proofs.Common.{[], ◌∷◌, Ok}
use Rattle.sqlite.specs.{declared.types.Value.TheVariants.Text, Held.state, State.Executes}
use Rattle.terminal_core.specs.Rows.{removed_from}
use Rattle.office_rows.{specs.Effects.with_change, proofs.Written.delete_placed}
use Rattle.office_tables.proofs.{PairLemmas.delete_place_stays, WritesLemmas.writes_of}
use Rattle.office_rows.proofs.Writing as texts
use Rattle.office_tables.proofs.terminal.delete_place.Goals as goal

pub returns-clause-writes : goal.returns-clause-writes
returns-clause-writes g c =
    let old = state g.S.Store c.args.tx.now.conn.now in
    let new = state g.S.Store c.execute.new.self.conn.now in
    writes_of (with_change (removed_from c.args.container)) old new _ c.execute.ensures.survives (λ clean inside.
    let ran = c.in_ok-execute.ensures.runs clean inside in
    let h : Executes texts.delete_place (Text c.args.container ∷ []) old new (Ok c.in_ok-execute.field-0) = rw (c.characters.ensures, c.text-container.ensures.same) at ran.0 in
    (ran.1, λ rows has. delete_placed old new rows c.in_ok-execute.field-0 has c.args.container h, λ rows has held. delete_place_stays old new rows c.in_ok-execute.field-0 has held _ h))
