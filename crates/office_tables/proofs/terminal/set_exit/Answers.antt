use Rattle.std.proofs.Common.{[], ◌∷◌, Ok}
use Rattle.sqlite.specs.{declared.types.Value.TheVariants.Text, Held.state, State.Executes}
use Rattle.edi_syntax.specs.Moments.{moment_digits}
use Rattle.terminal_core.specs.Rows.{visit_closed}
use Rattle.office_rows.{specs.{Values.{number_value, way_code}, Effects.with_change}, proofs.Written.update_exitd}
use Rattle.office_tables.proofs.{PairLemmas.update_exit_stays, WritesLemmas.writes_of}
use Rattle.office_rows.proofs.Writing as texts
use Rattle.office_tables.proofs.terminal.set_exit.Goals as goal

pub returns-clause-writes : goal.returns-clause-writes
returns-clause-writes g c =
    let old = state g.S.Store c.args.tx.now.conn.now in
    let new = state g.S.Store c.execute.new.self.conn.now in
    writes_of (with_change (visit_closed c.args.visit c.args.departure)) old new _ c.execute.ensures.survives (λ clean inside.
    let ran = c.in_ok-execute.ensures.runs clean inside in
    let h : Executes texts.update_exit (number_value c.args.visit ∷ number_value (way_code c.args.departure.way) ∷ number_value c.args.departure.source.partner ∷ number_value c.args.departure.source.number ∷ Text (moment_digits c.args.departure.moment) ∷ []) old new (Ok c.in_ok-execute.field-0) = rw (c.integer.ensures, c.integer-2.ensures, c.way_code.ensures, c.integer-3.ensures, c.integer-4.ensures, c.characters.ensures, c.digits-at.ensures.written, c.from.ensures) at ran.0 in
    (ran.1, λ rows has. update_exitd old new rows c.in_ok-execute.field-0 has c.args.visit c.args.departure h, λ rows has held. update_exit_stays old new rows c.in_ok-execute.field-0 has held _ h))
