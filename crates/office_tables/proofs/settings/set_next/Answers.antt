use Rattle.std.proofs.Common.{[], ◌∷◌, Ok}
use Rattle.sqlite.specs.{Held.state, State.Executes}
use Rattle.office_rows.{specs.{Values.number_value, Effects.with_next}, proofs.Written.update_nextd}
use Rattle.office_tables.proofs.{PairLemmas.update_next_stays, WritesLemmas.writes_of}
use Rattle.office_rows.proofs.Writing as texts
use Rattle.office_tables.proofs.settings.set_next.Goals as goal

pub returns-clause-writes : goal.returns-clause-writes
returns-clause-writes g c =
    let old = state g.S.Store c.args.tx.now.conn.now in
    let new = state g.S.Store c.execute.new.self.conn.now in
    writes_of (with_next c.args.partner c.args.next) old new _ c.execute.ensures.survives (λ clean inside.
    let ran = c.in_ok-execute.ensures.runs clean inside in
    let h : Executes texts.update_next (number_value c.args.partner ∷ number_value c.args.next ∷ []) old new (Ok c.in_ok-execute.field-0) = rw (c.integer.ensures, c.integer-2.ensures, c.from.ensures) at ran.0 in
    (ran.1, λ rows has. update_nextd old new rows c.in_ok-execute.field-0 has c.args.partner c.args.next h, λ rows has held. update_next_stays old new rows c.in_ok-execute.field-0 has held _ h))
