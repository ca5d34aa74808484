use Rattle.std.proofs.Common.{[], ◌∷◌, Ok}
use Rattle.sqlite.specs.{Held.state, State.Executes}
use Rattle.office_rows.{specs.{Values.setting_values, Opening.{setting_row, with_settings}}, proofs.Written.inserted_setting}
use Rattle.office_tables.proofs.{PairLemmas.insert_setting_stays, WritesLemmas.writes_of}
use Rattle.office_rows.proofs.Writing as texts
use Rattle.office_tables.proofs.settings.insert_setting.Goals as goal

pub returns-clause-writes : goal.returns-clause-writes
returns-clause-writes g c =
    let old = state g.S.Store c.args.tx.now.conn.now in
    let new = state g.S.Store c.execute.new.self.conn.now in
    let one = setting_row c.args.name.now c.args.value.now in
    writes_of (with_settings (one ∷ [])) old new _ c.execute.ensures.survives (λ clean inside.
    let ran = c.in_ok-execute.ensures.runs clean inside in
    let h : Executes texts.insert_setting (setting_values one) old new (Ok c.in_ok-execute.field-0) = rw (c.characters.ensures, c.as_bytes.ensures.value, c.characters-2.ensures) at ran.0 in
    (ran.1, λ rows has. inserted_setting old new rows c.in_ok-execute.field-0 has one h, λ rows has held. insert_setting_stays old new rows c.in_ok-execute.field-0 has held _ h))
