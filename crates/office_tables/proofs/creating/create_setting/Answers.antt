use Rattle.std.proofs.Common.{[], ◌∷◌, take}
use Rattle.sqlite.specs.Held.{state}
use Rattle.office_rows.{specs.{Tables.{office_tables, setting_table}, Stored.HasEmpty}, proofs.Reading.created_setting}
use Rattle.office_tables.proofs.MadeLemmas.{creates_of, makes_one, setting_anew}
use Rattle.office_rows.proofs.Creating as texts
use Rattle.office_tables.proofs.creating.create_setting.Goals as goal

pub returns-clause-creates : goal.returns-clause-creates
returns-clause-creates g c =
    let old = state g.S.Store c.args.tx.now.conn.now in
    let new = state g.S.Store c.execute.new.self.conn.now in
    creates_of (setting_table ∷ []) (HasEmpty (take 5 office_tables)) (HasEmpty (take 6 office_tables)) old new _ c.execute.ensures.survives (λ clean inside.
    let ran = c.in_ok-execute.ensures.runs clean inside in
    (ran.1, (λ has. created_setting old new c.in_ok-execute.field-0 has ran.0), makes_one texts.create_setting setting_table setting_anew.0 setting_anew.1 texts.setting_defined old new c.in_ok-execute.field-0 ran.0))
