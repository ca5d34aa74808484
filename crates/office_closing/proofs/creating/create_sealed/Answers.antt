use Rattle.std.proofs.Common.{[], ◌∷◌, take}
use Rattle.sqlite.specs.Held.{state}
use Rattle.office_rows.specs.Stored.{HasEmpty}
use Rattle.office_tables.proofs.MadeLemmas.{creates_of, makes_one}
use Rattle.office_closing.{specs.{Changes.empty_register, Stored.HasWhole, Tables.{register_tables, sealed_table}}, proofs.Created.created_sealed}
use Rattle.office_closing.proofs.WriteTexts as texts
use Rattle.office_closing.proofs.creating.create_sealed.Goals as goal

pub returns-clause-creates : goal.returns-clause-creates
returns-clause-creates g c =
    let old = state g.S.Store c.args.tx.now.conn.now in
    let new = state g.S.Store c.execute.new.self.conn.now in
    creates_of (sealed_table ∷ []) (HasEmpty (take 5 register_tables)) (HasWhole empty_register) old new _ c.execute.ensures.survives (λ clean inside.
    let ran = c.in_ok-execute.ensures.runs clean inside in
    (ran.1, (λ has. created_sealed old new c.in_ok-execute.field-0 has ran.0), makes_one texts.create_sealed sealed_table texts.sealed_anew.0 texts.sealed_anew.1 texts.sealed_defined old new c.in_ok-execute.field-0 ran.0))
