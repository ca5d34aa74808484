use Rattle.std.proofs.Common.{[], ◌∷◌, Ok}
use Rattle.sqlite.specs.{declared.types.Value.TheVariants.Blob, Held.state, State.Executes}
use Rattle.office_rows.{specs.{Values.number_value, Effects.with_waiting}, proofs.{Written.inserted_interchange, InPlace.keeps_in_place}}
use Rattle.office_tables.proofs.WritesLemmas.{writes_of}
use Rattle.office_rows.proofs.Writing as texts
use Rattle.office_tables.proofs.interchanges.keep.Goals as goal

pub returns-clause-writes : goal.returns-clause-writes
returns-clause-writes g c =
    let old = state g.S.Store c.args.tx.now.conn.now in
    let new = state g.S.Store c.execute.new.self.conn.now in
    writes_of (with_waiting c.args.partner c.args.number c.args.body.now) old new _ c.execute.ensures.survives (λ clean inside.
    let ran = c.in_ok-execute.ensures.runs clean inside in
    let h : Executes texts.insert_interchange (number_value c.args.partner ∷ number_value c.args.number ∷ Blob c.args.body.now ∷ []) old new (Ok c.in_ok-execute.field-0) = rw (c.integer.ensures, c.integer-2.ensures, c.from.ensures) at ran.0 in
    (ran.1, λ rows has. inserted_interchange old new rows c.in_ok-execute.field-0 has c.args.partner c.args.number c.args.body.now h, λ rows has held. keeps_in_place old new rows c.in_ok-execute.field-0 c.args.partner c.args.number c.args.body.now has held h))
