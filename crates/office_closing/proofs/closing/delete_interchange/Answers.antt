use Rattle.std.proofs.Common.{[], ◌∷◌, Ok}
use Rattle.sqlite.specs.{Held.state, State.Executes}
use Rattle.office_rows.specs.Values.{number_value}
use Rattle.office_closing.specs.Deleting.{without_interchange}
use Rattle.office_closing.proofs.ClearLemmas as lemma
use Rattle.office_closing.proofs.closing.delete_interchange.Goals as goal

pub returns-clause-deletes : goal.returns-clause-deletes
returns-clause-deletes g c =
    let old = state g.S.Store c.args.tx.now.conn.now in
    let new = state g.S.Store c.execute.new.self.conn.now in
    lemma.deletes_of (without_interchange c.args.partner c.args.number) old new _ c.execute.ensures.survives (λ clean inside.
    let ran = c.in_ok-execute.ensures.runs clean inside in
    let h : Executes lemma.delete_interchange (number_value c.args.partner ∷ number_value c.args.number ∷ []) old new (Ok c.in_ok-execute.field-0) = rw (c.integer.ensures, c.integer-2.ensures, c.from.ensures) at ran.0 in
    (ran.1, λ rows has. lemma.deleted_interchange old new rows c.in_ok-execute.field-0 has c.args.partner c.args.number h))
