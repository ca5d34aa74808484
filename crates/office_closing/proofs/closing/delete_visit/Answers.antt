use Rattle.std.proofs.Common.{[], ◌∷◌, Ok}
use Rattle.sqlite.specs.{Held.state, State.Executes}
use Rattle.office_rows.specs.Values.{number_value}
use Rattle.office_closing.specs.Deleting.{without_visits}
use Rattle.office_closing.proofs.ClearLemmas as lemma
use Rattle.office_closing.proofs.closing.delete_visit.Goals as goal

pub returns-clause-deletes : goal.returns-clause-deletes
returns-clause-deletes g c =
    let old = state g.S.Store c.args.tx.now.conn.now in
    let new = state g.S.Store c.execute.new.self.conn.now in
    lemma.deletes_of (without_visits (c.args.visit ∷ [])) old new _ c.execute.ensures.survives (λ clean inside.
    let ran = c.in_ok-execute.ensures.runs clean inside in
    let h : Executes lemma.delete_visit (number_value c.args.visit ∷ []) old new (Ok c.in_ok-execute.field-0) = rw c.integer.ensures at ran.0 in
    (ran.1, λ rows has. lemma.deleted_visit old new rows c.in_ok-execute.field-0 has c.args.visit h))
