use Rattle.sqlite.specs.Held.{state}
use Rattle.office_closing.{specs.{Changes.unchanged, Stored.{HasListed, HasTaken}}, proofs.{Committing.writes_to_of, Created.completed_taken}}
use Rattle.office_closing.proofs.register_closing.complete_taken.Goals as goal

pub returns-clause-writes : goal.returns-clause-writes
returns-clause-writes g c =
    let old = state g.S.Store c.args.tx.now.conn.now in
    let new = state g.S.Store c.execute.new.self.conn.now in
    writes_to_of HasListed HasTaken unchanged unchanged old new _ c.execute.ensures.survives (λ clean inside.
    let ran = c.in_ok-execute.ensures.runs clean inside in
    (ran.1, λ content has. completed_taken old new c.in_ok-execute.field-0 content has ran.0))
