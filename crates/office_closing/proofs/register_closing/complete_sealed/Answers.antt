use Rattle.sqlite.specs.Held.{state}
use Rattle.office_closing.{specs.{Changes.unchanged, Stored.HasTaken}, proofs.{Committing.writes_of, Created.completed_sealed}}
use Rattle.office_closing.proofs.register_closing.complete_sealed.Goals as goal

pub returns-clause-writes : goal.returns-clause-writes
returns-clause-writes g c =
    let old = state g.S.Store c.args.tx.now.conn.now in
    let new = state g.S.Store c.execute.new.self.conn.now in
    writes_of HasTaken unchanged unchanged old new _ c.execute.ensures.survives (λ clean inside.
    let ran = c.in_ok-execute.ensures.runs clean inside in
    (ran.1, λ content has. completed_sealed old new c.in_ok-execute.field-0 content has ran.0))
