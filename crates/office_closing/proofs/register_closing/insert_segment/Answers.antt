use Rattle.std.proofs.Common.{[], ◌∷◌, Ok}
use Rattle.sqlite.specs.{Held.state, State.Executes}
use Rattle.office_closing.{specs.{Changes.{unchanged, with_segments}, Stored.{HasWhole, segment_values}}, proofs.Committing.writes_of}
use Rattle.office_closing.proofs.Inserted.{inserted_segment}
use Rattle.office_closing.proofs.WriteTexts as texts
use Rattle.office_closing.proofs.register_closing.insert_segment.Goals as goal

pub returns-clause-writes : goal.returns-clause-writes
returns-clause-writes g c =
    let old = state g.S.Store c.args.tx.now.conn.now in
    let new = state g.S.Store c.execute.new.self.conn.now in
    let one = c.args.segment in
    writes_of HasWhole unchanged (with_segments (one ∷ [])) old new _ c.execute.ensures.survives (λ clean inside.
    let ran = c.in_ok-execute.ensures.runs clean inside in
    let h : Executes texts.insert_segment (segment_values one) old new (Ok c.in_ok-execute.field-0) = rw (c.integer.ensures, c.from.ensures, c.integer-2.ensures, c.from-2.ensures, c.integer-3.ensures) at ran.0 in
    (ran.1, λ content has. inserted_segment old new content c.in_ok-execute.field-0 has one h))
