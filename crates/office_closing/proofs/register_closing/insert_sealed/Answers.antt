use Rattle.std.proofs.Common.{[], ◌∷◌, Ok}
use Rattle.sqlite.specs.{Held.state, State.Executes}
use Rattle.office_closing.{specs.{Changes.{unchanged, with_sealed}, Register.sealed_content, Stored.{HasWhole, sealed_values}}, proofs.Committing.writes_of}
use Rattle.office_closing.proofs.Inserted.{inserted_sealed}
use Rattle.office_closing.proofs.WriteTexts as texts
use Rattle.office_closing.proofs.register_closing.insert_sealed.Goals as goal

pub returns-clause-writes : goal.returns-clause-writes
returns-clause-writes g c =
    let old = state g.S.Store c.args.tx.now.conn.now in
    let new = state g.S.Store c.execute.new.self.conn.now in
    let one = sealed_content c.args.sealed.now in
    writes_of HasWhole unchanged (with_sealed (one ∷ [])) old new _ c.execute.ensures.survives (λ clean inside.
    let ran = c.in_ok-execute.ensures.runs clean inside in
    let h : Executes texts.insert_sealed (sealed_values one) old new (Ok c.in_ok-execute.field-0) = rw (c.integer.ensures, c.from.ensures, c.characters.ensures, c.as_str.ensures.value, c.deref.ensures.value) at ran.0 in
    (ran.1, λ content has. inserted_sealed old new content c.in_ok-execute.field-0 has one h))
