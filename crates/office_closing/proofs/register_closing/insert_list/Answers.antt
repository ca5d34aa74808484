use Rattle.std.proofs.Common.{[], ◌∷◌, Ok}
use Rattle.sqlite.specs.{Held.state, State.Executes}
use Rattle.office_closing.{specs.{Changes.{unchanged, with_lists}, Lists.list_content, Stored.{HasWhole, list_values}}, proofs.Committing.writes_of}
use Rattle.office_closing.proofs.Inserted.{inserted_settled}
use Rattle.office_closing.proofs.WriteTexts as texts
use Rattle.office_closing.proofs.register_closing.insert_list.Goals as goal

pub returns-clause-writes : goal.returns-clause-writes
returns-clause-writes g c =
    let old = state g.S.Store c.args.tx.now.conn.now in
    let new = state g.S.Store c.execute.new.self.conn.now in
    let one = list_content c.args.list.now in
    writes_of HasWhole unchanged (with_lists (one ∷ [])) old new _ c.execute.ensures.survives (λ clean inside.
    let ran = c.in_ok-execute.ensures.runs clean inside in
    let h : Executes texts.insert_settled (list_values one) old new (Ok c.in_ok-execute.field-0) = rw (c.characters.ensures, c.as_str.ensures.value, c.characters-2.ensures, c.as_str-2.ensures.value, c.integer.ensures, c.side_code.ensures, c.integer-2.ensures, c.from.ensures, c.characters-3.ensures, c.as_str-3.ensures.value) at ran.0 in
    (ran.1, λ content has. inserted_settled old new content c.in_ok-execute.field-0 has one h))
