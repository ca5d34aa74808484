use Rattle.std.proofs.Common.{◌≡◌, [], ◌∷◌, Ok, subst, refl}
use Rattle.sqlite.specs.{Values.bound, Held.state, State.Executes}
use Rattle.terminal_core.specs.Rows.{visit_content, visit_opened}
use Rattle.office_rows.{specs.{Values.visit_values, Effects.with_change}, proofs.Written.inserted_visit}
use Rattle.office_tables.proofs.{PairLemmas.insert_visit_stays, WritesLemmas.writes_of}
use Rattle.office_rows.proofs.Writing as texts
use Rattle.office_tables.proofs.terminal.insert_columns.Goals as goal

pub returns-clause-writes : goal.returns-clause-writes
returns-clause-writes g c =
    let old = state g.S.Store c.args.tx.now.conn.now in
    let new = state g.S.Store c.execute.new.self.conn.now in
    writes_of (with_change (visit_opened (visit_content c.args.visit.now))) old new _ c.execute.ensures.survives (λ clean inside.
    let ran = c.in_ok-execute.ensures.runs clean inside in
    let same : bound (c.integer.result ∷ c.characters.result ∷ c.characters-2.result ∷ c.integer-2.result ∷ c.characters-3.result ∷ c.integer-3.result ∷ c.integer-4.result ∷ c.integer-5.result ∷ c.characters-4.result ∷ c.characters-5.result ∷ c.integer-6.result ∷ c.integer-7.result ∷ c.integer-8.result ∷ c.characters-6.result ∷ c.integer-9.result ∷ []) ≡ visit_values (visit_content c.args.visit.now) = rw (c.integer.ensures, c.characters.ensures, c.text-container.ensures.same, c.characters-2.ensures, c.text-size.ensures.same, c.integer-2.ensures, c.laden_code.ensures, c.characters-3.ensures, c.as_bytes.ensures.value, c.integer-3.ensures, c.way_code.ensures, c.integer-4.ensures, c.from.ensures, c.integer-5.ensures, c.characters-4.ensures, c.digits-in_at.ensures.written, c.characters-5.ensures, c.text-in_slot.ensures, c.integer-6.ensures, c.requires.by, c.integer-7.ensures, c.from-2.ensures, c.requires.partner, c.integer-8.ensures, c.requires.number, c.characters-6.ensures, c.requires.at, c.integer-9.ensures) refl in
    let h : Executes texts.insert_visit (visit_values (visit_content c.args.visit.now)) old new (Ok c.in_ok-execute.field-0) = subst (λ p. Executes texts.insert_visit p old new (Ok c.in_ok-execute.field-0)) same ran.0 in
    (ran.1, λ rows has. inserted_visit old new rows c.in_ok-execute.field-0 has (visit_content c.args.visit.now) h, λ rows has held. insert_visit_stays old new rows c.in_ok-execute.field-0 has held _ h))
