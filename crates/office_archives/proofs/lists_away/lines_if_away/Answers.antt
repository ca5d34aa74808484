use Rattle.std.specs.{Prelude.String, declared.alloc.Global.Global}
use Rattle.std.proofs.Common.{◌≡◌, ℕ, List, None, Some, Option, true, false, is_some, option_map, string_bytes, map, refl, sym, ap, subst, ◌∙◌}
use Rattle.edi_messages.specs.Owned.{call_content}
use Rattle.office_rows.specs.Rows.{listing_content}
use Rattle.office_desk.{specs.Reports.DeskTells, proofs.LookLemmas.looks_nowhere}
use Rattle.office_parts.specs.OwnLists.{list_name}
use Rattle.office_archives.proofs.Brought.{line_gone, never_away, some_there}
use Rattle.office_archives.proofs.lists_away.lines_if_away.Goals as goal

some_bytes : (o : Option (String Global)) → is_some o ≡ true → (text : List ℕ) × (option_map string_bytes o ≡ Some text)
some_bytes None e = absurd cc
some_bytes (Some text) e = (string_bytes text, refl)

none_bytes : (o : Option (String Global)) → is_some o ≡ false → option_map string_bytes o ≡ None
none_bytes None e = refl
none_bytes (Some text) e = absurd cc

pub returns-in_err-lines-clause-looks : goal.returns-in_err-lines-clause-looks
returns-in_err-lines-clause-looks g c = looks_nowhere g.S.Store c.args.desk.now

-- it was never put away
pub returns-in_default-clause-away : goal.returns-in_default-clause-away
returns-in_default-clause-away g c = λ sound list content es these stands.
    never_away g.S.Store list content es c.args.desk.now stands (list_name (call_content c.args.call.now) c.args.side) (sym (c.in_ok-lines.ensures list these) ∙ ap (option_map (λ lines. map listing_content lines.items)) c.in_default.is)

pub returns-in_default-clause-looks : goal.returns-in_default-clause-looks
returns-in_default-clause-looks g c = looks_nowhere g.S.Store c.args.desk.now

pub returns-in_err-asked-clause-looks : goal.returns-in_err-asked-clause-looks
returns-in_err-asked-clause-looks g c = looks_nowhere g.S.Store c.args.desk.now

-- the store has a line of it
pub returns-then-is_some-clause-away : goal.returns-then-is_some-clause-away
returns-then-is_some-clause-away g c = λ sound list content es these stands.
    some_there g.S.Store list content es c.args.desk.now stands c.in_ok-asked.asked (call_content c.args.call.now) c.args.side (option_map string_bytes c.in_ok-find_report.field-0) (some_bytes c.in_ok-find_report.field-0 (sym c.is_some.ensures ∙ c.if-is_some.true)) c.in_ok-asked.ensures
    (c.in_ok-find_report.ensures.told sound)

-- it has none
pub returns-clause-away : goal.returns-clause-away
returns-clause-away g c = λ sound list content es these stands.
    let desk = c.args.desk.now in
    let call = call_content c.args.call.now in
    let lines = map listing_content c.in-Some.lines.items in
    let put_away = sym (c.in_ok-lines.ensures list these) ∙ ap (option_map (λ lines. map listing_content lines.items)) c.in-Some.is in
    let none = none_bytes c.in_ok-find_report.field-0 (sym c.is_some.ensures ∙ c.if-is_some.false) in (
      line_gone g.S.Store list content es desk stands c.in_ok-asked.asked call c.args.side lines c.in_ok-asked.ensures (subst (DeskTells g.S.Store desk c.in_ok-asked.asked) none (c.in_ok-find_report.ensures.told sound)) put_away,
      put_away,
    )
