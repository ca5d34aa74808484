use Rattle.std.proofs.{Common.{◌≡◌, ℕ, List, ◌++◌, Option, None, Some, option_map, string_bytes, sym, ap, ◌∙◌}, lemmas.Option.same_Some}
use Rattle.office_pages.specs.{Archives.archives_note, Fixed.foot}
use Rattle.office_archives.{specs.Telling.{AreEnded, with_note}, proofs.Noted.note_before_end}
use Rattle.office_archives.proofs.archives.with_note.Goals as goal

noted : (count : ℕ) (page text : List ℕ) (what : Option (List ℕ)) → AreEnded what → Some page ≡ what → ((body : List ℕ) → page ≡ body ++ foot → text ≡ body ++ archives_note count ++ foot) → Some text ≡ option_map (with_note count) what
noted count page text None ended same makes = cc
noted count page text (Some other) ended same makes =
    ap Some (makes ended.0 (same_Some page other same ∙ ended.1) ∙ sym (note_before_end count ended.0) ∙ ap (with_note count) (sym ended.1))

pub returns-in_ok-with_archives-in-Some : goal.returns-in_ok-with_archives-in-Some
returns-in_ok-with_archives-in-Some c what ended same =
    noted c.args.count (string_bytes c.in-Some.page) (string_bytes c.in_ok-with_archives-in-Some.field-0) what ended (ap (option_map string_bytes) (sym c.in-Some.is) ∙ same)
    (λ body is. c.in_ok-with_archives-in-Some.ensures body (c.as_str.ensures.value ∙ is))

pub returns-in-None : goal.returns-in-None
returns-in-None c what ended same = ap (option_map (with_note c.args.count)) (ap (option_map string_bytes) (sym c.in-None.is) ∙ same)
