use Rattle.std.proofs.Common.{◌≡◌, ℕ, List, Option, None, Some, option_map, string_bytes, ap, ◌∙◌}
use Rattle.office_rows.proofs.Creating.{if_ok}
use Rattle.serde_json.specs.Written.{compact_text}
use Rattle.office_reports.specs.{declared.query.View.View, declared.query.View.TheVariants.{Text, Json, Csv, Page}}
use Rattle.office_report_data.specs.{Archives.{ToldContent, told_data, with_archives as with_member}, Calls.calls_object, Containers.container_object}
use Rattle.office_report_data.specs.{Visits.visits_object, Told.{ReportContent, shown}}
use Rattle.office_archives.{specs.Telling.{AreAsked, AreEnded, json_beside, shown_beside, with_archives, with_note}, proofs.Noted.asked_end}
use Rattle.office_report_data.specs.Told as value
use Rattle.office_archives.proofs.archives.with_archives.Goals as goal

line_beside : (view : View) (count : ℕ) (told found : Option (List ℕ)) (what : Option ReportContent) → view ≡ Text → found ≡ with_archives count told → told ≡ option_map (shown view) what → found ≡ shown_beside count view what
line_beside Text count told found what same is shows = is ∙ ap (with_archives count) shows
line_beside Json count told found what same is shows = absurd cc
line_beside Csv count told found what same is shows = absurd cc
line_beside Page count told found what same is shows = absurd cc

-- what is told of these is an object
json_told : (count : ℕ) (what : Option ReportContent) (told found : Option (List ℕ)) → AreAsked what → told ≡ option_map (shown Json) what
    → ((its : Option ToldContent) → told ≡ option_map (λ content. compact_text (told_data content)) its → found ≡ option_map compact_text (with_member count its)) → found ≡ json_beside count what
unfolding shown
json_told count None told found asks shows makes = makes None shows
json_told count (Some (value.container report lists visits)) told found asks shows makes = makes (Some (container_object report)) shows
json_told count (Some (value.visits report)) told found asks shows makes = makes (Some (visits_object report)) shows
json_told count (Some (value.calls lists)) told found asks shows makes = makes (Some (calls_object lists)) shows
json_told count (Some other) told found asks shows makes = absurd asks

member_beside : (view : View) (count : ℕ) (told found : Option (List ℕ)) (what : Option ReportContent) → view ≡ Json → AreAsked what → told ≡ option_map (shown view) what
    → ((its : Option ToldContent) → told ≡ option_map (λ content. compact_text (told_data content)) its → found ≡ option_map compact_text (with_member count its)) → found ≡ shown_beside count view what
member_beside Text count told found what same asks shows makes = absurd cc
member_beside Json count told found what same asks shows makes = json_told count what told found asks shows makes
member_beside Csv count told found what same asks shows makes = absurd cc
member_beside Page count told found what same asks shows makes = absurd cc

table_beside : (view : View) (count : ℕ) (told : Option (List ℕ)) (what : Option ReportContent) → view ≡ Csv → told ≡ option_map (shown view) what → told ≡ shown_beside count view what
table_beside Text count told what same shows = absurd cc
table_beside Json count told what same shows = absurd cc
table_beside Csv count told what same shows = shows
table_beside Page count told what same shows = absurd cc

note_beside : (view : View) (count : ℕ) (told found : Option (List ℕ)) (what : Option ReportContent) → view ≡ Page → AreAsked what → told ≡ option_map (shown view) what
    → ((page : Option (List ℕ)) → AreEnded page → told ≡ page → found ≡ option_map (with_note count) page) → found ≡ shown_beside count view what
note_beside Text count told found what same asks shows makes = absurd cc
note_beside Json count told found what same asks shows makes = absurd cc
note_beside Csv count told found what same asks shows makes = absurd cc
note_beside Page count told found what same asks shows makes = makes (option_map (shown Page) what) (asked_end what asks) shows

pub returns-in-Text : goal.returns-in-Text
returns-in-Text c =
    if_ok c.with_line.result (λ found is what asks shows. line_beside c.args.view c.args.count (option_map string_bytes c.args.told) (option_map string_bytes found) what c.in-Text.is is shows)
    c.with_line.ensures

pub returns-in-Json : goal.returns-in-Json
returns-in-Json c =
    if_ok c.with_archives.result (λ found makes what asks shows. member_beside c.args.view c.args.count (option_map string_bytes c.args.told) (option_map string_bytes found) what c.in-Json.is asks shows makes)
    c.with_archives.ensures

pub returns-in-Csv : goal.returns-in-Csv
returns-in-Csv c what asks shows = table_beside c.args.view c.args.count (option_map string_bytes c.args.told) what c.in-Csv.is shows

pub returns-in-Page : goal.returns-in-Page
returns-in-Page c =
    if_ok c.with_note.result (λ found makes what asks shows. note_beside c.args.view c.args.count (option_map string_bytes c.args.told) (option_map string_bytes found) what c.in-Page.is asks shows makes)
    c.with_note.ensures
