-- What a store and its archives report together.
use Rattle.std.specs.Prelude.{◌≡◌, ◌⊎◌, ◌==◌, ℕ, ◌≤◌, Bool, true, false, is_some, ◌-◌, List, [], ◌∷◌, ◌++◌, length, take, Option, None, Some, codes, decimal, string_bytes, if◌then◌else◌}
use Rattle.std.specs.Option.{option_map, unwrap_or}
use Rattle.serde_json.specs.Written.{compact_text}
use Rattle.office_replies.specs.Events.{Event}
use Rattle.office_rows.specs.Rows.{Rows}
use Rattle.office_admission.specs.Setups.{SetupContent}
use Rattle.office_reports.specs.{declared.query.About.About, declared.query.Query.Query, declared.query.View.View, Blocks.{AreBlocks, BlocksContent}}
use Rattle.office_reports.specs.{declared.query.View.TheVariants.{Text, Json, Csv, Page}, OpenLines.open_lines, Partners.{PartnerContent, partners_of}}
use Rattle.office_reports.specs.{Names.line, Calls.lists_in}
use Rattle.office_pages.specs.{Archives.archives_note, Fixed.foot, Found.found_page, Start.{StartContent, office_page}, Wanted.expected_page}
use Rattle.office_report_data.specs.{Told.{ReportContent, shown}, Archives.with_archives as with_member, Calls.calls_object, Containers.container_object}
use Rattle.office_report_data.specs.Visits.{visits_object}
use Rattle.office_history.specs.After.{content_after, machine_after}
use Rattle.office_desk.specs.Reports.{AreLookedUp, Shows, TellsAfter, partner_called, partner_if_called}
use Rattle.office_parts.specs.{Archives.Archive, Parts.Archived, Away.lines_away, OwnLists.{ListName, own_lines}, OwnTerminal.own_visits}
use Rattle.edi_messages.specs.{Owned.call_content, Purposes.CallContent}
use Rattle.terminal_core.specs.{declared.lines.Side.Side, State.{Lines, TerminalState, last_number}}
use Rattle.office_archives.specs.{Closed.{closed_contrl, closed_reply}, Copies.{AreCopies, GoByNumbers}, Counted.TellsOwnMetrics, Shelves.archive_at}
use Rattle.office_archives.specs.Stayed.{GoOldestFirst, TellsWhatStays, container_if_there}
use Rattle.office_archives.specs.Keeping.{IsClosedBefore, IsNotClosedBefore, IsReportIn, IsTicketIn, IsValueOf}
use Rattle.std.specs.FinMap as finite_map
use Rattle.office_reports.specs.declared.query.About.TheVariants as about
use Rattle.office_report_data.specs.Told as value

-- ---- containers

-- ARCHIVES k
abbrev pub archives_line : (count : ℕ) → List ℕ
archives_line count = line (codes "ARCHIVES" ∷ decimal count ∷ [])

-- what the store tells, and that line last, if there are any archives
abbrev pub with_archives : (count : ℕ) → Option (List ℕ) → Option (List ℕ)
with_archives count told = if count == 0 then told else Some (unwrap_or told [] ++ archives_line count)

-- what is told beside archives: of a container, its visits or the lists
abbrev pub AreAsked : Option ReportContent → Type 0
AreAsked None = Unit {0}
AreAsked (Some (value.container report lists visits)) = Unit {0}
AreAsked (Some (value.visits report)) = Unit {0}
AreAsked (Some (value.calls lists)) = Unit {0}
AreAsked (Some other) = ⊥

-- what the store tells of these as JSON, with how many archives there are as its first member, if there are any
abbrev pub json_beside : (count : ℕ) → Option ReportContent → Option (List ℕ)
json_beside count None = option_map compact_text (with_member count None)
json_beside count (Some (value.container report lists visits)) =
    option_map compact_text (with_member count (Some (container_object report)))
json_beside count (Some (value.visits report)) = option_map compact_text (with_member count (Some (visits_object report)))
json_beside count (Some (value.calls lists)) = option_map compact_text (with_member count (Some (calls_object lists)))
json_beside count (Some other) = Some (shown Json other)

-- a page with a note of how many archives there are before its end, if there are any
abbrev pub with_note : (count : ℕ) → (page : List ℕ) → List ℕ
with_note count page = take (length page - length foot) page ++ archives_note count ++ foot

-- a page, if there is one, ends as pages do
abbrev pub AreEnded : Option (List ℕ) → Type 0
AreEnded None = Unit {0}
AreEnded (Some page) = (body : List ℕ) × (page ≡ body ++ foot)

-- what the store tells, shown so, with how many archives there are, if there are any; CSV does not tell it
abbrev pub shown_beside : (count : ℕ) → View → Option ReportContent → Option (List ℕ)
shown_beside count Text told = with_archives count (option_map (shown Text) told)
shown_beside count Json told = json_beside count told
shown_beside count Csv told = option_map (shown Csv) told
shown_beside count Page told = option_map (with_note count) (option_map (shown Page) told)

-- it is asked for a container's visits, or where it is
abbrev pub IsOfContainer : About → Type 0
IsOfContainer (about.Visits container) = Unit {0}
IsOfContainer (about.Container container) = Unit {0}
IsOfContainer other = ⊥

-- it is asked for the open lines that name one
abbrev pub IsOfExpected : About → Type 0
IsOfExpected (about.Expected container) = Unit {0}
IsOfExpected other = ⊥

-- ---- lists

-- a list was put away
abbrev pub HasListAway : List Archive → Type 0
HasListAway archives = (list : ListName) × (is_some (lines_away archives list) ≡ true)

-- whether lists were put away with these archives
pub record SaysIfAway (archives : List Archive) (put_away : Bool) : Type 0 where
  pub none : put_away ≡ false → (list : ListName) → lines_away archives list ≡ None
  pub some : put_away ≡ true → HasListAway archives

-- so many are told of as not looked at, if lists were put away
abbrev pub archives_with_lists : List Archive → (put_away : Bool) → ℕ
archives_with_lists archives put_away = if put_away then length archives else 0

-- What the store tells of its lists: of those that are not away, and if lists were put away how many archives there are. What
-- is away was put away.
pub record TellsOwnCalls (archives : List Archive) (lines : Lines) (view : View) (found : Option (List ℕ)) : Type 0 where
  pub away : ListName → Bool
  pub were_put_away : (list : ListName) → away list ≡ true → is_some (lines_away archives list) ≡ true
  pub put_away : Bool
  pub says : SaysIfAway archives put_away
  pub told : found
      ≡ shown_beside (archives_with_lists archives put_away) view
      (Some (value.calls (lists_in (finite_map.entries (own_lines away lines)))))

-- ---- what the store has itself

-- it is asked what a text finds, or what the start page tells
abbrev pub IsOfWhatIsHere : About → Type 0
IsOfWhatIsHere (about.Find typed) = Unit {0}
IsOfWhatIsHere about.Start = Unit {0}
IsOfWhatIsHere other = ⊥

-- A text finds containers in the yard, a partner, and of lists those that are not away. What is away was put away.
pub record TellsOwnFound (now : SetupContent) (archives : List Archive) (stays : ℕ → Bool) (state : TerminalState)
    (typed : List ℕ) (found : Option (List ℕ)) : Type 0 where
  pub away : ListName → Bool
  pub were_put_away : (list : ListName) → away list ≡ true → is_some (lines_away archives list) ≡ true
  pub told : found
      ≡ Some (found_page typed (own_visits stays state.visits) (partner_if_called now typed)
      (lists_in (finite_map.entries (own_lines away state.lines))))

-- what the start page tells, with those of the visits that stay and how many ever were, and of lists those that are not away
abbrev pub own_start : SetupContent → (stays : ℕ → Bool) → (away : ListName → Bool) → TerminalState →
    List PartnerContent → BlocksContent → StartContent
own_start now stays away state partners blocks = record {
  visits = length (own_visits stays state.visits);
  visits_ever = last_number state.visits;
  limit = now.visit_limit;
  partners = partners_of partners;
  lists = lists_in (finite_map.entries (own_lines away state.lines));
  blocks = blocks;
}

-- The start page tells so of the accounts of the whole, and of the blocks. What is away was put away.
pub record TellsOwnStart (now : SetupContent) (archives : List Archive) (stays : ℕ → Bool) (state : TerminalState)
    (whole : Rows) (found : Option (List ℕ)) : Type 0 where
  pub away : ListName → Bool
  pub were_put_away : (list : ListName) → away list ≡ true → is_some (lines_away archives list) ≡ true
  pub partners : List PartnerContent
  pub are : AreLookedUp whole 1 now.partners partners
  pub blocks : BlocksContent
  pub full : AreBlocks state blocks
  pub told : found ≡ Some (office_page now.terminal (own_start now stays away state partners blocks))

-- ---- numbers that are closed

-- it is asked for the reply, the CONTRL or the ticket of that number of the partner with that code
abbrev pub IsOfNumber : About → (code : List ℕ) → (number : ℕ) → Type 0
IsOfNumber (about.Reply partner asked) code number = (string_bytes partner ≡ code) × (asked ≡ number)
IsOfNumber (about.Contrl partner asked) code number = (string_bytes partner ≡ code) × (asked ≡ number)
IsOfNumber (about.Ticket partner asked) code number = (string_bytes partner ≡ code) × (asked ≡ number)
IsOfNumber other code number = ⊥

-- it is asked for the list of a call, or what is left of it
abbrev pub IsOfList : About → CallContent → Side → Type 0
IsOfList (about.List asked on) call side = (call_content asked ≡ call) × (on ≡ side)
IsOfList (about.Work asked on) call side = (call_content asked ≡ call) × (on ≡ side)
IsOfList other call side = ⊥

-- it is asked neither of a container, of lists, of what the store has itself, nor of a number
abbrev pub IsOfNeither : About → Type 0
IsOfNeither (about.Visits container) = ⊥
IsOfNeither (about.Container container) = ⊥
IsOfNeither (about.List call side) = ⊥
IsOfNeither (about.Work call side) = ⊥
IsOfNeither about.Calls = ⊥
IsOfNeither (about.Expected container) = ⊥
IsOfNeither (about.Find typed) = ⊥
IsOfNeither about.Start = ⊥
IsOfNeither (about.Reply code number) = ⊥
IsOfNeither (about.Contrl code number) = ⊥
IsOfNeither (about.Ticket code number) = ⊥
IsOfNeither other = Unit {0}

-- this is what the archives tell of it, shown so
abbrev pub ClosedTells : List Archive → About → View → (code : List ℕ) → (partner number : ℕ) → Option (List ℕ) → Type 0
ClosedTells archives (about.Contrl _ _) view code partner number found =
    found ≡ option_map (shown view) (closed_contrl archives code partner number)
ClosedTells archives (about.Ticket _ _) view code partner number found =
    (ticket : List ℕ) × IsTicketIn archives code partner number view ticket × (found ≡ Some ticket)
ClosedTells archives other view code partner number found =
    found ≡ option_map (shown view) (closed_reply archives code partner number)

abbrev pub TellsClosed : List Archive → Query → (code : List ℕ) → (partner number : ℕ) → Option (List ℕ) → Type 0
TellsClosed archives asked code partner number found = ClosedTells archives asked.about asked.view code partner number found

-- ---- all reports

-- What is reported of it after those events, shown so, where the archives hold what was put away of the whole's rows. Of a
-- container's visits those that stay, and where it is if it stands in the yard or its last visit stays; both with how many
-- archives there are. The metrics and the start page, of visits those that stay; the calls, the start page and what a text
-- finds, of lists those that are not away. All else as the whole tells it; of a ticket if visits went by numbers, and the
-- archives are copies of the store of earlier days.
abbrev pub TogetherTells : SetupContent → List Event → List Archive → Archived → (whole : Rows) → About → View →
    Option (List ℕ) → Type 0
TogetherTells content es archives archived whole (about.Visits container) view found =
    (own : Option ReportContent)
    × TellsWhatStays (content_after content es) archives archived.stays (machine_after content es).terminal container own
    × (found ≡ shown_beside (length archives) view own)
TogetherTells content es archives archived whole (about.Container container) view found =
    GoOldestFirst archived.stays whole.visits
    → found
    ≡ shown_beside (length archives) view
    (container_if_there (content_after content es) archived.stays (machine_after content es).terminal container)
TogetherTells content es archives archived whole (about.Expected container) view found =
    found
    ≡ Some (with_note (length archives)
    (expected_page container (open_lines (machine_after content es).terminal.lines container)))
TogetherTells content es archives archived whole (about.Find typed) view found =
    TellsOwnFound (content_after content es) archives archived.stays (machine_after content es).terminal (string_bytes typed)
    found
TogetherTells content es archives archived whole about.Start view found =
    TellsOwnStart (content_after content es) archives archived.stays (machine_after content es).terminal whole found
TogetherTells content es archives archived whole about.Metrics view found =
    TellsOwnMetrics (content_after content es) archived.stays (machine_after content es).terminal whole found
TogetherTells content es archives archived whole about.Calls view found =
    TellsOwnCalls archives (machine_after content es).terminal.lines view found
TogetherTells content es archives archived whole (about.Reply code number) view found =
    1 ≤ number → Shows (TellsAfter content es (about.Reply code number)) view found
TogetherTells content es archives archived whole (about.Contrl code number) view found =
    1 ≤ number → Shows (TellsAfter content es (about.Contrl code number)) view found
TogetherTells content es archives archived whole (about.Ticket code number) view found =
    1 ≤ number → GoByNumbers archived → AreCopies content es (λ partner. 0) archives →
    Shows (TellsAfter content es (about.Ticket code number)) view found
TogetherTells content es archives archived whole asked view found = Shows (TellsAfter content es asked) view found

-- so it is at a query
abbrev pub TellsTogether : SetupContent → List Event → List Archive → Archived → (whole : Rows) → Query →
    Option (List ℕ) → Type 0
TellsTogether content es archives archived whole asked found =
    TogetherTells content es archives archived whole asked.about asked.view found

-- ---- what one archive reports

-- what the archive's own rows tell, shown so with that count of archives
abbrev pub TellsOwnBeside : List Archive → (place count : ℕ) → Query → Option (List ℕ) → Type 0
TellsOwnBeside archives place count asked found =
    (archive : Archive) → archive_at archives place ≡ Some archive →
    (own : Option ReportContent) × IsValueOf archive.rows asked.about own
    × (found ≡ shown_beside count asked.view own)

-- of lists: so with how many archives there were when it was closed, if lists were put away with them
pub record TellsCallsThen (archives : List Archive) (place : ℕ) (asked : Query) (found : Option (List ℕ)) : Type 0 where
  pub put_away : Bool
  pub says : SaysIfAway (take (place - 1) archives) put_away
  pub told : TellsOwnBeside archives place (archives_with_lists (take (place - 1) archives) put_away) asked found

-- Of a number, of the partner that has the code: what the archive's own rows tell, if it was not closed before; else what its
-- archive tells. Numbers are from 1. If nobody has the code, what the archive's own rows tell.
abbrev pub TellsOwnNumber : List Archive → (place : ℕ) → Query → (code : List ℕ) → (number : ℕ) → Option ℕ →
    Option (List ℕ) → Type 0
TellsOwnNumber archives place asked code number None found = IsReportIn archives place asked found
TellsOwnNumber archives place asked code number (Some partner) found =
    (IsReportIn archives place asked found × (1 ≤ number → IsNotClosedBefore archives place partner number))
    ⊎ (IsClosedBefore archives place partner number × TellsClosed archives asked code partner number found)

-- what the archive at a place tells at a query that is about that, as the store that it was, with the archives before it: of a
-- container with how many they are, of a number by the accounts of this set-up
abbrev pub TellsByAbout : SetupContent → List Archive → (place : ℕ) → About → Query → Option (List ℕ) → Type 0
TellsByAbout content archives place (about.Visits container) asked found =
    TellsOwnBeside archives place (place - 1) asked found
TellsByAbout content archives place (about.Container container) asked found =
    TellsOwnBeside archives place (place - 1) asked found
TellsByAbout content archives place about.Calls asked found = TellsCallsThen archives place asked found
TellsByAbout content archives place (about.Reply code number) asked found =
    TellsOwnNumber archives place asked (string_bytes code) number (partner_called content (string_bytes code)) found
TellsByAbout content archives place (about.Contrl code number) asked found =
    TellsOwnNumber archives place asked (string_bytes code) number (partner_called content (string_bytes code)) found
TellsByAbout content archives place (about.Ticket code number) asked found =
    TellsOwnNumber archives place asked (string_bytes code) number (partner_called content (string_bytes code)) found
TellsByAbout content archives place other asked found = IsReportIn archives place asked found

abbrev pub TellsAsStore : SetupContent → List Archive → (place : ℕ) → Query → Option (List ℕ) → Type 0
TellsAsStore content archives place asked found = TellsByAbout content archives place asked.about asked found

-- there is an archive at that place, the first at 1
abbrev pub IsPlace : List Archive → (place : ℕ) → Type 0
IsPlace archives place = (1 ≤ place) × (place ≤ length archives)

-- it tells so, and where there is none nothing is reported
pub record TellsOfArchive (content : SetupContent) (archives : List Archive) (place : ℕ) (asked : Query)
    (found : Option (List ℕ)) : Type 0 where
  pub tells : IsPlace archives place → TellsAsStore content archives place asked found
  pub nothing : (IsPlace archives place → ⊥) → found ≡ None
