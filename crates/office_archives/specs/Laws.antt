-- The laws of reports of what was put away.
use Rattle.std.specs.Prelude.{◌≡◌, ℕ, ◌≤◌, nat_lt, Bool, true, false, ◌||◌, List, [], ◌∷◌, ◌++◌, Contains, filter, Option, Some, string_bytes}
use Rattle.std.specs.{declared.alloc.Global.Global, declared.string.String.String}
use Rattle.box6346.specs.declared.box_number.BoxNumber.{BoxNumber}
use Rattle.partner_core.specs.Deliveries.{run}
use Rattle.terminal_core.specs.{declared.change.Source.Source, Rows.VisitContent}
use Rattle.office_admission.specs.{Deliveries.deliveries_of, Given.IsGiven, Setups.SetupContent}
use Rattle.office_replies.specs.Events.{Event}
use Rattle.office_rows.specs.Rows.{Interchange, ListingContent, Rows}
use Rattle.office_reports.specs.declared.query.About.{About}
use Rattle.office_history.specs.{After.{AreAfter, content_after, machine_after}, Laws.HasNoMigration}
use Rattle.office_parts.specs.{Archives.{Archive, archive_of, Hold}, Closing.{archived_with, is_closed, MayClose}, LeftOver.rows_beyond}
use Rattle.office_parts.specs.{OwnTerminal.own_terminal, Parts.{Archived, nothing_archived, ArePartsAfter}}
use Rattle.office_parts.specs.OwnLists.{ListName, rows_without_lists, without_lists}
use Rattle.office_report_data.specs.Told.{ReportContent}
use Rattle.office_desk.specs.Reports.{IsText, TellsAbout, partner_called}
use Rattle.office_archives.specs.{Asked.{IsOfNumberBetween, KeepsNumber}, Beyond.IsOfNumberBeyond, Closed.{closed_contrl, closed_reply, closed_ticket}}
use Rattle.office_archives.specs.{Copies.{GoByNumbers, IsCopy, AreCopies, newest_closed}, Counted.{IsOfPartners, TellsOwnMetrics}}
use Rattle.office_archives.specs.{Stayed.{GoOldestFirst, PutsAwayOver, TellsWhatStays, container_if_there}, Visits.{visits_by, IsVisitWithin}}
use Rattle.office_reports.specs.declared.query.About.TheVariants as about

-- ---- what an interchange did, and what is kept of it

-- each visit was opened by an interchange that was taken, and closed by one if it is over
abbrev pub VisitsAreOfTaken : Type 0
VisitsAreOfTaken =
    (content : SetupContent) (es : List Event) (rows : Rows) (visit : VisitContent) → AreAfter content es rows →
    Contains rows.visits visit → IsVisitWithin (run (deliveries_of content es)) visit

-- what comes later opens and closes no visit of an interchange that was taken
abbrev pub LaterLeaveVisits : Type 0
LaterLeaveVisits =
    (content : SetupContent) (earlier later : List Event) (before after : Rows) (source : Source) →
    HasNoMigration later → AreAfter content earlier before → AreAfter content (earlier ++ later) after →
    source.number ≤ run (deliveries_of content earlier) source.partner
    → visits_by source after.visits ≡ visits_by source before.visits

-- the text and the reply of a number that was taken stay as they are
abbrev pub LaterKeepNumbers : Type 0
LaterKeepNumbers =
    (content : SetupContent) (earlier later : List Event) (before after : Rows) (partner number : ℕ) →
    HasNoMigration later → AreAfter content earlier before → AreAfter content (earlier ++ later) after → 1 ≤ number →
    number ≤ run (deliveries_of content earlier) partner → KeepsNumber before after partner number

-- each visit that a closed number opened or closed is in its archive, as that interchange knows it, and no other is
abbrev pub ArchivesTellVisits : Type 0
ArchivesTellVisits =
    (content : SetupContent) (es : List Event) (archives : List Archive) (archive : Archive) (whole : Rows)
    (partner number : ℕ) → AreAfter content es whole → AreCopies content es (λ partner. 0) archives → 1 ≤ number →
    archive_of archives partner number ≡ Some archive
    → visits_by (record { partner = partner; number = number }) archive.rows.visits
    ≡ visits_by (record { partner = partner; number = number }) whole.visits

-- ---- numbers that are closed

-- what archives tell as the reply and the CONTRL of the partner's number is what the rows after the events tell
pub record RepliesAreTold (content : SetupContent) (es : List Event) (archives : List Archive) (whole : Rows)
    (code : String Global) (partner number : ℕ) : Type 0 where
  pub reply : TellsAbout (content_after content es) (machine_after content es).terminal whole (about.Reply code number)
      (closed_reply archives (string_bytes code) partner number)
  pub contrl : TellsAbout (content_after content es) (machine_after content es).terminal whole (about.Contrl code number)
      (closed_contrl archives (string_bytes code) partner number)

abbrev pub ArchivesTellReplies : Type 0
ArchivesTellReplies =
    (content : SetupContent) (es : List Event) (archives : List Archive) (archived : Archived) (own whole : Rows)
    (code : String Global) (partner number : ℕ) → ArePartsAfter content es archived own whole → Hold archives archived →
    partner_called (content_after content es) (string_bytes code) ≡ Some partner → 1 ≤ number →
    number ≤ archived.last_closed partner → RepliesAreTold content es archives whole code partner number

-- so is what they tell as its ticket, if they are copies
abbrev pub ArchivesTellTickets : Type 0
ArchivesTellTickets =
    (content : SetupContent) (es : List Event) (archives : List Archive) (archived : Archived) (own whole : Rows)
    (code : String Global) (partner number : ℕ) → ArePartsAfter content es archived own whole → Hold archives archived →
    AreCopies content es (λ partner. 0) archives →
    partner_called (content_after content es) (string_bytes code) ≡ Some partner → 1 ≤ number →
    number ≤ archived.last_closed partner
    → TellsAbout (content_after content es) (machine_after content es).terminal whole (about.Ticket code number)
    (closed_ticket archives (string_bytes code) partner number)

-- An archive that is a copy may be asked as the store that it was, for each number that it closed: what it reports is what
-- the rows after all events report.
abbrev pub ArchivesAreAskedAsStores : Type 0
ArchivesAreAskedAsStores =
    (content : SetupContent) (es : List Event) (closed_before : ℕ → ℕ) (archive : Archive) (whole : Rows) (asked : About)
    (told : Option ReportContent) → AreAfter content es whole → (copy : IsCopy content es closed_before archive) →
    IsOfNumberBetween (content_after content es) closed_before archive.last_closed asked →
    TellsAbout (content_after content copy.earlier)
    (without_lists copy.away (own_terminal copy.archived.stays (machine_after content copy.earlier).terminal))
    archive.rows asked told
    → TellsAbout (content_after content es) (machine_after content es).terminal whole asked told

-- ---- all other numbers

-- the reply, the CONTRL and the ticket of a number that is not closed are reported by the store's own rows as by the whole
abbrev pub NumbersBeyondAreToldAlike : Type 0
NumbersBeyondAreToldAlike =
    (content : SetupContent) (es : List Event) (archived : Archived) (own whole : Rows) (asked : About)
    (told : Option ReportContent) → ArePartsAfter content es archived own whole → GoByNumbers archived →
    IsOfNumberBeyond (content_after content es) archived.last_closed asked →
    TellsAbout (content_after content es) (own_terminal archived.stays (machine_after content es).terminal) own asked told
    → TellsAbout (content_after content es) (machine_after content es).terminal whole asked told

-- ---- containers

-- of a container's visits the store reports those that stay, as the whole does
abbrev pub VisitsAreTold : Type 0
VisitsAreTold =
    (content : SetupContent) (es : List Event) (archives : List Archive) (archived : Archived) (own whole : Rows)
    (container : BoxNumber) (told : Option ReportContent) → ArePartsAfter content es archived own whole →
    Hold archives archived →
    TellsAbout (content_after content es) (own_terminal archived.stays (machine_after content es).terminal) own
    (about.Visits container) told
    → TellsWhatStays (content_after content es) archives archived.stays (machine_after content es).terminal container told

-- If of each container's visits the older go first, the store reports where a container is as the whole does; but it
-- reports nothing of one that is not in the yard and whose last visit was put away.
abbrev pub ContainersAreTold : Type 0
ContainersAreTold =
    (content : SetupContent) (es : List Event) (archived : Archived) (own whole : Rows) (container : BoxNumber)
    (told : Option ReportContent) → ArePartsAfter content es archived own whole →
    GoOldestFirst archived.stays whole.visits →
    TellsAbout (content_after content es) (own_terminal archived.stays (machine_after content es).terminal) own
    (about.Container container) told
    → told
    ≡ container_if_there (content_after content es) archived.stays (machine_after content es).terminal container

-- ---- what is counted

-- the partners are reported by the store's own rows as by the whole
abbrev pub PartnersAreToldAlike : Type 0
PartnersAreToldAlike =
    (content : SetupContent) (es : List Event) (archived : Archived) (own whole : Rows) (asked : About)
    (told : Option ReportContent) → ArePartsAfter content es archived own whole → IsOfPartners asked →
    TellsAbout (content_after content es) (own_terminal archived.stays (machine_after content es).terminal) own asked told
    → TellsAbout (content_after content es) (machine_after content es).terminal whole asked told

-- so are the metrics, but for the number of visits
abbrev pub MetricsAreTold : Type 0
MetricsAreTold =
    (content : SetupContent) (es : List Event) (archived : Archived) (own whole : Rows) (told : Option ReportContent) →
    ArePartsAfter content es archived own whole →
    TellsAbout (content_after content es) (own_terminal archived.stays (machine_after content es).terminal) own
    about.Metrics told
    → IsText (TellsOwnMetrics (content_after content es) archived.stays (machine_after content es).terminal whole) told

-- ---- copies

-- a copy of a store as it is now is one, whichever closed interchanges still stand there, and whichever lists are away
abbrev pub CopiesOfNowAreCopies : Type 0
CopiesOfNowAreCopies =
    (content : SetupContent) (es : List Event) (archived : Archived) (own whole rows : Rows) (away : ListName → Bool)
    (last_closed : ℕ → ℕ) (lists : ListName → Option (List ListingContent)) →
    ArePartsAfter content es archived own whole → GoByNumbers archived →
    rows_beyond archived.last_closed rows ≡ rows_without_lists away own →
    ((i : Interchange) → Contains (filter (is_closed archived.last_closed) rows.interchanges) i →
    Contains archived.interchanges i) →
    ((partner : ℕ) → last_closed partner ≤ run (deliveries_of content es) partner)
    → IsCopy content es archived.last_closed (record { rows = rows; last_closed = last_closed; lists = lists })

-- copies stay copies after more events, of which none is a migration
abbrev pub CopiesStay : Type 0
CopiesStay =
    (content : SetupContent) (es later : List Event) (closed_before : ℕ → ℕ) (archives : List Archive) →
    HasNoMigration later → AreCopies content es closed_before archives → AreCopies content (es ++ later) closed_before archives

-- and with one more after them
abbrev pub ClosingsAddCopies : Type 0
ClosingsAddCopies =
    (content : SetupContent) (es : List Event) (closed_before : ℕ → ℕ) (archives : List Archive) (archive : Archive) →
    AreCopies content es closed_before archives → IsCopy content es (newest_closed closed_before archives) archive
    → AreCopies content es closed_before (archives ++ archive ∷ [])

-- ---- closings

-- of a store that was never closed nothing was put away
abbrev pub NothingWentAtFirst : Type 0
NothingWentAtFirst =
    GoByNumbers nothing_archived × ((visits : List VisitContent) → GoOldestFirst nothing_archived.stays visits)

-- If visits went by numbers, they have after a closing that closes all that its archive had taken, and puts away only
-- visits that this archive has.
abbrev pub ClosingsGoByNumbers : Type 0
ClosingsGoByNumbers =
    (content : SetupContent) (es : List Event) (archived : Archived) (own whole : Rows) (archive : Archive)
    (stays : ℕ → Bool) → ArePartsAfter content es archived own whole →
    MayClose content es archived own archive.last_closed stays → GoByNumbers archived →
    (copy : IsCopy content es archived.last_closed archive) →
    ((partner : ℕ) → run (deliveries_of content copy.earlier) partner ≤ archive.last_closed partner) →
    ((visit : VisitContent) → Contains own.visits visit → stays visit.number ≡ false →
    Contains archive.rows.visits visit)
    → GoByNumbers (archived_with archived own archive.last_closed stays)

-- If of each container's visits the older went first, and so they go from the store's own rows, they have gone first after
-- the closing.
abbrev pub ClosingsGoOldestFirst : Type 0
ClosingsGoOldestFirst =
    (content : SetupContent) (es : List Event) (archived : Archived) (own whole : Rows) (last_closed : ℕ → ℕ)
    (stays : ℕ → Bool) → ArePartsAfter content es archived own whole → GoOldestFirst archived.stays whole.visits →
    GoOldestFirst stays own.visits
    → GoOldestFirst (archived_with archived own last_closed stays).stays whole.visits

-- So they go from the store's own rows, if all of these are put away that are over in the archive, but for the newest, and
-- what stays now stayed at the archive's day.
abbrev pub FullClosingsGoOldestFirst : Type 0
FullClosingsGoOldestFirst =
    (content : SetupContent) (es : List Event) (archived : Archived) (own whole : Rows) (closed_before : ℕ → ℕ)
    (archive : Archive) (stays : ℕ → Bool) → IsGiven content → ArePartsAfter content es archived own whole →
    (copy : IsCopy content es closed_before archive) →
    ((number : ℕ) → archived.stays number ≡ true → copy.archived.stays number ≡ true) →
    PutsAwayOver own.visits archive.rows.visits stays → GoOldestFirst stays own.visits

-- And so they go while they are put away in the order of their numbers, up to any of them.
abbrev pub ClearingsGoOldestFirst : Type 0
ClearingsGoOldestFirst =
    (content : SetupContent) (es : List Event) (archived : Archived) (own whole : Rows) (stays : ℕ → Bool) (last : ℕ) →
    IsGiven content → ArePartsAfter content es archived own whole → GoOldestFirst stays own.visits
    → GoOldestFirst (λ number. stays number || nat_lt last number) own.visits
