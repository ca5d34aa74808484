-- What the desk tells: the reports of the rows that it holds.
use Rattle.std.specs.Prelude.{◌≡◌, ℕ, ◌+◌, ◌-◌, List, [], ◌∷◌, Option, None, Some, IsTrue, decimal, length, option_and_then, option_map, slice_get, string_bytes}
use Rattle.std.specs.List.Sorted.{IsPermutation}
use Rattle.sqlite.specs.{Held.state, State.State}
use Rattle.sqlite_trees.specs.declared.store.Store.{Ghosts}
use Rattle.box6346.specs.declared.box_number.BoxNumber.{BoxNumber}
use Rattle.edi_messages.specs.{declared.codes.PartnerKind.PartnerKind, Owned.call_content}
use Rattle.terminal_core.specs.{Rows.VisitContent, State.{TerminalState, last_number}}
use Rattle.office_replies.specs.Events.{Event}
use Rattle.office_rows.specs.{Opening.tables_version, Rows.Rows}
use Rattle.office_admission.specs.{Parties.partner_from, Setups.{SetupContent, setup_content}}
use Rattle.office_tables.specs.Answers.{IsNextOf}
use Rattle.office_loading.specs.Waiting.{waiting_numbers}
use Rattle.office_history.specs.{After.{AreAfter, content_after, machine_after, parties_in, reply_in}, Cascade.text_in}
use Rattle.office_reports.specs.{Program.program_version, declared.query.About.About, declared.query.Query.Query, declared.query.View.View, Calls.lists_in}
use Rattle.office_reports.specs.{declared.yard.Standing.Standing, Blocks.{AreBlocks, BlocksContent}, Containers.{ContainerContent, container_of}, Work.work_by}
use Rattle.office_reports.specs.{OpenLines.open_lines, Contrls.contrl_in, Listed.AreListed, Lists.{IsOfLines, list_by}, Metrics.{metrics_text, ready_text}}
use Rattle.office_reports.specs.{Partners.{PartnerContent, partners_of, row_of}, Picture.IsPicture, Tickets.ticket_of as told_ticket, Visits.visits_of}
use Rattle.office_reports.specs.Yard.{StandsAt}
use Rattle.office_pages.specs.Start.{StartContent}
use Rattle.office_report_data.specs.Told.{ReportContent, shown}
use Rattle.office_desk.specs.{Offices.DeskHolds, Telling.Holds, declared.desk.Desk.Desk}
use Rattle.std.specs.FinMap as finite_map
use Rattle.office_reports.specs.declared.query.About.TheVariants as about
use Rattle.office_report_data.specs.Told as value

-- ---- values and views

-- what is told as text only, whatever it is shown as
abbrev pub IsText : (Option (List ℕ) → Type 0) → Option ReportContent → Type 0
IsText tells told = (found : Option (List ℕ)) × tells found × (told ≡ option_map value.text found)

-- what is found is a value that is told, shown so
abbrev pub Shows : (tells : Option ReportContent → Type 0) → View → (found : Option (List ℕ)) → Type 0
Shows tells view found = (told : Option ReportContent) × tells told × (found ≡ option_map (shown view) told)

-- they are shown alike, as text, as JSON and as CSV
abbrev pub AreShownAlike : (one other : Option ReportContent) → Type 0
AreShownAlike one other = (view : View) → option_map (shown view) one ≡ option_map (shown view) other

-- the number of the partner of that code
abbrev pub partner_called : SetupContent → List ℕ → Option ℕ
partner_called content code = partner_from 1 code (parties_in content).partners

-- ---- replies

-- what was taken is told with its reply, what waits with the number that is next
abbrev pub answered : (code : List ℕ) → (number next : ℕ) → (reply : Option (List ℕ)) → ReportContent
answered code number next None = value.waiting code number next
answered code number next (Some reply) = value.taken code number reply

-- by the text that is kept and its reply; nothing is reported of what is not kept
abbrev pub TellsReply : Rows → List ℕ → ℕ → ℕ → (text reply : Option (List ℕ)) → (told : Option ReportContent) → Type 0
TellsReply rows code partner number None reply told = told ≡ None
TellsReply rows code partner number (Some text) reply told =
    (next : ℕ) × IsNextOf partner rows next × (told ≡ Some (answered code number next reply))

abbrev pub TellsReplyOf : Rows → List ℕ → ℕ → Option ℕ → (told : Option ReportContent) → Type 0
TellsReplyOf rows code number None told = told ≡ None
TellsReplyOf rows code number (Some partner) told =
    TellsReply rows code partner number (text_in rows partner number) (reply_in rows partner number) told

-- ---- tickets

-- what was taken has a ticket
abbrev pub ticket_if_taken : List VisitContent → List ℕ → ℕ → ℕ → (reply : Option (List ℕ)) → Option ReportContent
ticket_if_taken visits code partner number None = None
ticket_if_taken visits code partner number (Some reply) =
    Some (value.ticket (told_ticket code (record { partner = partner; number = number }) visits))

abbrev pub ticket_of : List VisitContent → Rows → List ℕ → ℕ → Option ℕ → Option ReportContent
ticket_of visits rows code number None = None
ticket_of visits rows code number (Some partner) = ticket_if_taken visits code partner number (reply_in rows partner number)

-- ---- CONTRLs

-- the CONTRL of the reply that is kept, if it was taken
abbrev pub contrl_by : List ℕ → ℕ → List ℕ → Option ReportContent
contrl_by code number reply = option_map (value.contrl code number reply) (contrl_in reply)

abbrev pub contrl_told : List ℕ → ℕ → (reply : Option (List ℕ)) → Option ReportContent
contrl_told code number reply = option_and_then (contrl_by code number) reply

abbrev pub contrl_for_partner : Rows → List ℕ → ℕ → Option ℕ → Option ReportContent
contrl_for_partner rows code number None = None
contrl_for_partner rows code number (Some partner) = contrl_told code number (reply_in rows partner number)

-- ---- partners

-- the partner that has an account under that id: the number that is next, and those of its interchanges that wait for it
pub record IsLookedUp (rows : Rows) (id : ℕ) (account : List ℕ × PartnerKind) (partner : PartnerContent) : Type 0 where
  pub code : partner.code ≡ account.0
  pub kind : partner.kind ≡ account.1
  pub next : IsNextOf id rows partner.next
  pub waiting : IsPermutation (waiting_numbers id partner.next rows) partner.waiting

-- these are the partners that have those accounts, by their ids from this one on
abbrev pub AreLookedUp : Rows → ℕ → List (List ℕ × PartnerKind) → List PartnerContent → Type 0
AreLookedUp rows id [] [] = Unit {0}
AreLookedUp rows id [] (partner ∷ partners) = ⊥
AreLookedUp rows id (account ∷ accounts) [] = ⊥
AreLookedUp rows id (account ∷ accounts) (partner ∷ partners) =
    IsLookedUp rows id account partner × AreLookedUp rows (id + 1) accounts partners

-- it is told of each account, in the order of the ids
abbrev pub TellsPartners : Rows → List (List ℕ × PartnerKind) → (told : Option ReportContent) → Type 0
TellsPartners rows accounts told =
    (partners : List PartnerContent) × AreLookedUp rows 1 accounts partners
    × (told ≡ Some (value.partners (partners_of partners)))

-- it is told of the account under that id, as the report on all partners does; of none there is nothing to tell
abbrev pub TellsPartner : Rows → List (List ℕ × PartnerKind) → Option ℕ → (told : Option ReportContent) → Type 0
TellsPartner rows accounts None told = told ≡ None
TellsPartner rows accounts (Some id) told =
    (account : List ℕ × PartnerKind) × (slice_get accounts (id - 1) ≡ Some account)
    × ((partner : PartnerContent) × IsLookedUp rows id account partner × (told ≡ Some (value.partner (row_of partner))))

-- the number that the next interchange of the partner with that id has, in digits
abbrev pub TellsNext : Rows → Option ℕ → (found : Option (List ℕ)) → Type 0
TellsNext rows None found = found ≡ None
TellsNext rows (Some id) found = (next : ℕ) × IsNextOf id rows next × (found ≡ Some (decimal next))

-- ---- metrics

-- they count the accounts, and what waits of each
abbrev pub TellsMetrics : SetupContent → TerminalState → Rows → (found : Option (List ℕ)) → Type 0
TellsMetrics content state rows found =
    (partners : List PartnerContent) × AreLookedUp rows 1 content.partners partners
    × (found ≡ Some (metrics_text program_version tables_version state content.visit_limit partners))

-- ---- the start page

-- what it tells
abbrev pub start_by : SetupContent → TerminalState → List PartnerContent → BlocksContent → StartContent
start_by content state partners blocks = record {
  visits = length state.visits;
  visits_ever = last_number state.visits;
  limit = content.visit_limit;
  partners = partners_of partners;
  lists = lists_in (finite_map.entries state.lines);
  blocks = blocks;
}

-- it tells of the accounts, and of what waits of each, of the lists and of how full the blocks are
abbrev pub TellsStart : SetupContent → TerminalState → Rows → (told : Option ReportContent) → Type 0
TellsStart content state rows told =
    (partners : List PartnerContent) × AreLookedUp rows 1 content.partners partners
    × ((blocks : BlocksContent) × AreBlocks state blocks
    × (told ≡ Some (value.start content.terminal (start_by content state partners blocks))))

-- ---- the yard and its blocks

abbrev pub TellsYard : TerminalState → (told : Option ReportContent) → Type 0
TellsYard state told =
    (yard : List (List ℕ × Standing)) × AreListed (StandsAt state) yard × (told ≡ Some (value.yard yard))

abbrev pub TellsBlocks : TerminalState → (told : Option ReportContent) → Type 0
TellsBlocks state told = (report : BlocksContent) × AreBlocks state report × (told ≡ Some (value.blocks report))

abbrev pub TellsBlock : TerminalState → (letter : ℕ) → (told : Option ReportContent) → Type 0
TellsBlock state letter told =
    (yard : List (List ℕ × Standing)) × AreListed (StandsAt state) yard × (told ≡ Some (value.block letter yard))

abbrev pub TellsPicture : SetupContent → TerminalState → (told : Option ReportContent) → Type 0
TellsPicture content state told =
    (page : List ℕ) × (told ≡ Some (value.picture page)) × IsPicture state content.terminal content.blocks page

-- ---- a container, and what a text finds

-- with the open lines that name it, and its visits
abbrev pub container_by : SetupContent → TerminalState → BoxNumber → ContainerContent → ReportContent
container_by content state container report =
    value.container report (open_lines state.lines container) (visits_of content state container)

abbrev pub container_told : SetupContent → TerminalState → BoxNumber → Option ReportContent
container_told content state container =
    option_map (container_by content state container) (container_of content state container)

-- the code, if a partner has it
abbrev pub partner_if_called : SetupContent → List ℕ → Option (List ℕ)
partner_if_called content code = option_map (λ id. code) (partner_called content code)

-- ---- all reports

-- what is told, if there is something, is what the rows tell of what is asked about, which are those of that set-up and of
-- that terminal; of a ticket it is shown alike, since a visit that is told there may go on by another interchange
abbrev pub TellsAbout : SetupContent → TerminalState → Rows → About → (told : Option ReportContent) → Type 0
TellsAbout content state rows about.Yard told = TellsYard state told
TellsAbout content state rows (about.Visits container) told = told ≡ option_map value.visits (visits_of content state container)
TellsAbout content state rows (about.List call side) told =
    IsOfLines state (call_content call) side (λ lines. option_map value.list (list_by (call_content call) side lines)) told
TellsAbout content state rows (about.Ticket partner number) told =
    AreShownAlike told
    (ticket_of state.visits rows (string_bytes partner) number (partner_called content (string_bytes partner)))
TellsAbout content state rows (about.Reply partner number) told =
    TellsReplyOf rows (string_bytes partner) number (partner_called content (string_bytes partner)) told
TellsAbout content state rows (about.Work call side) told =
    IsOfLines state (call_content call) side (λ lines. option_map value.work (work_by state (call_content call) side lines))
    told
TellsAbout content state rows about.Picture told = TellsPicture content state told
TellsAbout content state rows (about.Container container) told = told ≡ container_told content state container
TellsAbout content state rows about.Partners told = TellsPartners rows content.partners told
TellsAbout content state rows about.Blocks told = TellsBlocks state told
TellsAbout content state rows about.Calls told = told ≡ Some (value.calls (lists_in (finite_map.entries state.lines)))
TellsAbout content state rows (about.Contrl partner number) told =
    told ≡ contrl_for_partner rows (string_bytes partner) number (partner_called content (string_bytes partner))
TellsAbout content state rows (about.Partner code) told =
    TellsPartner rows content.partners (partner_called content (string_bytes code)) told
TellsAbout content state rows (about.Next code) told =
    IsText (TellsNext rows (partner_called content (string_bytes code))) told
TellsAbout content state rows about.Health told = told ≡ Some (value.text ready_text)
TellsAbout content state rows about.Metrics told = IsText (TellsMetrics content state rows) told
TellsAbout content state rows about.Start told = TellsStart content state rows told
TellsAbout content state rows (about.Expected container) told =
    told ≡ Some (value.expected container (open_lines state.lines container))
TellsAbout content state rows (about.Block letter) told = TellsBlock state letter told
TellsAbout content state rows (about.Find typed) told =
    told ≡ Some (value.found (string_bytes typed) state.visits (partner_if_called content (string_bytes typed))
    (lists_in (finite_map.entries state.lines)))

-- what is found at a query: what is told of it, shown so
abbrev pub TellsOf : SetupContent → TerminalState → Rows → Query → (found : Option (List ℕ)) → Type 0
TellsOf content state rows query found = Shows (TellsAbout content state rows query.about) query.view found

-- the office can be asked only if its store is open
abbrev pub IsOpenFor : About → State → Type 0
IsOpenFor about.Health s = IsTrue s.is_open
IsOpenFor other s = Unit {0}

-- what the rows after those events tell of it
pub record TellsAfter (content : SetupContent) (es : List Event) (asked : About)
    (told : Option ReportContent) : Type 0 where
  pub rows : Rows
  pub after : AreAfter content es rows
  pub tells : TellsAbout (content_after content es) (machine_after content es).terminal rows asked told

-- what is found at a query after those events
abbrev pub FindsAfter : SetupContent → List Event → Query → (found : Option (List ℕ)) → Type 0
FindsAfter content es query found = Shows (TellsAfter content es query.about) query.view found

-- what the desk tells, whatever rows it has: those after events tell what the rows after that tell; those of any
-- office tell what they are
pub record DeskTells {S : Type 0} (g : Ghosts S) (desk : Desk S g) (query : Query)
    (found : Option (List ℕ)) : Type 0 where
  pub after : (content : SetupContent) (es : List Event) →
      Holds content es (setup_content desk.setup) (state g desk.conn).committed desk.beside →
      FindsAfter content es query found
  pub office : (rows : Rows) (terminal : TerminalState) → DeskHolds g desk rows terminal →
      TellsOf (setup_content desk.setup) terminal rows query found
