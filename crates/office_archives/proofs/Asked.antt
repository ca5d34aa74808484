-- What an archive tells that is asked as the store that it was.
use Rattle.std.specs.Prelude.{is_some, string_bytes}
use Rattle.std.specs.Option.{option_map}
use Rattle.std.specs.Str.{bytes_eq}
use Rattle.std.proofs.Common.{◌≡◌, ℕ, ◌+◌, ◌<◌, ◌≤◌, List, [], ◌∷◌, ◌++◌, length, map, Bool, true, false, cond, Option, None, Some, refl, sym, ap, subst, ◌∙◌, arith}
use Rattle.partner_core.{specs.Deliveries.{first_text, run}, proofs.{Orders.{some_of, used_within_run}, OnceEach.within_replied}}
use Rattle.terminal_core.specs.{declared.change.Source.Source, Rows.VisitContent, Versions.newest}
use Rattle.office_admission.specs.{Accounts.{AccountPair, content_after}, Deliveries.deliveries_of, Parties.partner_from, Setups.SetupContent}
use Rattle.office_admission.proofs.Adding.{content_on, found_low}
use Rattle.office_replies.specs.Events.{Event}
use Rattle.office_rows.specs.Rows.{Rows}
use Rattle.office_tables.specs.Answers.{IsNextOf}
use Rattle.office_reports.specs.declared.query.About.{About}
use Rattle.office_report_data.specs.Told.{ReportContent, shown}
use Rattle.office_history.specs.{After.{machine_after, opening_of, taking_in, reply_in, AreAfter}, Cascade.text_in, Laws.HasNoMigration}
use Rattle.office_history.proofs.Accounted.{delivered_within, text_within}
use Rattle.office_parts.{specs.{LeftOver.rows_beyond, OwnTerminal.{own_terminal, own_visits}, Parts.{Archived, ArePartsAfter}}, proofs.Takings.visits_same}
use Rattle.office_parts.{specs.OwnLists.{ListName, rows_without_lists, without_lists}, proofs.LeftOver.told_alike}
use Rattle.office_parts.proofs.Orders.{body_there, found_beyond, reply_there}
use Rattle.office_desk.specs.Reports.{AreShownAlike, contrl_for_partner, contrl_told, partner_called, ticket_if_taken, ticket_of, TellsAbout, TellsReply, TellsReplyOf}
use Rattle.office_archives.specs.{Asked.{IsBetween, IsOfNumberBetween, KeepsNumber}, Laws.ArchivesAreAskedAsStores, Visits.visits_by}
use Rattle.office_archives.proofs.{StayedTold.copy_tells, ClosedTold.next_is_there, Later.{keep_numbers, has_more}, Sources.tickets_alike}
use Rattle.office_reports.specs.declared.query.About.TheVariants as about

-- ---- the partner of a code

abbrev codes_of : List AccountPair → List (List ℕ)
codes_of accounts = map (λ (account : AccountPair). account.0) accounts

-- if it is one of the first accounts, it is found among these
front_called : (id : ℕ) (code : List ℕ) (accounts more : List AccountPair) (p : ℕ) → partner_from id code (codes_of (accounts ++ more)) ≡ Some p → p < id + length accounts → partner_from id code (codes_of accounts) ≡ Some p
front_called id code [] more p e low = let range = found_low id code (codes_of more) p e in absurd (omega (arith, range.0, low))
front_called id code (account ∷ accounts) more p e low = by (bytes_eq code account.0) e (λ e. front_called (id + 1) code accounts more p e (omega (arith, low)))
  where
    by : (is : Bool) → cond is (Some id) (partner_from (id + 1) code (codes_of (accounts ++ more))) ≡ Some p → (partner_from (id + 1) code (codes_of (accounts ++ more)) ≡ Some p → partner_from (id + 1) code (codes_of accounts) ≡ Some p)
        → cond is (Some id) (partner_from (id + 1) code (codes_of accounts)) ≡ Some p
    by true e rest = e
    by false e rest = rest e

called_then : (content : SetupContent) (earlier later : List Event) (code : List ℕ) (p : ℕ) → p ≤ length (content_after content earlier).partners → partner_called (content_after content (earlier ++ later)) code ≡ Some p → partner_called (content_after content earlier) code ≡ Some p
called_then content earlier later code p low e =
    let then : SetupContent = content_after content earlier in
    let more = has_more later then in
    let all : (content_after content (earlier ++ later)).partners ≡ then.partners ++ more.more = ap (λ (c : SetupContent). c.partners) (content_on earlier later content) ∙ more.partners in
    front_called 1 code then.partners more.more p (sym (ap (λ l. partner_from 1 code (codes_of l)) all) ∙ e) (omega (arith, low))

-- ---- a number that it closed

module _ (content : SetupContent) (earlier later : List Event) (none : HasNoMigration later) (archived : Archived) (rows own then whole : Rows) (away : ListName → Bool)
    (is_own : rows_beyond archived.last_closed rows ≡ rows_without_lists away own) (are : ArePartsAfter content earlier archived own then) (after : AreAfter content (earlier ++ later) whole)
    (p n : ℕ) (low : 1 ≤ n) (above : archived.last_closed p < n) (high : n ≤ run (deliveries_of content earlier) p)
    (tells : visits_by (record { partner = p; number = n }) rows.visits ≡ visits_by (record { partner = p; number = n }) whole.visits) where
  abbrev mine : Source
  mine = record { partner = p; number = n }

  keeps : KeepsNumber then whole p n
  keeps = keep_numbers content earlier later then whole p n none are.after after low high

  text_same : text_in rows p n ≡ text_in whole p n
  text_same = sym (told_alike archived.last_closed rows p n above).text ∙ ap (λ (r : Rows). text_in r p n) is_own ∙ ap body_there (sym (found_beyond archived own then p n are.closed are.parts above)) ∙ sym keeps.text

  reply_same : reply_in rows p n ≡ reply_in whole p n
  reply_same = sym (told_alike archived.last_closed rows p n above).reply ∙ ap (λ (r : Rows). reply_in r p n) is_own ∙ ap reply_there (sym (found_beyond archived own then p n are.closed are.parts above)) ∙ sym keeps.reply

  first : (text : List ℕ) × (first_text (deliveries_of content earlier) p n ≡ Some text)
  first = some_of (first_text (deliveries_of content earlier) p n) (used_within_run (deliveries_of content earlier) p n low high)

  is_account : p ≤ length (content_after content earlier).partners
  is_account = (delivered_within content earlier p n first.0 first.1).1

  there : IsNextOf p whole (run (deliveries_of content (earlier ++ later)) p + 1)
  there =
      let within = text_within content (earlier ++ later) whole p n first.0 after (keeps.text ∙ are.after.texts p n ∙ first.1) in
      next_is_there content (earlier ++ later) whole p after within.0 within.1

  replied : is_some (reply_in whole p n) ≡ true
  replied = ap is_some (keeps.reply ∙ are.after.replies p n) ∙ within_replied (taking_in newest content earlier) (opening_of (content_after content earlier)) (deliveries_of content earlier) p n low high

  moved : (code : List ℕ) (found : Option ReportContent) (text reply : Option (List ℕ)) → is_some reply ≡ true → TellsReply rows code p n text reply found → TellsReply whole code p n text reply found
  moved code found None reply e told = told
  moved code found (Some text) None e told = cc
  moved code found (Some text) (Some reply) e told = (run (deliveries_of content (earlier ++ later)) p + 1, there, told.2)

  pub reply_told : (code : List ℕ) (found : Option ReportContent) → TellsReply rows code p n (text_in rows p n) (reply_in rows p n) found → TellsReply whole code p n (text_in whole p n) (reply_in whole p n) found
  reply_told code found told =
      moved code found (text_in whole p n) (reply_in whole p n) replied
      (subst (λ reply. TellsReply rows code p n (text_in whole p n) reply found) reply_same
      (subst (λ text. TellsReply rows code p n text (reply_in rows p n) found) text_same told))

  abbrev visits_then : List VisitContent
  visits_then = own_visits archived.stays (machine_after content earlier).terminal.visits

  abbrev visits_now : List VisitContent
  visits_now = (machine_after content (earlier ++ later)).terminal.visits

  visits_known : visits_by mine visits_then ≡ visits_by mine visits_now
  visits_known =
      let own_is : rows.visits ≡ visits_then = ap (λ (r : Rows). r.visits) is_own ∙ are.parts.visits ∙ ap (own_visits archived.stays) (visits_same content earlier then are.after) in
      ap (visits_by mine) (sym own_is) ∙ tells ∙ ap (visits_by mine) (visits_same content (earlier ++ later) whole after)

  taken_told : (code : List ℕ) (reply : Option (List ℕ)) → AreShownAlike (ticket_if_taken visits_then code p n reply) (ticket_if_taken visits_now code p n reply)
  taken_told code None view = refl
  taken_told code (Some reply) view = ap Some (tickets_alike mine code visits_then visits_now visits_known view)

  pub ticket_told : (code : List ℕ) → AreShownAlike (ticket_of visits_then rows code n (Some p)) (ticket_of visits_now whole code n (Some p))
  ticket_told code view = ap (λ reply. option_map (shown view) (ticket_if_taken visits_then code p n reply)) reply_same ∙ taken_told code (reply_in whole p n) view

  pub contrl_same : (code : List ℕ) → contrl_for_partner rows code n (Some p) ≡ contrl_for_partner whole code n (Some p)
  contrl_same code = ap (contrl_told code n) reply_same

-- ---- a query

module _ (content : SetupContent) (earlier later : List Event) (none : HasNoMigration later) (archived : Archived) (closed_before last : ℕ → ℕ) (rows own then whole : Rows) (away : ListName → Bool)
    (is_own : rows_beyond archived.last_closed rows ≡ rows_without_lists away own) (are : ArePartsAfter content earlier archived own then) (after : AreAfter content (earlier ++ later) whole)
    (closed : (partner : ℕ) → archived.last_closed partner ≤ closed_before partner) (taken : (partner : ℕ) → last partner ≤ run (deliveries_of content earlier) partner)
    (tells : (p n : ℕ) → closed_before p < n → n ≤ last p → visits_by (record { partner = p; number = n }) rows.visits ≡ visits_by (record { partner = p; number = n }) whole.visits) where
  abbrev now : SetupContent
  now = content_after content (earlier ++ later)

  by_partner : (Then Now : Option ℕ → Type 0) (code : List ℕ) (n : ℕ) → ((p : ℕ) → 1 ≤ n → archived.last_closed p < n → n ≤ run (deliveries_of content earlier) p → closed_before p < n → n ≤ last p → Then (Some p) → Now (Some p))
      → (o : Option ℕ) → partner_called now code ≡ o → IsBetween closed_before last o n → Then (partner_called (content_after content earlier) code) → Now o
  by_partner Then Now code n each None e between told = absurd between
  by_partner Then Now code n each (Some p) e between told =
      let low : 1 ≤ n = omega (arith, between.0) in
      let before = closed p in
      let above : archived.last_closed p < n = omega (arith, before, between.0) in
      let upto = taken p in
      let high : n ≤ run (deliveries_of content earlier) p = omega (arith, upto, between.1) in
      each p low above high between.0 between.1
      (subst Then (called_then content earlier later code p (is_account content earlier later none archived rows own then whole away is_own are after p n low above high (tells p n between.0 between.1)) e) told)

  asked_then : (asked : About) (what : Option ReportContent) → IsOfNumberBetween now closed_before last asked
      → TellsAbout (content_after content earlier) (without_lists away (own_terminal archived.stays (machine_after content earlier).terminal)) rows asked what → TellsAbout now (machine_after content (earlier ++ later)).terminal whole asked what
  asked_then (about.Reply code n) what between told =
      by_partner (λ o. TellsReplyOf rows (string_bytes code) n o what) (λ o. TellsReplyOf whole (string_bytes code) n o what) (string_bytes code) n
      (λ p low above high before reached tell. reply_told content earlier later none archived rows own then whole away is_own are after p n low above high (tells p n before reached) (string_bytes code) what tell)
      (partner_called now (string_bytes code)) refl between told
  asked_then (about.Contrl code n) what between told =
      by_partner (λ o. what ≡ contrl_for_partner rows (string_bytes code) n o) (λ o. what ≡ contrl_for_partner whole (string_bytes code) n o) (string_bytes code) n
      (λ p low above high before reached tell. tell ∙ contrl_same content earlier later none archived rows own then whole away is_own are after p n low above high (tells p n before reached) (string_bytes code))
      (partner_called now (string_bytes code)) refl between told
  asked_then (about.Ticket code n) what between told =
      by_partner (λ o. AreShownAlike what (ticket_of (own_visits archived.stays (machine_after content earlier).terminal.visits) rows (string_bytes code) n o)) (λ o. AreShownAlike what (ticket_of (machine_after content (earlier ++ later)).terminal.visits whole (string_bytes code) n o)) (string_bytes code) n
      (λ p low above high before reached tell view. tell view ∙ ticket_told content earlier later none archived rows own then whole away is_own are after p n low above high (tells p n before reached) (string_bytes code) view)
      (partner_called now (string_bytes code)) refl between told
  asked_then other what between told = absurd between

pub asked_as_stores : ArchivesAreAskedAsStores
asked_as_stores content es closed_before archive whole asked what after copy between told =
    let day = copy.at_its_day in
    subst (λ l. TellsAbout (content_after content l) (machine_after content l).terminal whole asked what) (sym day)
    (asked_then content copy.earlier copy.later copy.unmigrated copy.archived closed_before archive.last_closed archive.rows copy.own copy.whole whole copy.away copy.is_own copy.parts (subst (λ l. AreAfter content l whole) day after) copy.closed copy.taken
    (λ p n before reached. copy_tells content es closed_before archive whole p n after copy before reached)
    asked what (subst (λ l. IsOfNumberBetween (content_after content l) closed_before archive.last_closed asked) day between) told)
