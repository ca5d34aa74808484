-- Reports of numbers that are closed, by their archives and by the whole.
use Rattle.std.specs.{Prelude.{◌==◌, Contains, filter, find, string_bytes}, Option.{option_map, option_and_then}}
use Rattle.std.proofs.Common.{◌≡◌, ℕ, ◌+◌, ◌<◌, ◌≤◌, inl, inr, List, [], ◌∷◌, length, Bool, true, false, cond, Option, None, Some, is_some, refl, sym, ap, subst, ◌∙◌, arith}
use Rattle.std.proofs.lemmas.Bool.{cases_lt, eq-eqb, eqb-true}
use Rattle.edi_messages.specs.declared.codes.PartnerKind.{PartnerKind}
use Rattle.terminal_core.specs.{declared.change.Source.Source, Rows.VisitContent}
use Rattle.office_admission.specs.{Deliveries.deliveries_of, Setups.SetupContent}
use Rattle.office_replies.specs.Events.{Event}
use Rattle.office_rows.specs.{Rows.{Interchange, Partner, Rows}, Effects.is_pair}
use Rattle.office_tables.specs.Answers.{has_id, IsNextOf}
use Rattle.office_report_data.specs.Told.{shown}
use Rattle.office_history.{specs.{After.{accounts_from, content_after, machine_after, reply_in, AreAfter}, Cascade.text_in}, proofs.Kept.head_in}
use Rattle.office_history.proofs.Accounted.{text_within}
use Rattle.partner_core.specs.Deliveries.{run}
use Rattle.office_parts.{specs.{Archives.{Archive, archive_of, reply_by, Hold}, Parts.{Archived, ArePartsAfter}}, proofs.{Takings.visits_same, Splits.some_is}}
use Rattle.office_parts.proofs.Orders.{body_there, found_within, reply_there, there_if_replied}
use Rattle.office_desk.specs.Reports.{AreShownAlike, answered, contrl_for_partner, contrl_told, ticket_if_taken, ticket_of, TellsReply, TellsReplyOf}
use Rattle.office_archives.specs.{Closed.{closed_reply, closed_contrl, closed_ticket}, Copies.AreCopies, Laws.{ArchivesTellReplies, ArchivesTellTickets}}
use Rattle.office_archives.{specs.Visits.visits_by, proofs.{StayedTold.archives_tell_visits, Sources.tickets_alike}}
use Rattle.office_report_data.specs.Told as value

-- ---- the number that is next

next_from : (id : ℕ) (f : ℕ → ℕ) (accounts : List (List ℕ × PartnerKind)) (p : ℕ) → id ≤ p → p < id + length accounts
    → (x : Partner) × Contains (filter (has_id p) (accounts_from id f accounts)) x × (x.next ≡ f p)
next_from id f [] p low high = absurd (omega (arith, low, high))
next_from id f (account ∷ accounts) p low high = by (id == p) refl (λ apart. next_from (id + 1) f accounts p (omega (arith, apart)) (omega (arith, high)))
  where
    first : Partner
    first = record { id = id; code = account.0; kind = account.1; next = f id }

    others : List Partner
    others = filter (has_id p) (accounts_from (id + 1) f accounts)

    by : (is : Bool) → (id == p) ≡ is → (id < p → (x : Partner) × Contains others x × (x.next ≡ f p)) → (x : Partner) × Contains (cond is (first ∷ others) others) x × (x.next ≡ f p)
    by true e rest = (first, head_in first others, ap f (eqb-true id p e))
    by false e rest = rest apart
      where
        apart : id < p
        apart = elim (cases_lt id p) [
          | inl below ↦ below
          | inr above ↦ let bad : false ≡ true = sym e ∙ eq-eqb id p (omega (arith, low, above)) in absurd cc
        ]

-- each account has one
pub next_is_there : (content : SetupContent) (es : List Event) (whole : Rows) (p : ℕ) → AreAfter content es whole → 1 ≤ p → p ≤ length (content_after content es).partners
    → IsNextOf p whole (run (deliveries_of content es) p + 1)
next_is_there content es whole p after low high =
    let there = next_from 1 (λ q. run (deliveries_of content es) q + 1) (content_after content es).partners p low (omega (arith, high)) in
    (there.0, subst (λ partners. Contains (filter (has_id p) partners) there.0) (sym after.partners) there.1, there.2)

-- ---- what is kept of a closed number

module _ (content : SetupContent) (es : List Event) (archives : List Archive) (archived : Archived) (own whole : Rows) (p n : ℕ)
    (are : ArePartsAfter content es archived own whole) (hold : Hold archives archived) (low : 1 ≤ n) (high : n ≤ archived.last_closed p) where
  pub reply_whole : reply_by archives p n ≡ reply_in whole p n
  reply_whole = hold.replies p n low high ∙ sym (ap reply_there (found_within archived own whole p n are.closed are.parts low high))

  reply_is_there : is_some (reply_in whole p n) ≡ true
  reply_is_there = ap is_some (sym reply_whole ∙ hold.replies p n low high) ∙ are.closed.replied p n low high

  abbrev found : Option Interchange
  found = find (is_pair p n) whole.interchanges

  kept : (i : Interchange) × (found ≡ Some i)
  kept = some_is found (there_if_replied found reply_is_there)

  replied : (reply : List ℕ) × (reply_in whole p n ≡ Some reply)
  replied = some_is (reply_in whole p n) reply_is_there

  text_kept : text_in whole p n ≡ Some (kept.0).body
  text_kept = ap body_there kept.1

  told_reply : (code : List ℕ) → TellsReply whole code p n (text_in whole p n) (reply_in whole p n) (closed_reply archives code p n)
  told_reply code =
      let within = text_within content es whole p n (kept.0).body are.after text_kept in
      let told : closed_reply archives code p n ≡ Some (value.taken code n replied.0) = ap (option_map (value.taken code n)) (reply_whole ∙ replied.1) in
      subst (λ o. TellsReply whole code p n o (reply_in whole p n) (closed_reply archives code p n)) (sym text_kept)
      (run (deliveries_of content es) p + 1, next_is_there content es whole p are.after within.0 within.1, told ∙ ap (λ o. Some (answered code n (run (deliveries_of content es) p + 1) o)) (sym replied.1))

  told_contrl : (code : List ℕ) → contrl_for_partner whole code n (Some p) ≡ closed_contrl archives code p n
  told_contrl code = ap (contrl_told code n) (sym reply_whole)

pub closed_replies : ArchivesTellReplies
closed_replies content es archives archived own whole code p n are hold called low high = record {
  reply = subst (λ o. TellsReplyOf whole (string_bytes code) n o (closed_reply archives (string_bytes code) p n)) (sym called) (told_reply content es archives archived own whole p n are hold low high (string_bytes code));
  contrl = sym (ap (contrl_for_partner whole (string_bytes code) n) called ∙ told_contrl content es archives archived own whole p n are hold low high (string_bytes code));
}

-- ---- its ticket

module _ (content : SetupContent) (es : List Event) (archives : List Archive) (archived : Archived) (own whole : Rows) (code : List ℕ) (p n : ℕ)
    (are : ArePartsAfter content es archived own whole) (hold : Hold archives archived) (copies : AreCopies content es (λ partner. 0) archives) (low : 1 ≤ n) (high : n ≤ archived.last_closed p) where
  abbrev mine : Source
  mine = record { partner = p; number = n }

  abbrev state_visits : List VisitContent
  state_visits = (machine_after content es).terminal.visits

  visits_known : (archive : Archive) → archive_of archives p n ≡ Some archive → visits_by mine archive.rows.visits ≡ visits_by mine state_visits
  visits_known archive found =
      archives_tell_visits content es archives archive whole p n are.after copies low found ∙ ap (visits_by mine) (visits_same content es whole are.after)

  by_archive : (o : Option Archive) → archive_of archives p n ≡ o
      → AreShownAlike (option_and_then (λ (archive : Archive). ticket_of archive.rows.visits archive.rows code n (Some p)) o) (ticket_of state_visits whole code n (Some p))
  by_archive None found view =
      let none : reply_in whole p n ≡ None = sym (reply_whole content es archives archived own whole p n are hold low high) ∙ ap (option_and_then (λ (archive : Archive). reply_in archive.rows p n)) found in
      sym (ap (λ reply. option_map (shown view) (ticket_if_taken state_visits code p n reply)) none)
  by_archive (Some archive) found view =
      let same : reply_in archive.rows p n ≡ reply_in whole p n = sym (ap (option_and_then (λ (archive : Archive). reply_in archive.rows p n)) found) ∙ reply_whole content es archives archived own whole p n are hold low high in
      ap (λ reply. option_map (shown view) (ticket_if_taken archive.rows.visits code p n reply)) same ∙ by_reply (reply_in whole p n)
    where
      by_reply : (reply : Option (List ℕ)) → option_map (shown view) (ticket_if_taken archive.rows.visits code p n reply) ≡ option_map (shown view) (ticket_if_taken state_visits code p n reply)
      by_reply None = refl
      by_reply (Some reply) = ap Some (tickets_alike mine code archive.rows.visits state_visits (visits_known archive found) view)

  pub told_ticket : AreShownAlike (closed_ticket archives code p n) (ticket_of state_visits whole code n (Some p))
  told_ticket = by_archive (archive_of archives p n) refl

pub closed_tickets : ArchivesTellTickets
closed_tickets content es archives archived own whole code p n are hold copies called low high view =
    told_ticket content es archives archived own whole (string_bytes code) p n are hold copies low high view
    ∙ sym (ap (λ o. option_map (shown view) (ticket_of (machine_after content es).terminal.visits whole (string_bytes code) n o)) called)
