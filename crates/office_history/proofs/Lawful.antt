-- The laws of one delivery more, of the rows after deliveries.
use Rattle.std.specs.{Prelude.is_some, Cmp.Lexicographic.slice_cmp, Ordering.nat_cmp, Option.option_map}
use Rattle.std.proofs.Common.{Option, ◌≡◌, ℕ, ◌+◌, ◌<◌, List, [], ◌∷◌, ◌++◌, length, None, Some, Err, refl, sym, ap, ◌∙◌, arith}
use Rattle.edi_messages.specs.declared.codes.PartnerKind.{PartnerKind}
use Rattle.edi_syntax.specs.Interchange.{interchange_of}
use Rattle.partner_core.{specs.{Deliveries.{Delivery, delivery, run}, Machine.Taking, Order.{state, order, reply_of}}, proofs.Orders.run_of_none}
use Rattle.partner_core.proofs.OnceEach.{adds_nothing, adds_text, other_run-stays}
use Rattle.yard_core.specs.{declared.placements.Stowed.Stowed, YardMap.placement_if_any, declared.placements.Placement.Placement}
use Rattle.terminal_core.specs.{Changes.{standing_in, rows_of}, Step.number_of_visit, State.open_visit, Versions.newest}
use Rattle.office_admission.specs.{Accounts.content_after, Admission.admission, Deliveries.deliveries_of, Given.IsGiven, Setups.{SetupContent, parties_in}}
use Rattle.office_admission.{specs.Taking.MachineState, proofs.Adding.{content_on, given_after}}
use Rattle.office_replies.specs.{Events.{Event, delivered}, declared.deliver.Fault.Fault}
use Rattle.office_rows.specs.{Rows.Rows, Effects.with_waiting, Opening.{partners_from, opening_rows}}
use Rattle.office_history.specs.After.{opening_of, taking_in, machine_after, accounts_from, AreRowsOf, AreAfter}
use Rattle.office_history.{specs.Cascade.{text_in, TakenContent, texts_with, with_run, AreTakenFrom}, proofs.Afters.{known_adds, early_keeps, run_more}}
use Rattle.office_history.specs.Laws.{IsFor, AddsNoRow, AddsWaiting, AddsRun, RefusedAddsNoRow, UsedAddsNoRow, EarlyAddsWaiting, NextAddsRun}
use Rattle.office_history.proofs.Places.{admitted_more, refused_more, numbered_more, sound_in, goes_on, taking_delivered, moved}
use Rattle.std.specs.FinMap as finite_map

-- ---- nothing delivered

none_sent : (id : ℕ) (accounts : List (List ℕ × PartnerKind)) → partners_from id accounts ≡ accounts_from id (λ p. run [] p + 1) accounts
none_sent id [] = refl
none_sent id (account ∷ accounts) =
    ap (λ n. (record { id = id; code = account.0; kind = account.1; next = n + 1 }) ∷ partners_from (id + 1) accounts) (sym (run_of_none id))
    ∙ ap (λ l. (record { id = id; code = account.0; kind = account.1; next = run [] id + 1 }) ∷ l) (none_sent (id + 1) accounts)

none_ordered : (content : SetupContent) → machine_after content [] ≡ opening_of content
unfolding state order
none_ordered content = refl

none_replied : (content : SetupContent) (p k : ℕ) → reply_of (taking_in newest content []) (opening_of content) [] p k ≡ None
unfolding reply_of order
none_replied content p k = refl

pub opening_after : (content : SetupContent) → AreAfter content [] (opening_rows content)
opening_after content = record {
  partners = none_sent 1 content.partners;
  texts = λ p k. refl;
  replies = λ p k. sym (none_replied content p k);
  kept_once = λ p k. omega arith;
  terminal =
      (λ i. record { visits = []; places = λ q. sym (ap (λ (w : Option Stowed). option_map (λ (s : Placement). standing_in (number_of_visit (open_visit (opening_of content).terminal q)) s.slot) (placement_if_any w)) (finite_map.get-empty (slice_cmp nat_cmp) q)) i; lines = finite_map.empty })
      ∙ ap (λ (m : MachineState). rows_of m.terminal) (sym (none_ordered content));
  placed_once = λ q. omega arith;
  listed_once = λ c s b. omega arith;
  settings = refl;
  blocks = refl;
}

-- ---- one delivery more

-- what was delivered adds nothing to the accounts, and leaves the rules in force
pub now_same : (content : SetupContent) (es : List Event) (sent : List ℕ) → content_after content (es ++ delivered sent ∷ []) ≡ content_after content es
now_same content es sent = content_on es (delivered sent ∷ []) content

module _ (content : SetupContent) (es : List Event) (sent : List ℕ) where
  abbrev now : SetupContent
  now = content_after content es

  abbrev D : List Delivery
  D = deliveries_of content es

  abbrev taking : Taking MachineState
  taking = taking_in newest content es

  abbrev text : List ℕ
  text = interchange_of sent

  abbrev more : List Event
  more = es ++ delivered sent ∷ []

  after_rows : (E : List Delivery) (rows : Rows) → deliveries_of content more ≡ E → AreRowsOf newest taking now E rows → AreAfter content more rows
  after_rows E rows same are =
      moved newest taking (taking_in newest content more) now (content_after content more) E (deliveries_of content more) rows (taking_delivered newest content es sent) (now_same content es sent) same are

  after_machine : (E : List Delivery) → deliveries_of content more ≡ E → machine_after content more ≡ state taking (opening_of now) E
  after_machine E same i = state (taking_delivered newest content es sent i) (opening_of (now_same content es sent i)) (same i)

  adds_refused : (rows : Rows) (fault : Fault) → AreAfter content es rows → admission (parties_in now) text ≡ Err fault → AddsNoRow content es sent rows
  adds_refused rows fault are is =
      let same = refused_more content es sent fault is in
      record { rows_are = after_rows D rows same are; machine = after_machine D same; runs = λ p. ap (λ E. run E p) same }

  adds_used : (rows : Rows) (p k : ℕ) (kept : List ℕ) → AreAfter content es rows → IsFor content es sent p k → text_in rows p k ≡ Some kept → AddsNoRow content es sent rows
  adds_used rows p k kept are for there =
      let d = delivery p k text in
      let same = admitted_more content es sent p k for in
      let adds = adds_nothing taking (opening_of now) D d (ap is_some (sym (are.texts p k) ∙ there)) in
      record {
        rows_are = after_rows (D ++ d ∷ []) rows same (known_adds newest taking now D d rows kept are there);
        machine = after_machine (D ++ d ∷ []) same ∙ adds.state_is;
        runs = λ q. ap (λ E. run E q) same ∙ adds.runs q;
      }

  adds_early : (rows : Rows) (p k : ℕ) → AreAfter content es rows → IsFor content es sent p k → text_in rows p k ≡ None → run D p + 1 < k → AddsWaiting content es sent (with_waiting p k text rows)
  adds_early rows p k are for free early =
      let d = delivery p k text in
      let same = admitted_more content es sent p k for in
      let adds = adds_text taking (opening_of now) D d (ap is_some (sym (are.texts p k) ∙ free)) early in
      record {
        rows_are = after_rows (D ++ d ∷ []) (with_waiting p k text rows) same (early_keeps newest taking now D p k text rows are free early);
        machine = after_machine (D ++ d ∷ []) same ∙ adds.state_is;
        runs = λ q. ap (λ E. run E q) same ∙ adds.runs q;
      }

  adds_next : (rows : Rows) (p k : ℕ) (taken : List TakenContent) (machine : MachineState) → IsGiven content → AreAfter content es rows → IsFor content es sent p k → text_in rows p k ≡ None → k ≡ run D p + 1
      → AreTakenFrom p (texts_with rows p k text) k (machine_after content es) taken machine → AddsRun content es sent p (length taken) (with_run p k text taken rows) machine
  adds_next rows p k taken machine given are for free is from =
      let d = delivery p k text in
      let same = admitted_more content es sent p k for in
      let left = run_more newest taking now D p k text rows taken machine (sound_in newest content es) (goes_on content now es d (numbered_more content es sent p k for)) (given_after es content given) are free is from in
      let ends = left.ends in
      record {
        rows_are = after_rows (D ++ d ∷ []) (with_run p k text taken rows) same left.rows_are;
        machine_is = left.machine ∙ sym (after_machine (D ++ d ∷ []) same);
        run_is = ap (λ E. run E p) same ∙ omega (arith, ends, is);
        other_runs = λ q apart. ap (λ E. run E q) same ∙ other_run-stays D d q apart;
      }

pub refused_adds : RefusedAddsNoRow
refused_adds content es rows sent fault are is = adds_refused content es sent rows fault are is

pub used_adds : UsedAddsNoRow
used_adds content es rows sent p k kept are for there = adds_used content es sent rows p k kept are for there

pub early_adds : EarlyAddsWaiting
early_adds content es rows sent p k are for free early = adds_early content es sent rows p k are for free early

pub next_adds : NextAddsRun
next_adds content es rows sent p k taken machine given are for free is from = adds_next content es sent rows p k taken machine given are for free is from
