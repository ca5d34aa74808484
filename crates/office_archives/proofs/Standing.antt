-- A delivery under a number that is not closed, to a desk over a store's own rows.
use Rattle.std.specs.{Cmp.Lexicographic.bytes_decides, Prelude.{nat_lt, Contains, find, string_bytes}, Option.{option_map, option_and_then}}
use Rattle.std.proofs.Common.{◌≡◌, ℕ, ◌+◌, ◌<◌, ◌≤◌, inl, inr, List, [], ◌∷◌, ◌++◌, Bool, true, false, cond, Option, None, Some, is_some, Result, Ok, Err, refl, sym, ap, subst, ◌∙◌, arith}
use Rattle.std.proofs.lemmas.Bool.{cases_order, eqb-true, ltb-true}
use Rattle.sqlite.specs.{Held.state, State.{State, HasCleanDisk}, Tree.Trees}
use Rattle.sqlite_trees.specs.declared.store.Store.{Ghosts}
use Rattle.edi_syntax.specs.{Interchange.{interchange_of, segments_in}, Envelope.header_of}
use Rattle.partner_core.specs.{Answers.{AnswerModel, Waiting, answer_by}, Deliveries.{delivery, run}, Standings.{is_same_text, standing_of}}
use Rattle.partner_core.{specs.declared.runs.Standing.TheVariants.{Known, Other, Early, Next}, proofs.Orders.some_of}
use Rattle.terminal_core.specs.{State.{TerminalState, last_number}, Versions.newest, declared.change.Source.Source}
use Rattle.office_replies.specs.{Contents.content_of, Delivering.Delivers, Events.{Event, delivered}, declared.deliver.Fault.Fault}
use Rattle.office_replies.specs.declared.deliver.Response.{Response}
use Rattle.sqlite_rules.proofs.ListLemmas.{contains_had, has_contained, has_filtered}
use Rattle.office_rows.specs.{Rows.{Interchange, Rows}, Effects.{is_pair, with_waiting}, Stored.StoresRows}
use Rattle.office_loading.specs.Closed.{ClosedContent, closed_content}
use Rattle.office_admission.specs.{Given.IsGiven, Parties.{Parties, parties_of}, Setups.{SetupContent, parties_in, setup_content}, Admission.admission}
use Rattle.office_admission.{specs.{Refusals.{refusal_of, MayBeNotNow}, Taking.MachineState}, proofs.Forming.runs_alone}
use Rattle.office_tables.specs.Answers.{IsNextOf, has_id}
use Rattle.office_history.specs.After.{content_after, deliveries_of, machine_after, machine_with, opening_of, reply_if_any, reply_in, taking_in}
use Rattle.office_history.{specs.{Cascade.{text_in, texts_with, with_run, AreTakenFrom}, Laws.{IsFor, AnswersBy, answer_model_of}}, proofs.Places.alone_in}
use Rattle.office_history.proofs.{Lawful.{early_adds, now_same, refused_adds, used_adds}, Accounted.{answers, next_follows, within}, Loads.one_terminal}
use Rattle.office_parts.specs.{Archives.{Archive, archive_of, Hold}, OwnTerminal.{own_machine, own_terminal, own_visits}, Away.{AreAway, lists_after}}
use Rattle.office_parts.{specs.{Parts.{Archived, rows_of_archives, AreClosed, ArePartsAfter}, Naming.AreHere, LeftOver.rows_beyond}, proofs.LeftOver.told_alike}
use Rattle.office_parts.{specs.OwnLists.{ListName, machine_without, rows_without_lists, without_lists}, proofs.Takings.{early_parts, visits_same}}
use Rattle.office_parts.proofs.{Orders.numbers_told, AwayLemmas.{with_early, with_next, without_row, next_names}}
use Rattle.office_parts.proofs.Writings.{next_adds, runs_written, own_office_without}
use Rattle.office_desk.specs.{Answers.{AnswersNext, answer_at, answer_by_model, answer_to, code_of}, Calls.Leads, Desks.IsSound, Offices.DeskHolds}
use Rattle.office_desk.specs.{Kept.{AnswersAt, AnswersOver, Office, TakesIn}, Leaving.{IsTakenInto, LeavesOver}, declared.desk.Desk.Desk}
use Rattle.office_desk.specs.Reports.{partner_called, ticket_if_taken, ticket_of}
use Rattle.office_desk.proofs.HoldLemmas.{either_of}
use Rattle.office_desk.proofs.DeliverLemmas.{parties_same, own_once, shown_by_own}
use Rattle.office_archives.specs.Standing.{IsOwnWithRest, KnowsClosed, StandsBeside, IsBeyond, NamesNoneAway, DeliveriesBeyondAreAnswered}
use Rattle.office_archives.specs.{Together.{IsBesideAfter, LeavesBeside, LeavesDelivered}, Closed.{closed_contrl, closed_reply, closed_ticket}}
use Rattle.office_archives.{specs.{Copies.{AreCopies, IsCopy}, Keeping.{IsClosedIn, IsTicketIn, IsTicketOf}}, proofs.StayedTold.found_in_turn}
use Rattle.office_archives.specs.Telling.{ClosedTells, IsOfNumber, TellsClosed, TellsTogether, TogetherTells}
use Rattle.office_archives.proofs.{Filled.{run_is_own, taken_alike, texts_own, waiting_is_own, of_whole}, ClosedTold.{closed_replies, closed_tickets}}
use Rattle.office_reports.specs.{declared.query.About.About, declared.query.Query.Query, declared.query.View.View, Tickets.ticket_of as told_ticket}
use Rattle.office_report_data.specs.Told.{shown}
use Rattle.office_report_data.specs.Told as value
use Rattle.office_replies.specs.declared.deliver.Response.TheVariants as response
use Rattle.office_reports.specs.declared.query.About.TheVariants as about

-- ---- the machine

pub machine_is : (content : SetupContent) (es : List Event) → machine_with (content_after content es) (machine_after content es).terminal ≡ machine_after content es
machine_is content es = sym (runs_alone (taking_in newest content es) (opening_of (content_after content es)) (deliveries_of content es) (alone_in newest content es))

own_is : (content : SetupContent) (es : List Event) (stays : ℕ → Bool) → machine_with (content_after content es) (own_terminal stays (machine_after content es).terminal) ≡ own_machine stays (machine_after content es)
own_is content es stays = ap (own_machine stays) (machine_is content es)

-- ---- which numbers are closed

none_replied : (o : Option Interchange) → option_map (λ (i : Interchange). i.body) o ≡ None → is_some (option_and_then (λ (i : Interchange). reply_if_any i.reply) o) ≡ true → ⊥
none_replied None e is = absurd cc
none_replied (Some i) e is = absurd cc

-- where no archive reaches a number it is beyond what is closed
pub beyond : (archives : List Archive) (archived : Archived) (p n : ℕ) → AreClosed archived → Hold archives archived → 1 ≤ n → archive_of archives p n ≡ None → archived.last_closed p < n
beyond archives archived p n closed hold low none = elim (cases_order (archived.last_closed p) n) [
  | inl same ↦ absurd (never (omega (arith, same)))
  | inr o ↦ elim o [
    | inl less ↦ less
    | inr more ↦ absurd (never (omega (arith, more)))
  ]
]
  where
    never : n ≤ archived.last_closed p → ⊥
    never high =
        let told : text_in (rows_of_archives archived) p n ≡ None = sym (hold.texts p n low high) ∙ ap (option_and_then (λ (archive : Archive). text_in archive.rows p n)) none in
        none_replied (find (is_pair p n) archived.interchanges) told (closed.replied p n low high)

-- ---- what a delivery makes of the parts

-- what is reported is what is to be reported, and the office that is left is of parts after the delivery
record Follows (content : SetupContent) (es : List Event) (archives : List Archive) (away : ListName → Bool) (archived : Archived) (sent : List ℕ) (p n : ℕ) (told : AnswerModel) (new : Office) : Type 0 where
  is_told : told ≡ answer_model_of content es p n sent
  own : Rows
  left : Rows
  filled : Rows
  parts : ArePartsAfter content (es ++ delivered sent ∷ []) archived own left
  is_own : IsOwnWithRest archived own filled
  lists : AreAway archives away content (es ++ delivered sent ∷ []) own
  rows : new.rows ≡ rows_without_lists away filled
  terminal : new.terminal ≡ without_lists away (own_terminal archived.stays (machine_after content (es ++ delivered sent ∷ [])).terminal)

module _ (content : SetupContent) (es : List Event) (archives : List Archive) (away : ListName → Bool) (archived : Archived) (own whole rows : Rows) (sent : List ℕ) (p n : ℕ) (given : IsGiven content) (parts : ArePartsAfter content es archived own whole)
    (is_own : IsOwnWithRest archived own rows) (lists : AreAway archives away content es own) (for : IsFor content es sent p n) (far : archived.last_closed p < n) (none : AreHere away (lists_after content es p (interchange_of sent))) where
  abbrev text : List ℕ
  text = interchange_of sent

  abbrev now : SetupContent
  now = content_after content es

  abbrev old : Office
  old = record { rows = rows_without_lists away rows; terminal = without_lists away (own_terminal archived.stays (machine_after content es).terminal) }

  abbrev own_left : MachineState → TerminalState
  own_left machine = without_lists away (own_terminal archived.stays machine.terminal)

  abbrev next_number : ℕ
  next_number = run (deliveries_of content es) p + 1

  -- beyond what is closed the rows tell what the store's own do
  text_own : text_in own p n ≡ text_in rows p n
  text_own = ap (λ r. text_in r p n) (sym is_own.beyond) ∙ (told_alike archived.last_closed rows p n far).text

  text_same : text_in whole p n ≡ text_in rows p n
  text_same = parts.after.texts p n ∙ sym ((numbers_told content es archived own whole p n parts).own_text far) ∙ text_own

  reply_same : reply_in whole p n ≡ reply_in rows p n
  reply_same = parts.after.replies p n ∙ sym ((numbers_told content es archived own whole p n parts).own_reply far)
      ∙ ap (λ r. reply_in r p n) (sym is_own.beyond) ∙ (told_alike archived.last_closed rows p n far).reply

  partners_same : whole.partners ≡ rows.partners
  partners_same = parts.parts.partners ∙ ap (λ (r : Rows). r.partners) (sym is_own.beyond)

  by_whole : AnswersBy content es whole sent p n
  by_whole = answers content es whole sent p n parts.after for

  next_is : (next : ℕ) → IsNextOf p rows next → next ≡ next_number
  next_is next is =
      let there = has_filtered (has_id p) rows.partners is.0 (has_contained _ is.0 is.1) in
      let account : Contains whole.partners is.0 = subst (λ l. Contains l is.0) (sym partners_same) (contains_had rows.partners is.0 there.0) in
      sym is.2 ∙ next_follows content es whole is.0 parts.after account ∙ ap (λ q. run (deliveries_of content es) q + 1) (eqb-true is.0.id p there.1)

  -- a number that is used leaves the parts as they are
  stays_same : (kept : List ℕ) (told : AnswerModel) (new : Office) → text_in rows p n ≡ Some kept → told ≡ answer_model_of content es p n sent → new ≡ old → Follows content es archives away archived sent p n told new
  stays_same kept told new is is_told same =
      let adds = used_adds content es whole sent p n kept parts.after for (text_same ∙ is) in
      record {
        is_told = is_told;
        own = own;
        left = whole;
        parts = record { after = adds.rows_are; closed = parts.closed; parts = parts.parts; stay = parts.stay };
        filled = rows;
        is_own = is_own;
        lists = without_row content es archives away own whole sent lists adds;
        rows = ap (λ (o : Office). o.rows) same;
        terminal = ap (λ (o : Office). o.terminal) same ∙ ap own_left (sym adds.machine);
      }

  known : (reply : Option (List ℕ)) (next : ℕ) (told : AnswerModel) → text_in rows p n ≡ Some text → reply_in rows p n ≡ reply → next ≡ next_number → told ≡ answer_by Known next reply None → told ≡ answer_model_of content es p n sent
  known (Some reply) next told is has e is_told = is_told ∙ sym (by_whole.repeat reply (text_same ∙ is) (reply_same ∙ has))
  known None next told is has e is_told = is_told ∙ ap Waiting e ∙ sym (by_whole.waits (text_same ∙ is) (reply_same ∙ has))

  used : (kept : List ℕ) (same : Bool) (next : ℕ) (told : AnswerModel) (new : Office) → text_in rows p n ≡ Some kept → is_same_text kept text ≡ same → next ≡ next_number → TakesIn (cond same Known Other) now (delivery p n text) next told old new →
      Follows content es archives away archived sent p n told new
  used kept true next told new is same e takes =
      let body : text_in rows p n ≡ Some text = is ∙ ap Some ((bytes_decides kept text).0 same) in
      stays_same kept told new is (known (reply_in rows p n) next told body refl e takes.0) takes.1
  used kept false next told new is same e takes =
      let apart : kept ≡ text → ⊥ = λ one. let never : true ≡ false = sym ((bytes_decides kept text).1 one) ∙ same in absurd cc in
      stays_same kept told new is (takes.0 ∙ sym (by_whole.clash kept (text_same ∙ is) apart)) takes.1

  free : (early : Bool) (next : ℕ) (told : AnswerModel) (new : Office) → text_in rows p n ≡ None → nat_lt next n ≡ early → next ≡ next_number → TakesIn (cond early Early Next) now (delivery p n text) next told old new →
      Follows content es archives away archived sent p n told new
  free true next told new is early e takes =
      let later : next_number < n = subst (λ k. k < n) e (ltb-true next n early) in
      let adds = early_adds content es whole sent p n parts.after for (text_same ∙ is) later in
      record {
        is_told = takes.0 ∙ ap Waiting e ∙ sym (by_whole.early (text_same ∙ is) later);
        own = with_waiting p n text own;
        left = with_waiting p n text whole;
        parts = early_parts content es archived own whole sent p n parts for (text_own ∙ is) later;
        filled = with_waiting p n text rows;
        is_own = waiting_is_own archived own rows p n text is_own far;
        lists = with_early content es archives away archived own whole sent p n lists parts for (text_own ∙ is) later none;
        rows = ap (λ (o : Office). o.rows) takes.1;
        terminal = ap (λ (o : Office). o.terminal) takes.1 ∙ ap own_left (sym adds.machine);
      }
  free false next told new is early e takes =
      let run = takes.1 in
      let taken = run.first ∷ run.later in
      let is_next : n ≡ next_number = takes.0 ∙ e in
      let machine = machine_without away (own_machine archived.stays (machine_after content es)) in
      let here : AreTakenFrom p (texts_with rows p n text) n machine taken (machine_with now new.terminal) =
      subst (λ m. AreTakenFrom p (texts_with rows p n text) n m taken (machine_with now new.terminal)) (ap (machine_without away) (own_is content es archived.stays)) run.taken in
      let from : AreTakenFrom p (texts_with own p n text) n machine taken (machine_with now new.terminal) =
      taken_alike p (texts_with rows p n text) (texts_with own p n text) n (λ k above. texts_own archived own rows p n text is_own k (omega (arith, far, above))) n (omega arith) machine taken (machine_with now new.terminal) here in
      let named = next_names content es archives away own sent p n lists is_next none in
      let all = next_adds content es archived own whole away sent p n taken (machine_with now new.terminal) given parts for (text_own ∙ is) is_next named from in
      record {
        is_told = run.is_told ∙ sym (by_whole.next run.first run.later all.machine given (text_same ∙ is) is_next all.on_whole);
        own = with_run p n text taken own;
        left = with_run p n text taken whole;
        parts = all.parts;
        filled = with_run p n text taken rows;
        is_own = run_is_own archived own rows p n text (texts_with rows p n text) machine taken (machine_with now new.terminal) is_own far here;
        lists = with_next content es archives away archived own whole sent p n taken (machine_with now new.terminal) lists parts for (text_own ∙ is) is_next named all;
        rows = run.rows ∙ runs_written away rows p (texts_with own p n text) n text machine taken (machine_with now new.terminal) named from;
        terminal = ap (λ (m : MachineState). m.terminal) all.beside ∙ ap own_left all.adds.machine_is;
      }

  by_kept : (kept : Option (List ℕ)) (next : ℕ) (told : AnswerModel) (new : Office) → text_in rows p n ≡ kept → next ≡ next_number → TakesIn (standing_of next n kept text) now (delivery p n text) next told old new →
      Follows content es archives away archived sent p n told new
  by_kept (Some kept) next told new is e takes = used kept (is_same_text kept text) next told new is refl e takes
  by_kept None next told new is e takes = free (nat_lt next n) next told new is refl e takes

-- ---- what a crash leaves, by the answer

pub answered_left : (archives : List Archive) (closed : ClosedContent) (content : SetupContent) (es : List Event) (sent : List ℕ) (given : Response) (s : State) → LeavesBeside archives closed content (es ++ delivered sent ∷ []) s
    → LeavesDelivered archives closed content es sent given s
answered_left archives closed content es sent response.NotNow s leaves = λ db left. inr (leaves db left)
answered_left archives closed content es sent given s leaves = leaves

-- ---- what the desk answers

module _ {S : Type 0} (g : Ghosts S) (archives : List Archive) (content : SetupContent) (es : List Event) (old : Desk S g) (sent : List ℕ) (new : Desk S g) (stands : StandsBeside g archives content es old) (setup : new.setup ≡ old.setup) (closed : new.closed ≡ old.closed)
    (far : IsBeyond g archives old sent) (none : NamesNoneAway g archives content es old stands sent) where
  abbrev office : Office
  office = record { rows = rows_without_lists stands.away stands.rows; terminal = without_lists stands.away (own_terminal stands.archived.stays (machine_after content es).terminal) }

  abbrev parties : Parties
  parties = parties_in (content_after content es)

  now_is : content_after content es ≡ setup_content new.setup
  now_is = stands.now_is ∙ ap setup_content (sym setup)

  parties_now : parties_of new.setup ≡ parties
  parties_now = parties_same new.setup ∙ ap parties_in (sym now_is)

  admitted_here : (place : Result (ℕ × ℕ) Fault) → admission (parties_of new.setup) (interchange_of sent) ≡ place → admission parties (interchange_of sent) ≡ place
  admitted_here place is = subst (λ P. admission P (interchange_of sent) ≡ place) parties_now is

  knows_still : KnowsClosed (closed_content new.closed) stands.archived
  knows_still = subst (λ k. KnowsClosed (closed_content k) stands.archived) (sym closed) stands.knows

  -- with these parts after the delivery, desk and archives stand there
  stands_after : (own whole filled rows : Rows) (terminal : TerminalState) → ArePartsAfter content (es ++ delivered sent ∷ []) stands.archived own whole → IsOwnWithRest stands.archived own filled → AreAway archives stands.away content (es ++ delivered sent ∷ []) own →
      rows ≡ rows_without_lists stands.away filled → terminal ≡ without_lists stands.away (own_terminal stands.archived.stays (machine_after content (es ++ delivered sent ∷ [])).terminal) → DeskHolds g new rows terminal →
      StandsBeside g archives content (es ++ delivered sent ∷ []) new
  stands_after own whole filled rows terminal parts is_own lists left same holds = record {
    given = stands.given;
    now_is = now_same content es sent ∙ now_is;
    archived = stands.archived;
    own = own;
    whole = whole;
    parts = parts;
    hold = stands.hold;
    knows = knows_still;
    rows = filled;
    is_own = is_own;
    away = stands.away;
    lists = lists;
    holds = subst (λ r. DeskHolds g new r (without_lists stands.away (own_terminal stands.archived.stays (machine_after content (es ++ delivered sent ∷ [])).terminal))) left (subst (DeskHolds g new rows) same holds);
  }

  at_place : (response : Response) (place : Result (ℕ × ℕ) Fault) → admission (parties_of new.setup) (interchange_of sent) ≡ place → AnswersAt g place (interchange_of sent) office response new →
      (content_of response ≡ answer_to content es sent) × StandsBeside g archives content (es ++ delivered sent ∷ []) new
  at_place response (Err fault) admits by =
      let here = admitted_here (Err fault) admits in
      let adds = refused_adds content es stands.whole sent fault stands.parts.after here in
      let parts = stands.parts in (
        by.0 ∙ ap (λ P. refusal_of P (header_of (segments_in (interchange_of sent))) fault) parties_now ∙ ap (answer_at content es sent) (sym here),
        stands_after stands.own stands.whole stands.rows office.rows office.terminal (record { after = adds.rows_are; closed = parts.closed; parts = parts.parts; stay = parts.stay }) stands.is_own
            (without_row content es archives stands.away stands.own stands.whole sent stands.lists adds) refl
            (ap (λ (m : MachineState). without_lists stands.away (own_terminal stands.archived.stays m.terminal)) (sym adds.machine)) by.1,
      )
  at_place response (Ok place) admits by =
      let for : IsFor content es sent place.0 place.1 = admitted_here (Ok place) admits in
      let low : 1 ≤ place.1 = (within parties (interchange_of sent) place.0 place.1 for).2 in
      let open_ = beyond archives stands.archived place.0 place.1 stands.parts.closed stands.hold low
      (far place (subst (λ s. admission (parties_of s) (interchange_of sent) ≡ Ok place) setup admits)) in
      let here = none place (subst (λ s. admission (parties_of s) (interchange_of sent) ≡ Ok place) setup admits) in
      let next = next_is content es archives stands.away stands.archived stands.own stands.whole stands.rows sent place.0 place.1 stands.given stands.parts stands.is_own stands.lists for open_ here by.next by.is_next in
      let takes = subst (λ c. TakesIn (standing_of by.next place.1 (text_in stands.rows place.0 place.1) (interchange_of sent)) c (delivery place.0 place.1 (interchange_of sent)) by.next by.told office by.new) (sym now_is) by.takes in
      let follows = by_kept content es archives stands.away stands.archived stands.own stands.whole stands.rows sent place.0 place.1 stands.given stands.parts stands.is_own stands.lists for open_ here (text_in stands.rows place.0 place.1) by.next by.told by.new refl next takes in (
        by.answers ∙ ap (answer_by_model (code_of (parties_of new.setup) place.0) place.1) follows.is_told
            ∙ ap (λ P. answer_by_model (code_of P place.0) place.1 (answer_model_of content es place.0 place.1 sent)) parties_now ∙ ap (answer_at content es sent) (sym for),
        stands_after follows.own follows.left follows.filled by.new.rows by.new.terminal follows.parts follows.is_own follows.lists follows.rows follows.terminal by.holds,
      )

  answered : (response : Response) → AnswersOver g office sent response new → Delivers (StandsBeside g archives content) (AnswersNext content) es sent response new
  answered response.NotNow by = (
    subst (λ P. MayBeNotNow P (interchange_of sent)) parties_now by.0,
    record {
      given = stands.given;
      now_is = now_is;
      archived = stands.archived;
      own = stands.own;
      whole = stands.whole;
      parts = stands.parts;
      hold = stands.hold;
      knows = knows_still;
      rows = stands.rows;
      is_own = stands.is_own;
      away = stands.away;
      lists = stands.lists;
      holds = by.2;
    },
  )
  answered given by = at_place given (admission (parties_of new.setup) (interchange_of sent)) refl by

  -- ---- and what a crash leaves

  abbrev knows : ClosedContent
  knows = closed_content old.closed

  -- the store's rows as they were are those after the events
  as_before : (es' : List Event) (whole : Rows) → ArePartsAfter content es' stands.archived stands.own whole → AreAway archives stands.away content es' stands.own → (db : Trees) → StoresRows office.rows db → IsBesideAfter archives knows content es' db
  as_before es' whole parts lists db are = record { archived = stands.archived; own = stands.own; whole = whole; parts = parts; hold = stands.hold; knows = stands.knows; rows = stands.rows; is_own = stands.is_own; away = stands.away; lists = lists; are = are }

  into : (place : ℕ × ℕ) → admission (parties_of old.setup) (interchange_of sent) ≡ Ok place → (db : Trees) → IsTakenInto (setup_content old.setup) (delivery place.0 place.1 (interchange_of sent)) office db
      → IsBesideAfter archives knows content (es ++ delivered sent ∷ []) db
  into place admits db is =
      let for : IsFor content es sent place.0 place.1 = admitted_here (Ok place) (subst (λ s. admission (parties_of s) (interchange_of sent) ≡ Ok place) (sym setup) admits) in
      let low : 1 ≤ place.1 = (within parties (interchange_of sent) place.0 place.1 for).2 in
      let open_ = beyond archives stands.archived place.0 place.1 stands.parts.closed stands.hold low (far place admits) in
      let here = none place admits in
      let next = next_is content es archives stands.away stands.archived stands.own stands.whole stands.rows sent place.0 place.1 stands.given stands.parts stands.is_own stands.lists for open_ here is.next is.is_next in
      let takes = subst (λ c. TakesIn (standing_of is.next place.1 (text_in stands.rows place.0 place.1) (interchange_of sent)) c (delivery place.0 place.1 (interchange_of sent)) is.next is.told office is.new) (sym stands.now_is) is.takes in
      let follows = by_kept content es archives stands.away stands.archived stands.own stands.whole stands.rows sent place.0 place.1 stands.given stands.parts stands.is_own stands.lists for open_ here (text_in stands.rows place.0 place.1) is.next is.told is.new refl next takes in
      record {
        archived = stands.archived;
        own = follows.own;
        whole = follows.left;
        parts = follows.parts;
        hold = stands.hold;
        knows = stands.knows;
        rows = follows.filled;
        is_own = follows.is_own;
        away = stands.away;
        lists = follows.lists;
        are = subst (λ r. StoresRows r db) follows.rows is.are;
      }

  refused_here : (fault : Fault) → admission (parties_of old.setup) (interchange_of sent) ≡ Err fault → (db : Trees) → StoresRows office.rows db → IsBesideAfter archives knows content (es ++ delivered sent ∷ []) db
  refused_here fault admits db are =
      let here = admitted_here (Err fault) (subst (λ s. admission (parties_of s) (interchange_of sent) ≡ Err fault) (sym setup) admits) in
      let adds = refused_adds content es stands.whole sent fault stands.parts.after here in
      let parts = stands.parts in
      as_before (es ++ delivered sent ∷ []) stands.whole (record { after = adds.rows_are; closed = parts.closed; parts = parts.parts; stay = parts.stay })
      (without_row content es archives stands.away stands.own stands.whole sent stands.lists adds) db are

  left : (response : Response) (place : Result (ℕ × ℕ) Fault) (s : State) → admission (parties_of old.setup) (interchange_of sent) ≡ place → LeavesOver (setup_content old.setup) place (interchange_of sent) office response s
      → LeavesDelivered archives knows content es sent response s
  left response (Err fault) s admits leaves = answered_left archives knows content es sent response s (λ db left. refused_here fault admits db (leaves db left))
  left response.NotNow (Ok place) s admits leaves = λ db left. either_of (λ are. as_before es stands.whole stands.parts stands.lists db are) (λ is. into place admits db is) (leaves db left)
  left given (Ok place) s admits leaves = answered_left archives knows content es sent given s (λ db left. into place admits db (leaves db left))

pub beyond_answered : {S : Type 0} (g : Ghosts S) → DeliveriesBeyondAreAnswered g
beyond_answered g archives content es old sent response new stands leads sound far none =
    answered g archives content es old sent new stands leads.setup leads.closed far none response (leads.office sound (office g archives content es old sent new stands leads.setup leads.closed far none) stands.holds)

pub beyond_left : {S : Type 0} (g : Ghosts S) (archives : List Archive) (content : SetupContent) (es : List Event) (old : Desk S g) (sent : List ℕ) (response : Response) (new : Desk S g) (stands : StandsBeside g archives content es old) → Leads g old sent response new → IsSound g old →
    HasCleanDisk (state g new.conn) → IsBeyond g archives old sent → NamesNoneAway g archives content es old stands sent → LeavesDelivered archives (closed_content old.closed) content es sent response (state g new.conn)
beyond_left g archives content es old sent response new stands leads sound clean far none =
    left g archives content es old sent new stands leads.setup leads.closed far none response (admission (parties_of old.setup) (interchange_of sent)) (state g new.conn) refl
    (leads.office_crash sound clean (office g archives content es old sent new stands leads.setup leads.closed far none) stands.holds)

-- ==== Closed: What the archives tell of a number that is closed, and what the rows after the events tell.

found_if_told : {A B : Type 0} (f : A → Option B) (o : Option A) → is_some (option_and_then f o) ≡ true → is_some o ≡ true
found_if_told f None e = e
found_if_told f (Some x) e = refl

-- ---- the ticket of a copy

module _ (content : SetupContent) (es : List Event) (given : IsGiven content) (closed_before : ℕ → ℕ) (archive : Archive) (copy : IsCopy content es closed_before archive) (code : List ℕ) (p n : ℕ) (view : View) (ticket : List ℕ) (is : IsTicketOf archive.rows code p n view ticket) where
  abbrev theirs : TerminalState
  theirs = without_lists copy.away (own_terminal copy.archived.stays (machine_after content copy.earlier).terminal)

  -- the terminal that was loaded is that of the store of its day
  terminal_is : is.terminal ≡ theirs
  terminal_is =
      let rows = archive.rows in
      let own : Rows = copy.own in
      let filled : Rows = record rows { lines = own.lines } in
      let is_filled : rows_beyond copy.archived.last_closed filled ≡ own = ap (λ (r : Rows). record r { lines = own.lines }) copy.is_own in
      let newest = last_number copy.whole.visits in
      let once = own_once is.closed is.db rows is.loads.0 is.content is.terminal is.has is.loads.1 is.loads.2 in
      let shown = own_office_without content copy.earlier copy.archived own copy.whole rows copy.away is.db newest given copy.parts copy.is_own once (of_whole copy.archived own copy.whole filled copy.parts.parts (record { beyond = is_filled; rest = copy.rest })) copy.parts.stay.later is.has in
      one_terminal is.db is.loads.0 shown.0 is.content (content_after content copy.earlier) is.terminal theirs is.loads.1 shown.1
      (shown_by_own is.closed is.loads.0 is.content is.terminal is.loads.2)
      (shown_by_own (record { last_closed = copy.archived.last_closed; newest_closed = newest }) shown.0 (content_after content copy.earlier) theirs shown.2)

  visits_are : archive.rows.visits ≡ is.terminal.visits
  visits_are = ap (λ (r : Rows). r.visits) copy.is_own ∙ copy.parts.parts.visits ∙ ap (own_visits copy.archived.stays) (visits_same content copy.earlier copy.whole copy.parts.after) ∙ ap (λ (t : TerminalState). t.visits) (sym terminal_is)

  copy_ticket : option_map (shown view) (ticket_of archive.rows.visits archive.rows code n (Some p)) ≡ Some ticket
  copy_ticket =
      let mine : Source = record { partner = p; number = n } in
      ap (λ reply. option_map (shown view) (ticket_if_taken archive.rows.visits code p n reply)) (some_of (reply_in archive.rows p n) is.taken).1
      ∙ ap (λ visits. Some (shown view (value.ticket (told_ticket code mine visits)))) visits_are ∙ ap Some (sym is.tells)

-- ---- a number that is closed

module _ (content : SetupContent) (es : List Event) (archives : List Archive) (archived : Archived) (own whole : Rows) (given : IsGiven content) (are : ArePartsAfter content es archived own whole) (hold : Hold archives archived)
    (code : List ℕ) (p n : ℕ) (called : partner_called (content_after content es) code ≡ Some p) (low : 1 ≤ n) (high : n ≤ archived.last_closed p) where
  pub closed_here : IsClosedIn archives p n
  closed_here = (low, found_if_told (λ (archive : Archive). reply_in archive.rows p n) (archive_of archives p n) (ap is_some (hold.replies p n low high) ∙ are.closed.replied p n low high))

  ticket_here : (view : View) (ticket : List ℕ) → AreCopies content es (λ partner. 0) archives → IsTicketIn archives code p n view ticket → option_map (shown view) (closed_ticket archives code p n) ≡ Some ticket
  ticket_here view ticket copies is =
      let found = some_of (archive_of archives p n) closed_here.1 in
      let for = found_in_turn (IsCopy content es) p n (λ partner. 0) archives found.0 copies (omega (arith, low)) found.1 in
      ap (λ o. option_map (shown view) (option_and_then (λ (archive : Archive). ticket_of archive.rows.visits archive.rows code n (Some p)) o)) found.1
      ∙ copy_ticket content es given for.closed_before found.0 for.stands code p n view ticket (is low found.0 found.1)

  closed_shown : (asked : About) (view : View) (found : Option (List ℕ)) → IsOfNumber asked code n → ClosedTells archives asked view code p n found → TogetherTells content es archives archived whole asked view found
  closed_shown (about.Reply partner k) view found is told = λ _.
      let law = closed_replies content es archives archived own whole partner p k are hold (ap (partner_called (content_after content es)) is.0 ∙ called) (omega (arith, low, is.1)) (omega (arith, high, is.1)) in
      let same : option_map (shown view) (closed_reply archives (string_bytes partner) p k) ≡ found = (λ i. option_map (shown view) (closed_reply archives (is.0 i) p (is.1 i))) ∙ sym told in
      (closed_reply archives (string_bytes partner) p k, record { rows = whole; after = are.after; tells = law.reply }, sym same)
  closed_shown (about.Contrl partner k) view found is told = λ _.
      let law = closed_replies content es archives archived own whole partner p k are hold (ap (partner_called (content_after content es)) is.0 ∙ called) (omega (arith, low, is.1)) (omega (arith, high, is.1)) in
      let same : option_map (shown view) (closed_contrl archives (string_bytes partner) p k) ≡ found = (λ i. option_map (shown view) (closed_contrl archives (is.0 i) p (is.1 i))) ∙ sym told in
      (closed_contrl archives (string_bytes partner) p k, record { rows = whole; after = are.after; tells = law.contrl }, sym same)
  closed_shown (about.Ticket partner k) view found is told = λ _ by_numbers copies.
      let law = closed_tickets content es archives archived own whole partner p k are hold copies (ap (partner_called (content_after content es)) is.0 ∙ called) (omega (arith, low, is.1)) (omega (arith, high, is.1)) in
      let same : option_map (shown view) (closed_ticket archives (string_bytes partner) p k) ≡ found =
      (λ i. option_map (shown view) (closed_ticket archives (is.0 i) p (is.1 i))) ∙ ticket_here view told.0 copies told.1 ∙ sym told.2 in
      (closed_ticket archives (string_bytes partner) p k, record { rows = whole; after = are.after; tells = law }, sym same)
  closed_shown other view found is told = absurd is

  pub closed_told : (asked : Query) (found : Option (List ℕ)) → IsOfNumber asked.about code n → TellsClosed archives asked code p n found → TellsTogether content es archives archived whole asked found
  closed_told asked found is told = closed_shown asked.about asked.view found is told
