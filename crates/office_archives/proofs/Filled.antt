-- What a store tells from which lists are away, told with all lists.
use Rattle.std.specs.{Prelude.{◌==◌, filter, nat_le, not, Contains, string_bytes, String}, Str.bytes_eq, Cmp.Lexicographic.bytes_decides}
use Rattle.std.{specs.{Option.{option_map, option_and_then}, declared.alloc.Global.Global}, proofs.{lemmas.Bool.leb-true, lemmas.List.Elements.filter-append}}
use Rattle.std.proofs.Common.{◌≡◌, ℕ, ◌+◌, ◌<◌, ◌≤◌, List, [], ◌∷◌, ◌++◌, map, Bool, true, false, cond, Option, Some, refl, sym, ap, subst, ◌∙◌, arith, zero, None, is_some}
use Rattle.std.proofs.lemmas.Option.{same_Some}
use Rattle.terminal_core.specs.Rows.{ChangeContent, visit_opened, visit_closed, placed_at, moved_to, removed_from, listed_on, line_done, unlisted, VisitContent}
use Rattle.terminal_core.specs.{declared.lines.Side.Side, Drop.{container_in, is_pending}, State.{LineContent, TerminalState, line_key, line_of, open_visit}}
use Rattle.terminal_core.proofs.Dropping.{both_true}
use Rattle.office_rows.specs.{Rows.{Interchange, Rows}, Effects.{is_pair, with_change, with_waiting}, Stored.HasRows}
use Rattle.office_admission.specs.{Taking.{MachineState, interchange_taken}, Setups.{SetupContent, parties_in, setup_content}, Given.IsGiven}
use Rattle.office_history.specs.Cascade.{TakenContent, AreTakenFrom, text_in, texts_with, with_changes, with_interchange, with_interchanges, with_run}
use Rattle.office_history.{specs.After.{reply_in, AreKeptOnce, content_after, reply_if_any, SaysSame, machine_after}, proofs.{Runs.pair_of, Accounted.within}}
use Rattle.office_history.proofs.{Alike.{codes_after, now_with_codes}, Loads.{one_setup, one_terminal}}
use Rattle.office_parts.specs.{Closing.{is_beyond, is_closed}, Parts.{Archived, AreParts, ArePartsAfter}, Keeping.AreDoneIfAway, Staying.HasLine, Away.AreAway}
use Rattle.office_parts.specs.{OwnLists.{ListName, list_name, rows_without_lists, without_lists}, Archives.{Archive, archive_of, text_by, Hold}}
use Rattle.office_parts.{specs.OwnTerminal.own_terminal, proofs.{LeftOver.{stay_apart, told_alike}, KeepingLemmas.open_kept, BringingLemmas.own_there}}
use Rattle.office_parts.proofs.{Splits.{contained_has, has_contained, has_filtered, has_left, has_right}, Orders.archives_answered, Reading.away_alike}
use Rattle.office_parts.proofs.Writings.{own_office_without}
use Rattle.office_archives.specs.{Standing.{IsOwnWithRest, KnowsClosed}, Telling.{IsOfList, IsOfNeither, IsOfNumber}, Keeping.{IsClosedIn, IsKeptIn}}
use Rattle.office_archives.specs.{Answering.AnswersClosed, Opening.{OpenedStandBeside, OpensBeside}}
use Rattle.box6346.specs.{declared.box_number.BoxNumber.BoxNumber, declared.slot.Slot.Slot}
use Rattle.edi_messages.specs.{Owned.call_content, Purposes.CallContent, declared.call.Call.Call, declared.codes.PartnerKind.PartnerKind, Codes.table_texts}
use Rattle.edi_messages.specs.CodeText.{table_fault}
use Rattle.office_reports.specs.{declared.query.About.About, declared.query.Query.Query, Listed.AreListed, Lists.{list_by, HasLine as HasContent}, Work.work_by}
use Rattle.office_reports.specs.{Yard.{StandsAt, slot_in}, declared.yard.Standing.Standing, Containers.{blocker_in, by_visit, container_of, found_by, stay_by}}
use Rattle.office_reports.specs.{Visits.visits_of, Passages.arrival_by, OpenLines.{is_open_for, open_lines}, Partners.PartnerContent}
use Rattle.office_report_data.specs.Told.{ReportContent, shown}
use Rattle.office_desk.specs.Reports.{AreLookedUp, IsLookedUp, container_by, TellsAbout, TellsNext, TellsOf, TellsPartner, TellsReply, TellsReplyOf, contrl_for_partner, partner_called, ticket_of}
use Rattle.office_desk.{specs.{Answers.answer_by_model, Offices.DeskHolds, declared.desk.Desk.Desk}, proofs.OwnNumbers.answers_alike}
use Rattle.office_desk.proofs.DeliverLemmas.{own_once, shown_by_own}
use Rattle.edi_syntax.specs.Interchange.{interchange_of}
use Rattle.partner_core.specs.{Answers.{Repeat, Clash}, Standings.is_same_text}
use Rattle.office_replies.specs.{Contents.content_of, declared.deliver.Response.Response, Events.Event}
use Rattle.office_tables.{specs.{Answers.{IsKept, RepliesAs}, declared.interchanges.Kept.Kept}, proofs.WriteLemmas.{one_kept, text_kept}}
use Rattle.sqlite.specs.{Effect.Database, Held.state}
use Rattle.sqlite_trees.specs.declared.store.Store.{Ghosts}
use Rattle.office_loading.specs.Closed.{ClosedContent, closed_content}
use Rattle.office_report_data.specs.Told as value
use Rattle.office_reports.specs.declared.query.About.TheVariants as about

-- ==== Resting: Closed interchanges that still stand in a store, while others are written beyond them.

-- ---- texts

-- texts that agree from a number on are taken alike from there
pub taken_alike : (p : ℕ) (texts others : ℕ → Option (List ℕ)) (low : ℕ) → ((k : ℕ) → low ≤ k → others k ≡ texts k) → (n : ℕ) → low ≤ n → (m : MachineState) (taken : List TakenContent) (m' : MachineState)
    → AreTakenFrom p texts n m taken m' → AreTakenFrom p others n m taken m'
taken_alike p texts others low same n above m [] m' from = (same n above ∙ from.0, from.1)
taken_alike p texts others low same n above m (t ∷ later) m' from =
    (from.0, same n above ∙ from.1, from.2, from.3, from.4, taken_alike p texts others low same (n + 1) (omega (arith, above)) (interchange_taken m p from.0).0 later m' from.5)

module _ (archived : Archived) (own rows : Rows) (p n : ℕ) (text : List ℕ) (is_own : IsOwnWithRest archived own rows) where
  abbrev closed : ℕ → ℕ
  closed = archived.last_closed

  -- beyond what is closed they are the store's own
  pub texts_own : (k : ℕ) → closed p < k → texts_with own p n text k ≡ texts_with rows p n text k
  texts_own k far = ap (λ o. cond (n == k) (Some text) o) (ap (λ r. text_in r p k) (sym is_own.beyond) ∙ (told_alike closed rows p k far).text)

-- ---- the closed ones

append_none : {A : Type 0} (xs : List A) → xs ++ [] ≡ xs
append_none [] = refl
append_none (x ∷ xs) = ap (λ l. x ∷ l) (append_none xs)

module _ (closed : ℕ → ℕ) where
  abbrev at_rest : List Interchange → List Interchange
  at_rest xs = filter (is_closed closed) xs

  not_closed : (i : Interchange) → closed i.partner < i.number → is_closed closed i ≡ false
  not_closed i far = at (nat_le i.number (closed i.partner)) refl
    where
      at : (low : Bool) → nat_le i.number (closed i.partner) ≡ low → low ≡ false
      at true e = absurd (omega (arith, leb-true i.number (closed i.partner) e, far))
      at false e = refl

  rest_waiting : (p n : ℕ) (text : List ℕ) (rows : Rows) → closed p < n → at_rest (with_waiting p n text rows).interchanges ≡ at_rest rows.interchanges
  rest_waiting p n text rows far =
      let new : Interchange = record { partner = p; number = n; body = text; reply = [] } in
      filter-append (is_closed closed) rows.interchanges (new ∷ []) ∙ ap (λ b. at_rest rows.interchanges ++ cond b (new ∷ []) []) (not_closed new far) ∙ append_none (at_rest rows.interchanges)

  -- ---- replies

  abbrev replied : ℕ → ℕ → List ℕ → Interchange → Interchange
  replied p k reply i = cond (is_pair p k i) (record i { reply = reply }) i

  one_replied : (p k : ℕ) (reply : List ℕ) (i : Interchange) (xs ys : List Interchange) → closed p < k → xs ≡ ys → cond (is_closed closed (replied p k reply i)) (replied p k reply i ∷ xs) xs ≡ cond (is_closed closed i) (i ∷ ys) ys
  one_replied p k reply i xs ys far rest = at (is_pair p k i) refl
    where
      at : (is : Bool) → is_pair p k i ≡ is → cond (is_closed closed (cond is (record i { reply = reply }) i)) (cond is (record i { reply = reply }) i ∷ xs) xs ≡ cond (is_closed closed i) (i ∷ ys) ys
      at false e = ap (λ l. cond (is_closed closed i) (i ∷ l) l) rest
      at true e =
          let pair = pair_of p k i e in
          let own : closed i.partner ≡ closed p = ap closed pair.0 in
          let out : is_closed closed i ≡ false = not_closed i (omega (arith, own, pair.1, far)) in
          ap (λ b. cond b ((record i { reply = reply }) ∷ xs) xs) out ∙ rest ∙ sym (ap (λ b. cond b (i ∷ ys) ys) out)

  rest_replied : (p k : ℕ) (reply : List ℕ) (xs : List Interchange) → closed p < k → at_rest (map (replied p k reply) xs) ≡ at_rest xs
  rest_replied p k reply [] far = refl
  rest_replied p k reply (i ∷ xs) far = one_replied p k reply i (at_rest (map (replied p k reply) xs)) (at_rest xs) far (rest_replied p k reply xs far)

  change_leaves : (change : ChangeContent) (rows : Rows) → (with_change change rows).interchanges ≡ rows.interchanges
  change_leaves (visit_opened visit) rows = refl
  change_leaves (visit_closed number departure) rows = refl
  change_leaves (placed_at container visit slot) rows = refl
  change_leaves (moved_to container slot) rows = refl
  change_leaves (removed_from container) rows = refl
  change_leaves (listed_on call side container port) rows = refl
  change_leaves (line_done call side container) rows = refl
  change_leaves (unlisted call side container) rows = refl

  changes_leave : (changes : List ChangeContent) (rows : Rows) → (with_changes changes rows).interchanges ≡ rows.interchanges
  changes_leave [] rows = refl
  changes_leave (change ∷ changes) rows = changes_leave changes (with_change change rows) ∙ change_leaves change rows

  rest_interchanges : (p : ℕ) (texts : ℕ → Option (List ℕ)) (n : ℕ) (m : MachineState) (taken : List TakenContent) (m' : MachineState) (rows : Rows) → closed p < n → AreTakenFrom p texts n m taken m' → at_rest (with_interchanges p taken rows).interchanges ≡ at_rest rows.interchanges
  rest_interchanges p texts n m [] m' rows far from = refl
  rest_interchanges p texts n m (t ∷ later) m' rows far from =
      let changed = with_changes t.changes rows in
      rest_interchanges p texts (n + 1) (interchange_taken m p from.0).0 later m' (with_interchange p t rows) (omega (arith, far)) from.5
      ∙ rest_replied p t.number t.reply changed.interchanges (omega (arith, far, from.2)) ∙ ap at_rest (changes_leave t.changes rows)

-- ---- the rows after a text more

module _ (archived : Archived) (own rows : Rows) (p n : ℕ) (text : List ℕ) where
  pub waiting_is_own : IsOwnWithRest archived own rows → archived.last_closed p < n → IsOwnWithRest archived (with_waiting p n text own) (with_waiting p n text rows)
  waiting_is_own is_own far = record {
    beyond = (stay_apart archived.last_closed rows p n text [] far).waiting ∙ ap (with_waiting p n text) is_own.beyond;
    rest = λ i inside. is_own.rest i (subst (λ l. Contains l i) (rest_waiting archived.last_closed p n text rows far) inside);
  }

  pub run_is_own : (texts : ℕ → Option (List ℕ)) (m : MachineState) (taken : List TakenContent) (m' : MachineState) → IsOwnWithRest archived own rows → archived.last_closed p < n → AreTakenFrom p texts n m taken m'
      → IsOwnWithRest archived (with_run p n text taken own) (with_run p n text taken rows)
  run_is_own texts m taken m' is_own far from = record {
    beyond = (stay_apart archived.last_closed rows p n text taken far).run ∙ ap (with_run p n text taken) is_own.beyond;
    rest = λ i inside. is_own.rest i (subst (λ l. Contains l i)
        (rest_interchanges archived.last_closed p texts n m taken m' (with_waiting p n text rows) far from ∙ rest_waiting archived.last_closed p n text rows far) inside);
  }

-- each interchange of the store is of the whole
pub of_whole : (archived : Archived) (own whole rows : Rows) → AreParts archived own whole → IsOwnWithRest archived own rows → (i : Interchange) → Contains rows.interchanges i → Contains whole.interchanges i
of_whole archived own whole rows parts is_own i inside = subst (λ l. Contains l i) (sym parts.interchanges) (by (is_closed archived.last_closed i) refl)
  where
    by : (closed : Bool) → is_closed archived.last_closed i ≡ closed → Contains (archived.interchanges ++ own.interchanges) i
    by true e =
        let here = contained_has _ i (has_filtered (is_closed archived.last_closed) rows.interchanges i (has_contained _ i inside) e) in
        contained_has _ i (has_left archived.interchanges own.interchanges i (has_contained _ i (is_own.rest i here)))
    by false e =
        let here = contained_has _ i (has_filtered (is_beyond archived.last_closed) rows.interchanges i (has_contained _ i inside) (ap not e)) in
        let mine : Contains own.interchanges i = subst (λ l. Contains l i) (ap (λ (r : Rows). r.interchanges) is_own.beyond) here in
        contained_has _ i (has_right archived.interchanges own.interchanges i (has_contained _ i mine))

-- ==== Filled: What a store tells from which lists are away, told with all lists.

abbrev pub Entry : Type 0
Entry = List ℕ × LineContent

nothing_in_empty : (entry : Entry) → Contains [] entry → ⊥
nothing_in_empty entry (k, below, at) = absurd (omega (arith, below))

pub first_in : (entry : Entry) (list : List Entry) → Contains (entry ∷ list) entry
first_in entry list = (zero, omega arith, refl)

-- a list of which two terminals have the same lines
pub listed_alike : (one other : TerminalState) (call : CallContent) (side : Side) → ((container : BoxNumber) → line_of one call side container ≡ line_of other call side container) → (list : List Entry) → AreListed (HasContent one call side) list → AreListed (HasContent other call side) list
listed_alike one other call side same list listed = record {
  sorted = listed.sorted;
  each = λ container line has. listed.each container line (same container ∙ has);
  only = λ container line inside. sym (same container) ∙ listed.only container line inside;
}

module _ (away : ListName → Bool) (now : SetupContent) (state : TerminalState) (rows : Rows) where
  abbrev mine : TerminalState
  mine = without_lists away state

  abbrev own : Rows
  own = rows_without_lists away rows

  -- ---- neither of a container, of lists, nor of a number

  stands : (text : List ℕ) (standing : Standing) → StandsAt mine text standing → StandsAt state text standing
  stands text standing at = record { visit = at.visit; is_open = at.is_open; is_shown = at.is_shown; stands = at.stands; named = at.named }

  stands_here : (text : List ℕ) (standing : Standing) → StandsAt state text standing → StandsAt mine text standing
  stands_here text standing at = record { visit = at.visit; is_open = at.is_open; is_shown = at.is_shown; stands = at.stands; named = at.named }

  pub yard_listed : (yard : List (List ℕ × Standing)) → AreListed (StandsAt mine) yard → AreListed (StandsAt state) yard
  yard_listed yard listed = record {
    sorted = listed.sorted;
    each = λ text standing at. listed.each text standing (stands_here text standing at);
    only = λ text standing inside. stands text standing (listed.only text standing inside);
  }

  looked_up : (id : ℕ) (account : List ℕ × PartnerKind) (partner : PartnerContent) → IsLookedUp own id account partner → IsLookedUp rows id account partner
  looked_up id account partner is = record { code = is.code; kind = is.kind; next = is.next; waiting = is.waiting }

  pub all_looked_up : (id : ℕ) (accounts : List (List ℕ × PartnerKind)) (partners : List PartnerContent) → AreLookedUp own id accounts partners → AreLookedUp rows id accounts partners
  all_looked_up id [] [] all = tt
  all_looked_up id [] (partner ∷ partners) all = absurd all
  all_looked_up id (account ∷ accounts) [] all = absurd all
  all_looked_up id (account ∷ accounts) (partner ∷ partners) all = (looked_up id account partner all.0, all_looked_up (id + 1) accounts partners all.1)

  partner_filled : (accounts : List (List ℕ × PartnerKind)) (id : Option ℕ) (what : Option ReportContent) → TellsPartner own accounts id what → TellsPartner rows accounts id what
  partner_filled accounts None what told = told
  partner_filled accounts (Some id) what told = (told.0, told.1, (told.2.0, looked_up id told.0 told.2.0 told.2.1, told.2.2))

  next_filled : (id : Option ℕ) (found : Option (List ℕ)) → TellsNext own id found → TellsNext rows id found
  next_filled None found told = told
  next_filled (Some id) found told = told

  neither_told : (asked : About) (what : Option ReportContent) → IsOfNeither asked → TellsAbout now mine own asked what → TellsAbout now state rows asked what
  neither_told about.Yard what is told = (told.0, yard_listed told.0 told.1, told.2)
  neither_told about.Picture what is told =
      (told.0, told.1, record { yard = told.2.yard; listed = yard_listed told.2.yard told.2.listed; is = told.2.is })
  neither_told (about.Block letter) what is told = (told.0, yard_listed told.0 told.1, told.2)
  neither_told about.Blocks what is told = (told.0, record { yard = told.1.yard; listed = yard_listed told.1.yard told.1.listed; is = told.1.is }, told.2)
  neither_told (about.Next code) what is told = (told.0, next_filled (partner_called now (string_bytes code)) told.0 told.1, told.2)
  neither_told about.Partners what is told = (told.0, all_looked_up 1 now.partners told.0 told.1, told.2)
  neither_told (about.Partner code) what is told = partner_filled now.partners (partner_called now (string_bytes code)) what told
  neither_told about.Health what is told = told
  neither_told about.Metrics what is told = (told.0, (told.1.0, all_looked_up 1 now.partners told.1.0 told.1.1, told.1.2), told.2)
  neither_told other what is told = absurd is

  pub filled_neither : (asked : Query) (found : Option (List ℕ)) → IsOfNeither asked.about → TellsOf now mine own asked found → TellsOf now state rows asked found
  filled_neither asked found is told = (told.0, neither_told asked.about told.0 is told.1, told.2)

  -- ---- a number

  by_text : (code : List ℕ) (p n : ℕ) (text reply : Option (List ℕ)) (found : Option ReportContent) → TellsReply own code p n text reply found → TellsReply rows code p n text reply found
  by_text code p n None reply found told = told
  by_text code p n (Some text) reply found told = told

  reply_filled : (code : List ℕ) (n : ℕ) (id : Option ℕ) (found : Option ReportContent) → TellsReplyOf own code n id found → TellsReplyOf rows code n id found
  reply_filled code n None found told = told
  reply_filled code n (Some p) found told = by_text code p n (text_in rows p n) (reply_in rows p n) found told

  contrl_same : (code : List ℕ) (n : ℕ) (id : Option ℕ) → contrl_for_partner own code n id ≡ contrl_for_partner rows code n id
  contrl_same code n None = refl
  contrl_same code n (Some p) = refl

  ticket_same : (code : List ℕ) (n : ℕ) (id : Option ℕ) → ticket_of state.visits own code n id ≡ ticket_of state.visits rows code n id
  ticket_same code n None = refl
  ticket_same code n (Some p) = refl

  number_told : (asked : About) (what : Option ReportContent) (code : List ℕ) (n : ℕ) → IsOfNumber asked code n → TellsAbout now mine own asked what → TellsAbout now state rows asked what
  number_told (about.Reply partner k) what code n is told = reply_filled (string_bytes partner) k (partner_called now (string_bytes partner)) what told
  number_told (about.Contrl partner k) what code n is told = told ∙ contrl_same (string_bytes partner) k (partner_called now (string_bytes partner))
  number_told (about.Ticket partner k) what code n is told = λ view. told view ∙ ap (option_map (shown view)) (ticket_same (string_bytes partner) k (partner_called now (string_bytes partner)))
  number_told other what code n is told = absurd is

  pub filled_number : (asked : Query) (found : Option (List ℕ)) (code : List ℕ) (n : ℕ) → IsOfNumber asked.about code n → TellsOf now mine own asked found → TellsOf now state rows asked found
  filled_number asked found code n is told = (told.0, number_told asked.about told.0 code n is told.1, told.2)

  -- ---- a container

  pub filled_visits : (container : BoxNumber) (what : Option ReportContent) → TellsAbout now mine own (about.Visits container) what → TellsAbout now state rows (about.Visits container) what
  filled_visits container what told = told

  pub open_same : AreDoneIfAway away state.lines → (container : BoxNumber) → open_lines mine.lines container ≡ open_lines state.lines container
  open_same done container =
      open_kept away (is_open_for container) (λ entry is. (both_true (bytes_eq (container_in entry.0) container) (is_pending entry.1.state) is).1) state.lines done

  found_same : (container : BoxNumber) (visit : Option VisitContent) (slot : Option Slot) → open_lines mine.lines container ≡ open_lines state.lines container
      → found_by now mine container visit slot ≡ found_by now state container visit slot
  found_same container (Some visit) (Some slot) same =
      ap (λ lists. Some (by_visit visit container (Some (arrival_by now visit)) (Some (stay_by visit slot (blocker_in state container) lists)))) same
  found_same container (Some visit) None same = refl
  found_same container None slot same = refl

  -- no line is missing that is open
  pub filled_container : (container : BoxNumber) (what : Option ReportContent) → AreDoneIfAway away state.lines → TellsAbout now mine own (about.Container container) what → TellsAbout now state rows (about.Container container) what
  filled_container container what done told =
      let lines = open_same done container in
      told
      ∙ ap (option_map (container_by now mine container)) (found_same container (open_visit state container) (slot_in state container) lines)
      ∙ ap (λ lists. option_map (λ report. value.container report lists (visits_of now state container)) (container_of now state container)) lines

  -- ---- a list

  line_there : (call : CallContent) (side : Side) → away (list_name call side) ≡ false → (container : BoxNumber) → line_of mine call side container ≡ line_of state call side container
  line_there call side here container = own_there away state.lines (line_key call side container) here

  work_same : (call : CallContent) (side : Side) (list : List Entry) → work_by mine call side list ≡ work_by state call side list
  work_same call side [] = refl
  work_same call side (entry ∷ list) = refl

  -- it is here
  list_filled : (asked : About) (what : Option ReportContent) (call : CallContent) (side : Side) → IsOfList asked call side → away (list_name call side) ≡ false → TellsAbout now mine own asked what → TellsAbout now state rows asked what
  list_filled (about.List named on) what call side is here told =
      let its : away (list_name (call_content named) on) ≡ false = (λ i. away (list_name (is.0 i) (is.1 i))) ∙ here in
      record { list = told.list; listed = listed_alike mine state (call_content named) on (line_there (call_content named) on its) told.list told.listed; is = told.is }
  list_filled (about.Work named on) what call side is here told =
      let its : away (list_name (call_content named) on) ≡ false = (λ i. away (list_name (is.0 i) (is.1 i))) ∙ here in
      record { list = told.list; listed = listed_alike mine state (call_content named) on (line_there (call_content named) on its) told.list told.listed; is = told.is ∙ ap (option_map value.work) (work_same (call_content named) on told.list) }
  list_filled other what call side is here told = absurd is

  pub filled_list : (asked : Query) (found : Option (List ℕ)) (call : CallContent) (side : Side) → IsOfList asked.about call side → away (list_name call side) ≡ false → TellsOf now mine own asked found → TellsOf now state rows asked found
  filled_list asked found call side is here told = (told.0, list_filled asked.about told.0 call side is here told.1, told.2)

  -- ---- whether a list has lines in the store

  no_content : (call : CallContent) (side : Side) (list : List Entry) → AreListed (HasContent mine call side) list → None ≡ option_map value.list (list_by call side list)
      → (container : BoxNumber) (line : Option LineContent) → line_of mine call side container ≡ line → line ≡ None
  no_content call side [] listed is container None has = refl
  no_content call side [] listed is container (Some line) has = absurd (nothing_in_empty (container, line) (listed.each container line has))
  no_content call side (entry ∷ list) listed is container line has = cc

  -- nothing is told of it
  pub no_list : (call : Call) (side : Side) (what : Option ReportContent) → what ≡ None → TellsAbout now mine own (about.List call side) what
      → (container : BoxNumber) → line_of mine (call_content call) side container ≡ None
  no_list call side what none told container =
      no_content (call_content call) side told.list told.listed (sym none ∙ told.is) container (line_of mine (call_content call) side container) refl

  some_content : (call : CallContent) (side : Side) (list : List Entry) (one : ReportContent) → AreListed (HasContent mine call side) list → Some one ≡ option_map value.list (list_by call side list) → HasLine mine call side
  some_content call side [] one listed is = absurd cc
  some_content call side (entry ∷ list) one listed is = record { container = entry.0; line = entry.1; has = listed.only entry.0 entry.1 (first_in entry list) }

  -- something is told of it
  pub some_list : (call : Call) (side : Side) (what : Option ReportContent) (one : ReportContent) → what ≡ Some one → TellsAbout now mine own (about.List call side) what → HasLine mine (call_content call) side
  some_list call side what one some told = some_content (call_content call) side told.list one told.listed (sym some ∙ told.is)

-- ==== Telling: What archives keep of a number, and what is answered by it.

reply_is : (reply : Option (String Global)) (text : List ℕ) → RepliesAs reply text → reply_if_any text ≡ option_map string_bytes reply
reply_is None text is = ap reply_if_any is
reply_is (Some reply) [] is = absurd (is.1 refl)
reply_is (Some reply) (byte ∷ bytes) is = ap Some is.0

told_some : {A B : Type 0} (f : A → Option B) (o : Option A) (y : B) → option_and_then f o ≡ Some y → is_some o ≡ true
told_some f None y e = cc
told_some f (Some x) y e = refl

-- an archive that tells a text reaches the number
closed_by : (archives : List Archive) (p n : ℕ) (text : List ℕ) → 1 ≤ n → text_by archives p n ≡ Some text → IsClosedIn archives p n
closed_by archives p n text low has = (low, told_some (λ (archive : Archive). text_in archive.rows p n) (archive_of archives p n) text has)

-- what the rows of a number's archive keep is what the archives keep
pub told_by : (archives : List Archive) (archive : Archive) (p n : ℕ) (kept : Kept) → archive_of archives p n ≡ Some archive → AreKeptOnce archive.rows.interchanges → IsKept p n archive.rows (Some kept) → IsKeptIn archives p n kept
told_by archives archive p n kept reached once is = record {
  text = ap (option_and_then (λ (a : Archive). text_in a.rows p n)) reached ∙ text_kept p n archive.rows kept once is;
  reply = ap (option_and_then (λ (a : Archive). reply_in a.rows p n)) reached
      ∙ ap (option_and_then (λ (i : Interchange). reply_if_any i.reply)) (one_kept p n archive.rows is.0 once is.1) ∙ reply_is kept.reply is.0.reply is.3;
}

-- the same text is a repeat with the reply that is kept
pub repeat_answers : (archives : List Archive) (p : ℕ) (code : List ℕ) (n : ℕ) (kept : Kept) (text : List ℕ) (reply : String Global) (response : Response) →
    (IsClosedIn archives p n → IsKeptIn archives p n kept) → kept.text.items ≡ text → kept.reply ≡ Some reply →
    content_of response ≡ answer_by_model code n (Repeat (Some (string_bytes reply))) → AnswersClosed archives p code n text response
repeat_answers archives p code n kept text reply response keeps same replied given = λ content es archived own whole sent are hold text_is for high.
    let by = archives_answered content es archives archived own whole sent p n are hold for high in
    let low : 1 ≤ n = (within (parties_in (content_after content es)) (interchange_of sent) p n for).2 in
    let told = keeps (closed_by archives p n by.text low by.has_text) in
    let text_same : by.text ≡ kept.text.items = same_Some by.text kept.text.items (sym by.has_text ∙ told.text) in
    let reply_same : by.reply ≡ string_bytes reply = same_Some by.reply (string_bytes reply) (sym by.has_reply ∙ told.reply ∙ ap (option_map string_bytes) replied) in
    given ∙ ap (λ r. answer_by_model code n (Repeat (Some r))) (sym reply_same) ∙ ap (answer_by_model code n) (sym (by.repeat (text_same ∙ same ∙ text_is)))

-- another text is a clash
pub clash_answers : (archives : List Archive) (p : ℕ) (code : List ℕ) (n : ℕ) (kept : Kept) (text : List ℕ) (response : Response) →
    (IsClosedIn archives p n → IsKeptIn archives p n kept) → (kept.text.items ≡ text → ⊥) →
    content_of response ≡ answer_by_model code n Clash → AnswersClosed archives p code n text response
clash_answers archives p code n kept text response keeps apart given = λ content es archived own whole sent are hold text_is for high.
    let by = archives_answered content es archives archived own whole sent p n are hold for high in
    let low : 1 ≤ n = (within (parties_in (content_after content es)) (interchange_of sent) p n for).2 in
    let told = keeps (closed_by archives p n by.text low by.has_text) in
    let text_same : by.text ≡ kept.text.items = same_Some by.text kept.text.items (sym by.has_text ∙ told.text) in
    given ∙ ap (answer_by_model code n) (sym (by.clash (λ e. apart (sym text_same ∙ e ∙ sym text_is))))

-- ---- the same text, or another

opposite : (is other : Bool) → other ≡ not is → not other ≡ is
opposite true other e = ap not e
opposite false other e = ap not e

pub same_text : (own text : List ℕ) → false ≡ not (is_same_text own text) → own ≡ text
same_text own text e = (bytes_decides own text).0 (sym (opposite (is_same_text own text) false e))

pub other_text : (own text : List ℕ) → true ≡ not (is_same_text own text) → own ≡ text → ⊥
other_text own text e same = let never : false ≡ true = opposite (is_same_text own text) true e ∙ (bytes_decides own text).1 same in absurd cc

-- ==== Opening: A desk that is opened over a store's own rows.

-- a desk that holds the store's rows with the terminal of its own goes on from there, for the opening set-up with its codes
pub beside_alike : {S : Type 0} (g : Ghosts S) (archives : List Archive) (content : SetupContent) (es : List Event) (desk : Desk S g) (archived : Archived) (own whole rows : Rows) (away : ListName → Bool) → IsGiven content → ArePartsAfter content es archived own whole → Hold archives archived
    → KnowsClosed (closed_content desk.closed) archived → IsOwnWithRest archived own rows → AreAway archives away content es own → SaysSame (setup_content desk.setup) (content_after content es)
    → DeskHolds g desk (rows_without_lists away rows) (without_lists away (own_terminal archived.stays (machine_after content es).terminal))
    → OpensBeside g archives content es desk
beside_alike g archives content es desk archived own whole rows away given parts hold knows is_own lists says holds =
    let mine : SetupContent = setup_content desk.setup in
    let opening : SetupContent = record content { codes = mine.codes } in
    let texts : table_texts mine.codes ≡ table_texts content.codes = says.codes ∙ ap table_texts (codes_after es content) in
    let same : SaysSame content opening = record { terminal = refl; codes = sym texts; partners = refl; blocks = refl; limit = refl } in
    let alike = answers_alike content opening same es in
    record {
      says = says;
      opening = opening;
      opening_says = record { terminal = refl; codes = texts; partners = refl; blocks = refl; limit = refl };
      stands = record {
        given = record {
          terminal = given.terminal;
          counted = given.counted;
          coded = given.coded;
          distinct = given.distinct;
          codes = ap table_fault texts ∙ given.codes;
          plan = given.plan;
          by_letter = given.by_letter;
          limit = given.limit;
        };
        now_is = now_with_codes es content mine.codes
            ∙ sym (λ i. record { terminal = says.terminal i; codes = mine.codes; partners = says.partners i; blocks = says.blocks i; visit_limit = says.limit i });
        archived = archived;
        own = own;
        whole = whole;
        parts = record { after = alike.rows whole parts.after; closed = parts.closed; parts = parts.parts; stay = parts.stay };
        hold = hold;
        knows = knows;
        rows = rows;
        is_own = is_own;
        away = away;
        lists = away_alike content opening es archives away own same lists;
        holds = subst (DeskHolds g desk (rows_without_lists away rows)) (ap (λ t. without_lists away (own_terminal archived.stays t)) alike.terminal) holds;
      };
    }

pub opened_beside : {S : Type 0} (g : Ghosts S) → OpenedStandBeside g
opened_beside g archives content es found desk given schema is opens =
    let db : Database = (state g found).committed in
    let closed : ClosedContent = closed_content desk.closed in
    let own : SetupContent = setup_content desk.setup in
    let now : SetupContent = content_after content es in
    let R : Rows = rows_without_lists is.away is.rows in
    let mine : TerminalState = without_lists is.away (own_terminal is.archived.stays (machine_after content es).terminal) in
    let has : HasRows R db = subst (HasRows R) (λ i. record { schema = sym schema i; trees = db.trees }) is.are in
    let loads = opens.loads in
    let once : AreKeptOnce R.interchanges = own_once closed db R loads.0 own opens.there.terminal has loads.1 loads.2 in
    let shown = own_office_without content es is.archived is.own is.whole R is.away db closed.newest_closed given is.parts (ap (rows_without_lists is.away) is.is_own.beyond) once (of_whole is.archived is.own is.whole is.rows is.parts.parts is.is_own) is.knows.visits has in
    let one = shown_by_own closed loads.0 own opens.there.terminal loads.2 in
    let two = shown_by_own (record { last_closed = is.archived.last_closed; newest_closed = closed.newest_closed }) shown.0 now mine shown.2 in
    let same : opens.there.terminal ≡ mine = one_terminal db loads.0 shown.0 own now opens.there.terminal mine loads.1 shown.1 one two in
    let says : SaysSame own now = one_setup db loads.0 shown.0 own now opens.there.terminal mine loads.1 shown.1 one two in
    beside_alike g archives content es desk is.archived is.own is.whole is.rows is.away given is.parts is.hold is.knows is.is_own is.lists says (subst (DeskHolds g desk R) same (opens.holds R has))
