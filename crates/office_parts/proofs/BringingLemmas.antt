-- A list that is brought back.
use Rattle.std.specs.{Prelude.{filter, not, ◌&&◌, ◌||◌}, FinMap.Entries.{where_key, is_sorted-where_key, find-where_key, same_entries}, Ordering.eq_by_cmp}
use Rattle.std.{specs.{Result.MatchResult, List.AllByRecursion}, proofs.lemmas.List.Elements.{filter-append, All-from_recursion, recursion_from_All}}
use Rattle.std.proofs.Common.{◌≡◌, List, [], ◌∷◌, map, Bool, true, false, cond, Option, None, Some, refl, sym, ap, ◌∙◌, ℕ, ◌++◌, Result, Ok, Err, ap₂, nat_le, is_some, IfOk, ◌≤◌, subst, IsPermutation}
use Rattle.std.proofs.lemmas.List.Sorted.{IsPermutation-refl, IsPermutation-trans, IsPermutation-append, IsPermutation-filter_both, sum_by-IsPermutation, All-permutation}
use Rattle.box6346.specs.{declared.box_number.BoxNumber.BoxNumber, declared.slot.Slot.Slot}
use Rattle.edi_messages.specs.{Purposes.CallContent, Orders.{EntryContent, gate_in, gate_out, move, list_discharge, list_load, discharge, load}}
use Rattle.edi_messages.specs.{ErrorCodes.message_error, Message.MessageContent, declared.codes.Codes.Codes, declared.message.MessageFault.MessageFault}
use Rattle.edi_messages.specs.declared.message.MessageFault.TheVariants.{Memory}
use Rattle.terminal_core.specs.{declared.lines.Side.Side, State.{LineContent, LineKey, Lines, line_key, TerminalState, line_of, is_in, last_number}}
use Rattle.terminal_core.specs.{Drop.{is_pending, is_on, container_in, is_open_on, open_containers, without_lines_of, dropped_lines}, declared.visits.Way.Way}
use Rattle.terminal_core.specs.{declared.visits.Departure.Departure, declared.lines.LineState.LineState, declared.change.Outcome.Outcome}
use Rattle.terminal_core.specs.{declared.lines.LineState.TheVariants.{Pending, Done as LineIsDone}, declared.lines.Side.TheVariants.{Load, Discharge}}
use Rattle.terminal_core.specs.{declared.change.Outcome.TheVariants.{Done, Gone, Listed, Refused}, declared.change.Source.Source, Rows.{listed_on, line_done}}
use Rattle.terminal_core.specs.{declared.change.Version.Version, declared.visits.Way.TheVariants.{Gate, Ship}, Versions.{spares_empty, newest}}
use Rattle.terminal_core.specs.Step.{StepResult, step_with, yard_with_entry, after_entry, after_entry_at, after_departure, after_departure_at, departure_by, after_move_at, after_listing_at, then_line_done_at, by_line, by_state}
use Rattle.terminal_core.proofs.{Lined.{order, keys_total, keys_apart, same_key}, Dropping.{both_true, key_on}, Whole.whole_listed}
use Rattle.office_parts.specs.OwnLists.{ListName, list_name, list_of, own_lines, without_lists, step_without, is_own_line}
use Rattle.office_parts.specs.ListLaws.{OrdersSpareLists, TerminalsWithoutListsAreSound}
use Rattle.office_parts.specs.Naming.{list_read, lists_in_messages, lists_opened, lists_named_by, interchange_lists}
use Rattle.office_parts.specs.Bringing.{is_list, all_but, is_of, LinesStandInAnyOrder, ListsAreBroughtBack, MoreListsArePutAway}
use Rattle.yard_core.specs.{YardMap.YardMap, Decisions.{Refusal, yard_without, yard_with_move}, declared.placements.Placement.Placement}
use Rattle.edi_syntax.specs.{Moments.CivilMoment, Text.Content, Envelope.{header_of, messages_of}, Envelopes.envelope_segments, Header.preparation}
use Rattle.office_admission.specs.{Outcomes.IsAdmitted, declared.admission.Admitted.Admitted, Parties.partner_kinds, declared.setup.Setup.Setup}
use Rattle.office_rows.specs.{Effects.is_line, Rows.ListingContent, ByKey.standing_by}
use Rattle.office_history.proofs.Loads.{lines_same}
use Rattle.std.specs.FinMap as finite_map

-- ==== Lines: Lines by their keys, of which those of some lists are left out.

module _ (away : ListName → Bool) where
  abbrev is_own : LineKey → Bool
  is_own key = not (away (list_of key))

  -- ---- one line

  pub own_get : (lines : Lines) (key : LineKey) → finite_map.get (own_lines away lines) key ≡ cond (is_own key) (finite_map.get lines key) None
  own_get lines key = finite_map.get-retain_keys lines is_own key (λ x tie. ap is_own (sym (keys_apart key x tie)))

  pub own_there : (lines : Lines) (key : LineKey) → away (list_of key) ≡ false → finite_map.get (own_lines away lines) key ≡ finite_map.get lines key
  own_there lines key here = own_get lines key ∙ ap (λ b. cond (not b) (finite_map.get lines key) None) here

  both_put : (tie own : Bool) (some got : Option LineContent) → (tie ≡ true → own ≡ true) → cond tie some (cond own got None) ≡ cond own (cond tie some got) None
  both_put true true some got here = refl
  both_put true false some got here = let no : false ≡ true = here refl in cc
  both_put false true some got here = refl
  both_put false false some got here = refl

  pub own_inserted : (lines : Lines) (key : LineKey) (line : LineContent) → away (list_of key) ≡ false → finite_map.insert (own_lines away lines) key line ≡ own_lines away (finite_map.insert lines key line)
  own_inserted lines key line here = finite_map.same_map keys_total keys_apart _ _ (λ q.
      finite_map.get-insert keys_total (own_lines away lines) key line q
      ∙ ap (cond (eq_by_cmp order q key) (Some line)) (own_get lines q)
      ∙ both_put (eq_by_cmp order q key) (is_own q) (Some line) (finite_map.get lines q) (λ tie. ap is_own (same_key q key tie) ∙ ap not here)
      ∙ ap (λ o. cond (is_own q) o None) (sym (finite_map.get-insert keys_total lines key line q))
      ∙ sym (own_get (finite_map.insert lines key line) q))

  both_taken : (tie own : Bool) (got : Option LineContent) → cond tie None (cond own got None) ≡ cond own (cond tie None got) None
  both_taken true true got = refl
  both_taken true false got = refl
  both_taken false true got = refl
  both_taken false false got = refl

  pub own_removed : (lines : Lines) (key : LineKey) → finite_map.remove (own_lines away lines) key ≡ own_lines away (finite_map.remove lines key)
  own_removed lines key = finite_map.same_map keys_total keys_apart _ _ (λ q.
      finite_map.get-remove keys_total (own_lines away lines) key q
      ∙ ap (cond (eq_by_cmp order q key) None) (own_get lines q)
      ∙ both_taken (eq_by_cmp order q key) (is_own q) (finite_map.get lines q)
      ∙ ap (λ o. cond (is_own q) o None) (sym (finite_map.get-remove keys_total lines key q))
      ∙ sym (own_get (finite_map.remove lines key) q))

  -- ---- the open lines of a list

  pub own_entries : (lines : Lines) → finite_map.entries (own_lines away lines) ≡ where_key order is_own (finite_map.entries lines)
  own_entries lines = same_entries order keys_total keys_apart _ _
      (finite_map.entries_sorted (own_lines away lines))
      (is_sorted-where_key order is_own (finite_map.entries lines) (finite_map.entries_sorted lines))
      (λ q. sym (finite_map.get-entries (own_lines away lines) q) ∙ own_get lines q
      ∙ ap (λ o. cond (is_own q) o None) (finite_map.get-entries lines q)
      ∙ sym (find-where_key order is_own q (λ x tie. ap is_own (sym (keys_apart q x tie))) (finite_map.entries lines)))

  module _ (call : CallContent) (side : Side) (here : away (list_name call side) ≡ false) where
    open_is_own : (e : LineKey × LineContent) → is_open_on call side e ≡ true → is_own e.0 ≡ true
    open_is_own e is = ap is_own (key_on call side e.0 (both_true (is_on call side e.0) (is_pending e.1.state) is).0) ∙ ap not here

    opens_kept : (es : List (LineKey × LineContent)) → filter (is_open_on call side) (where_key order is_own es) ≡ filter (is_open_on call side) es
    opens_kept [] = refl
    opens_kept (e ∷ es) = by (is_own e.0) (is_open_on call side e) refl refl (opens_kept es)
      where
        by : (own is : Bool) → is_own e.0 ≡ own → is_open_on call side e ≡ is → filter (is_open_on call side) (where_key order is_own es) ≡ filter (is_open_on call side) es
            → filter (is_open_on call side) (cond own (e ∷ where_key order is_own es) (where_key order is_own es)) ≡ cond is (e ∷ filter (is_open_on call side) es) (filter (is_open_on call side) es)
        by true true o p rest = ap (λ b. cond b (e ∷ filter (is_open_on call side) (where_key order is_own es)) (filter (is_open_on call side) (where_key order is_own es))) p ∙ ap (λ l. e ∷ l) rest
        by true false o p rest = ap (λ b. cond b (e ∷ filter (is_open_on call side) (where_key order is_own es)) (filter (is_open_on call side) (where_key order is_own es))) p ∙ rest
        by false true o p rest = let own : is_own e.0 ≡ true = open_is_own e p in cc
        by false false o p rest = rest

    pub own_open : (lines : Lines) → open_containers (own_lines away lines) call side ≡ open_containers lines call side
    own_open lines = ap (λ l. map (λ (e : LineKey × LineContent). container_in e.0) l) (ap (filter (is_open_on call side)) (own_entries lines) ∙ opens_kept (finite_map.entries lines))

  own_unlisted : (call : CallContent) (side : Side) (containers : List BoxNumber) (lines : Lines) → without_lines_of call side containers (own_lines away lines) ≡ own_lines away (without_lines_of call side containers lines)
  own_unlisted call side [] lines = refl
  own_unlisted call side (b ∷ containers) lines =
      ap (without_lines_of call side containers) (own_removed lines (line_key call side b))
      ∙ own_unlisted call side containers (finite_map.remove lines (line_key call side b))

  pub own_dropped : (lines : Lines) (call : CallContent) (side : Side) → away (list_name call side) ≡ false → dropped_lines (own_lines away lines) call side ≡ own_lines away (dropped_lines lines call side)
  own_dropped lines call side here =
      ap (λ l. without_lines_of call side l (own_lines away lines)) (own_open call side here lines)
      ∙ own_unlisted call side (open_containers lines call side) lines

-- ==== Orders: An order that names no list that was put away, at the terminal without them.

module _ (away : ListName → Bool) where
  abbrev kept : TerminalState → TerminalState
  kept = without_lists away

  abbrev beside : StepResult → StepResult
  beside = step_without away

  either_beside : (b : Bool) (x y x' y' : StepResult) → x' ≡ beside x → y' ≡ beside y → cond b x' y' ≡ beside (cond b x y)
  either_beside true x y x' y' e f = e
  either_beside false x y x' y' e f = f

  entered_beside : (state : TerminalState) (way : Way) (source : Source) (entry : EntryContent) (r : Result (YardMap × Slot) Refusal) → after_entry_at (kept state) way source entry r ≡ beside (after_entry_at state way source entry r)
  entered_beside state way source entry (Err refusal) = refl
  entered_beside state way source entry (Ok (y, slot)) = refl

  entry_beside : (version : Version) (state : TerminalState) (way : Way) (source : Source) (entry : EntryContent) → after_entry version (kept state) way source entry ≡ beside (after_entry version state way source entry)
  entry_beside version state way source entry =
      either_beside (nat_le state.limit (last_number state.visits)) _ _ _ _ refl (entered_beside state way source entry (yard_with_entry version state.yard entry))

  departed_beside : (state : TerminalState) (container : BoxNumber) (departure : Departure) (r : Result (YardMap × Placement) Refusal) → after_departure_at (kept state) container departure r ≡ beside (after_departure_at state container departure r)
  departed_beside state container departure (Err refusal) = refl
  departed_beside state container departure (Ok (y, stood)) = refl

  moved_beside : (state : TerminalState) (container : BoxNumber) (slot : Slot) (r : Result YardMap Refusal) → after_move_at (kept state) container slot r ≡ beside (after_move_at state container slot r)
  moved_beside state container slot (Err refusal) = refl
  moved_beside state container slot (Ok y) = refl

  -- ---- lines of own lists

  module _ (call : CallContent) (side : Side) (here : away (list_name call side) ≡ false) where
    line_kept : (state : TerminalState) (container : BoxNumber) → line_of (kept state) call side container ≡ line_of state call side container
    line_kept state container = own_there away state.lines (line_key call side container) here

    listed_beside : (state : TerminalState) (container : BoxNumber) (port : List ℕ) (o : Option LineContent) → after_listing_at (kept state) call side container port o ≡ beside (after_listing_at state call side container port o)
    listed_beside state container port (Some line) = refl
    listed_beside state container port None =
        ap (λ lines. step_with (record state { lines = lines }) Listed (listed_on call side container port ∷ [])) (own_inserted away state.lines (line_key call side container) (record { port = port; state = Pending }) here)

    then_beside : (container : BoxNumber) (line : LineContent) (after : StepResult) (o : Outcome) → then_line_done_at call side container line (beside after) o ≡ beside (then_line_done_at call side container line after o)
    then_beside container line after (Refused reason) = refl
    then_beside container line after (Done slot) = ap (λ lines. step_with (record after.state { lines = lines }) after.outcome (after.changes ++ line_done call side container ∷ [])) (own_inserted away after.state.lines (line_key call side container) (record line { state = LineIsDone }) here)
    then_beside container line after Gone = ap (λ lines. step_with (record after.state { lines = lines }) after.outcome (after.changes ++ line_done call side container ∷ [])) (own_inserted away after.state.lines (line_key call side container) (record line { state = LineIsDone }) here)
    then_beside container line after Listed = ap (λ lines. step_with (record after.state { lines = lines }) after.outcome (after.changes ++ line_done call side container ∷ [])) (own_inserted away after.state.lines (line_key call side container) (record line { state = LineIsDone }) here)

    state_beside : (state : TerminalState) (container : BoxNumber) (line : LineContent) (after : StepResult) (s : LineState) → by_state (kept state) call side container line (beside after) s ≡ beside (by_state state call side container line after s)
    state_beside state container line after LineIsDone = refl
    state_beside state container line after Pending = then_beside container line after after.outcome

    by_line_beside : (state : TerminalState) (container : BoxNumber) (o : Option LineContent) (after : StepResult) → by_line (kept state) call side container o (beside after) ≡ beside (by_line state call side container o after)
    by_line_beside state container None after = refl
    by_line_beside state container (Some line) after = state_beside state container line after line.state

    listing_beside : (state : TerminalState) (container : BoxNumber) (port : List ℕ) → after_listing_at (kept state) call side container port (line_of (kept state) call side container) ≡ beside (after_listing_at state call side container port (line_of state call side container))
    listing_beside state container port =
        ap (after_listing_at (kept state) call side container port) (line_kept state container)
        ∙ listed_beside state container port (line_of state call side container)

    lined_beside : (state : TerminalState) (container : BoxNumber) (after after' : StepResult) → after' ≡ beside after
        → by_line (kept state) call side container (line_of (kept state) call side container) after' ≡ beside (by_line state call side container (line_of state call side container) after)
    lined_beside state container after after' e =
        ap₂ (by_line (kept state) call side container) (line_kept state container) e
        ∙ by_line_beside state container (line_of state call side container) after

-- ---- the table of orders

pub orders : OrdersSpareLists
orders away version state source (gate_in entry) here = either_beside away (is_in state entry.number) _ _ _ _ refl (entry_beside away version state Gate source entry)
orders away version state source (gate_out container moment) here = departed_beside away state container (departure_by Gate source moment) (yard_without state.yard container)
orders away version state source (move container slot) here = moved_beside away state container slot (yard_with_move (spares_empty version) state.yard container slot)
orders away version state source (list_discharge call container) here = listing_beside away call Discharge here.0 state container []
orders away version state source (list_load call container port) here = listing_beside away call Load here.0 state container port
orders away version state source (discharge call entry) here =
    either_beside away (is_in state entry.number) _ _ _ _ refl
    (lined_beside away call Discharge here.0 state entry.number (after_entry version state Ship source entry) _ (entry_beside away version state Ship source entry))
orders away version state source (load call container moment) here =
    either_beside away (is_in state container) _ _ _ _
    (lined_beside away call Load here.0 state container (after_departure state Ship source container moment) _ (departed_beside away state container (departure_by Ship source moment) (yard_without state.yard container)))
    refl

-- ---- what is left

pub sound : TerminalsWithoutListsAreSound
sound away state whole formed = (
  whole_listed state (own_lines away state.lines) whole,
  record {
    visits = formed.visits;
    lines = λ call side container line is. formed.lines call side container line (there (away (list_name call side)) _ (sym (own_get away state.lines (line_key call side container)) ∙ is));
    slots = formed.slots;
  },
)
  where
    there : (is : Bool) {line : LineContent} (o : Option LineContent) → cond (not is) o None ≡ Some line → o ≡ Some line
    there true o e = cc
    there false o e = e

-- ==== NamingLemmas: What is read of a text that was admitted names the lists that the text names.

-- a message that is rejected names none, unless memory was refused
pub rejected_names_none : (read : Result MessageContent MessageFault) (fault : MessageFault) → MatchResult read (λ _. fault ≡ Memory) (λ lowest. fault ≡ lowest) → is_some (message_error fault) ≡ true → [] ≡ list_read read
rejected_names_none (Err lowest) fault is some = refl
rejected_names_none (Ok content) fault is some = let none : is_some (message_error Memory) ≡ true = ap (λ f. is_some (message_error f)) (sym is) ∙ some in cc

pub named_is : (setup : Setup) (text : List ℕ) (admitted : Admitted) (codes : Codes) (opened : CivilMoment) → IsAdmitted setup text admitted →
    codes.kind ≡ admitted.kind → codes.table ≡ setup.codes → preparation (header_of (envelope_segments admitted.envelope)) ≡ Some opened
    → interchange_lists newest setup.codes (partner_kinds setup.partners.items) admitted.partner text
    ≡ lists_in_messages newest codes opened (messages_of (envelope_segments admitted.envelope))
named_is setup text admitted codes opened is same_kind same_table prepared =
    let segments = envelope_segments admitted.envelope in
    let same_codes : record { kind = admitted.kind; table = setup.codes } ≡ codes = λ i. record { kind = sym same_kind i; table = sym same_table i } in
    ap (lists_named_by newest setup.codes text) is.kind
    ∙ ap (λ (others : List Content). lists_opened newest (record { kind = admitted.kind; table = setup.codes }) (messages_of others) (preparation (header_of others))) (sym is.segments)
    ∙ ap (lists_opened newest (record { kind = admitted.kind; table = setup.codes }) (messages_of segments)) prepared
    ∙ ap (λ c. lists_in_messages newest c opened (messages_of segments)) same_codes

pub if_ok : {T E : Type 0} (r : Result T E) (P Q : T → Type 0) → ((x : T) → P x → Q x) → IfOk r P → IfOk r Q
if_ok (Ok x) P Q f p = f x p
if_ok (Err e) P Q f p = p

pub if_both : {T E : Type 0} (r : Result T E) (P Q S : T → Type 0) → ((x : T) → P x → Q x → S x) → IfOk r P → IfOk r Q → IfOk r S
if_both (Ok x) P Q S f p q = f x p q
if_both (Err e) P Q S f p q = q

-- ==== BringingLemmas: A list that is brought back.

-- ---- any order

pub any_order : LinesStandInAnyOrder
any_order content es rows lines after same = record {
  partners = after.partners;
  texts = after.texts;
  replies = after.replies;
  kept_once = after.kept_once;
  terminal = (λ i. record { visits = rows.visits; places = standing_by rows.places; lines = lines_same rows.lines lines after.listed_once same i }) ∙ after.terminal;
  placed_once = after.placed_once;
  listed_once = λ call side container. subst (λ n. n ≤ 1) (sym (sum_by-IsPermutation (λ l. cond (is_line call side container l) 1 0) rows.lines lines same)) (after.listed_once call side container);
  settings = after.settings;
  blocks = after.blocks;
}

-- ---- lines by lists

module _ {X : Type 0} (p q : X → Bool) where
  abbrev pub both : X → Bool
  both x = p x && q x

  -- what passes both tests, one after the other
  pub twice : (xs : List X) → filter q (filter p xs) ≡ filter both xs
  twice [] = refl
  twice (x ∷ xs) = by (p x) (twice xs)
    where
      by : (is : Bool) → filter q (filter p xs) ≡ filter both xs → filter q (cond is (x ∷ filter p xs) (filter p xs)) ≡ cond (is && q x) (x ∷ filter both xs) (filter both xs)
      by true rest = ap (λ l. cond (q x) (x ∷ l) l) rest
      by false rest = rest

pub same_tests : {X : Type 0} (p q : X → Bool) → ((x : X) → p x ≡ q x) → (xs : List X) → filter p xs ≡ filter q xs
same_tests p q same [] = refl
same_tests p q same (x ∷ xs) = λ i. cond (same x i) (x ∷ same_tests p q same xs i) (same_tests p q same xs i)

-- not those of either is those of neither
neither : (a b : Bool) → (not a && not b) ≡ not (a || b)
neither true b = refl
neither false b = refl

pub more_away : MoreListsArePutAway
more_away away more rows =
    λ i. record rows {
      lines = (
          twice (is_own_line away) (is_own_line more) rows.lines
          ∙ same_tests _ _ (λ (l : ListingContent). neither (away (list_name l.call l.side)) (more (list_name l.call l.side))) rows.lines
          ) i;
    }

-- ---- one list

module _ (away : ListName → Bool) (list : ListName) (gone : away list ≡ true) where
  abbrev stays : ListingContent → Bool
  stays = is_own_line away

  abbrev back_there : ListingContent → Bool
  back_there = is_own_line (all_but list away)

  abbrev still_away : ListingContent → Bool
  still_away l = not (back_there l)

  listed : (a b : Bool) → (a ≡ true → b ≡ true) → (not (b && not a) && a) ≡ a
  listed true true e = refl
  listed true false e = let no : false ≡ true = e refl in cc
  listed false true e = refl
  listed false false e = refl

  left_over : (a b : Bool) → (a ≡ true → b ≡ true) → (not (b && not a) && not a) ≡ not b
  left_over true true e = refl
  left_over true false e = let no : false ≡ true = e refl in cc
  left_over false true e = refl
  left_over false false e = refl

  is_away : (name : ListName) → is_list list name ≡ true → away name ≡ true
  is_away name e = ap away (sym (same_key list name e)) ∙ gone

  -- of those that are there again: those of the list, and those that stayed
  of_list : (lines : List ListingContent) → filter (is_of list) (filter back_there lines) ≡ filter (is_of list) lines
  of_list lines = twice back_there (is_of list) lines ∙ same_tests _ _ (λ (l : ListingContent). listed (is_of list l) (away (list_name l.call l.side)) (is_away (list_name l.call l.side))) lines

  not_of_list : (lines : List ListingContent) → filter (λ l. not (is_of list l)) (filter back_there lines) ≡ filter stays lines
  not_of_list lines = twice back_there (λ l. not (is_of list l)) lines ∙ same_tests _ _ (λ (l : ListingContent). left_over (is_of list l) (away (list_name l.call l.side)) (is_away (list_name l.call l.side))) lines

  other : (b : Bool) → b ≡ not (not b)
  other true = refl
  other false = refl

  -- the lines that are there again, in another order
  again : (lines back : List ListingContent) → IsPermutation (filter (is_of list) lines) back → IsPermutation (filter back_there lines) (filter stays lines ++ back)
  again lines back same =
      IsPermutation-trans _ _ _
      (IsPermutation-filter_both (λ l. not (is_of list l)) (is_of list) (λ l. other (is_of list l)) (filter back_there lines))
      (IsPermutation-append _ _ _ _ (subst (IsPermutation (filter (λ l. not (is_of list l)) (filter back_there lines))) (not_of_list lines) (IsPermutation-refl _))
      (subst (λ l. IsPermutation l back) (sym (of_list lines)) same))

  abbrev lines_then : (lines back : List ListingContent) → List ListingContent
  lines_then lines back = filter still_away lines ++ (filter stays lines ++ back)

  pub all_again : (lines back : List ListingContent) → IsPermutation (filter (is_of list) lines) back → IsPermutation lines (lines_then lines back)
  all_again lines back same =
      IsPermutation-trans _ _ _
      (IsPermutation-filter_both still_away back_there (λ l. other (back_there l)) lines)
      (IsPermutation-append _ _ _ _ (IsPermutation-refl _) (again lines back same))

  -- ---- of all those, the store's own

  none_twice : (b : Bool) → (not b && b) ≡ false
  none_twice true = refl
  none_twice false = refl

  nothing : (lines : List ListingContent) → filter (λ (l : ListingContent). false) lines ≡ []
  nothing [] = refl
  nothing (l ∷ lines) = nothing lines

  none_own : (lines : List ListingContent) → filter back_there (filter still_away lines) ≡ []
  none_own lines = twice still_away back_there lines ∙ same_tests _ _ (λ (l : ListingContent). none_twice (back_there l)) lines ∙ nothing lines

  stay_there : (a b : Bool) → (not a && not (a && not b)) ≡ not a
  stay_there true b = refl
  stay_there false b = refl

  own_stay : (lines : List ListingContent) → filter back_there (filter stays lines) ≡ filter stays lines
  own_stay lines = twice stays back_there lines ∙ same_tests _ _ (λ (l : ListingContent). stay_there (away (list_name l.call l.side)) (is_of list l)) lines

  abbrev Is : ListingContent → Type 0
  Is l = is_of list l ≡ true

  all_of : (lines : List ListingContent) → AllByRecursion Is (filter (is_of list) lines)
  all_of [] = tt
  all_of (l ∷ lines) = by (is_of list l) refl (all_of lines)
    where
      by : (is : Bool) → is_of list l ≡ is → AllByRecursion Is (filter (is_of list) lines) → AllByRecursion Is (cond is (l ∷ filter (is_of list) lines) (filter (is_of list) lines))
      by true e rest = (e, rest)
      by false e rest = rest

  there : (a b : Bool) → b ≡ true → not (a && not b) ≡ true
  there true true e = refl
  there true false e = let no : false ≡ true = e in cc
  there false b e = refl

  all_there : (back : List ListingContent) → AllByRecursion Is back → filter back_there back ≡ back
  all_there [] all = refl
  all_there (l ∷ back) all =
      ap (λ b. cond b (l ∷ filter back_there back) (filter back_there back)) (there (away (list_name l.call l.side)) (is_of list l) all.0)
      ∙ ap (λ rest. l ∷ rest) (all_there back all.1)

  pub own_then : (lines back : List ListingContent) → IsPermutation (filter (is_of list) lines) back → filter back_there (lines_then lines back) ≡ filter stays lines ++ back
  own_then lines back same =
      let all : AllByRecursion Is back = recursion_from_All Is back (All-permutation Is _ _ same (All-from_recursion Is _ (all_of lines))) in
      filter-append back_there (filter still_away lines) (filter stays lines ++ back)
      ∙ ap (λ l. l ++ filter back_there (filter stays lines ++ back)) (none_own lines)
      ∙ filter-append back_there (filter stays lines) back
      ∙ ap₂ ◌++◌ (own_stay lines) (all_there back all)

pub brought_back : ListsAreBroughtBack
brought_back content es archived own whole away list back are gone same =
    let lines : List ListingContent = lines_then away list gone own.lines back in
    let permuted : IsPermutation own.lines lines = all_again away list gone own.lines back same in
    let theirs : IsPermutation whole.lines lines = subst (λ l. IsPermutation l lines) (sym are.parts.lines) permuted in
    record {
      most = record own { lines = lines };
      whole = record whole { lines = lines };
      parts = record {
        after = any_order content es whole lines are.after theirs;
        closed = are.closed;
        parts = record {
          partners = are.parts.partners;
          interchanges = are.parts.interchanges;
          visits = are.parts.visits;
          others = are.parts.others;
          places = are.parts.places;
          lines = refl;
          settings = are.parts.settings;
          blocks = are.parts.blocks;
        };
        stay = are.stay;
      };
      but_lines = refl;
      is_own = λ i. record own { lines = own_then away list gone own.lines back same i };
      same = permuted;
    }
