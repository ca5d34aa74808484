-- What desk and archives tell, from whatever events after which they stand.
use Rattle.std.specs.{Prelude.{Contains, IsPermutation, filter, ◌&&◌, is_some, nat_le, String}, Ordering.eq_by_cmp, declared.alloc.Global.Global}
use Rattle.std.proofs.Common.{◌≡◌, count_by, option_map, ℕ, List, [], ◌∷◌, Bool, true, false, cond, Option, Some, map, refl, sym, ap, subst, ◌∙◌, ◌<◌, ◌≤◌, length, None, Result, Ok, Err, arith}
use Rattle.std.proofs.{lemmas.List.Elements.Contains-append_right, lemmas.List.Sorted.IsPermutation-sym, lemmas.Bool.{leb-false, leb-true, and_parts}}
use Rattle.box6346.specs.declared.box_number.BoxNumber.{BoxNumber}
use Rattle.edi_messages.specs.{Owned.call_content, Purposes.CallContent, declared.call.Call.Call}
use Rattle.terminal_core.specs.{Changes.TerminalRows, Drop.is_pending, State.{LineContent, LineKey, Lines, TerminalState, line_key, line_of}, Rows.VisitContent}
use Rattle.terminal_core.{specs.{declared.lines.LineState.TheVariants.Done, declared.lines.Side.Side}, proofs.Lined.{keys_total, order, same_key, tied_self}}
use Rattle.office_replies.specs.Events.{Event}
use Rattle.office_rows.specs.{ByKey.{AreListedOnce, line_entry, lines_by}, Rows.{ListingContent, Rows}}
use Rattle.office_admission.specs.Setups.{SetupContent, setup_content}
use Rattle.office_reports.specs.{declared.query.About.About, declared.query.Query.Query, declared.query.View.View, Listed.AreListed, OpenLines.open_lines}
use Rattle.office_reports.specs.{Lists.{HasLine, is_done_line}, Containers.{ContainerContent, container_of}, Visits.{VisitsContent, visits_of}, Looking.Tells}
use Rattle.office_reports.specs.{Work.{JobContent, WorkContent, is_open_entry, job_of, work_by}, declared.calls.ListCount.ListCount}
use Rattle.office_reports.specs.declared.query.NotNow.{NotNow}
use Rattle.office_report_data.specs.Told.{ReportContent, shown}
use Rattle.office_history.{specs.After.{machine_after, content_after}, proofs.Loads.lines_same}
use Rattle.office_parts.specs.{Archives.{Archive, archive_of}, Parts.{Archived, ArePartsAfter}, Away.AreAway, Bringing.{is_list, is_of, lines_of}}
use Rattle.office_parts.specs.{OwnLists.{ListName, list_name, list_of, rows_without_lists, without_lists}, OwnTerminal.{MayStay, own_terminal}}
use Rattle.office_parts.proofs.{KeepingLemmas.away_done, Takings.{own_rows, visits_same}}
use Rattle.office_archives.specs.{ListsAway.{AreLinesIfAway, TellsByLines, FindsIfAway}, Keeping.IsClosedIn, Together.{StandTogether, TellsBeside}}
use Rattle.office_archives.specs.Telling.{AreAsked, AreEnded, IsOfExpected, IsOfList, IsOfWhatIsHere, SaysIfAway, TellsTogether, TogetherTells, IsOfContainer, IsOfNeither, IsOfNumber, TellsClosed, archives_with_lists, own_start, shown_beside, with_note}
use Rattle.office_archives.proofs.{Noted.expected_end, Rising.listed_whole, Brought.kept_so, Standing.{closed_here, closed_told}}
use Rattle.office_archives.proofs.Filled.{Entry, all_looked_up as filled_looked_up, first_in, listed_alike, filled_container, filled_list, filled_neither, filled_number, filled_visits, open_same, yard_listed}
use Rattle.office_archives.proofs.Told.{accounts_told, container_told, list_told, nobody_told, number_told, others_told}
use Rattle.office_pages.specs.{Found.found_page, Start.{StartContent, office_page}, Wanted.expected_page}
use Rattle.sqlite_trees.specs.declared.store.Store.{Ghosts}
use Rattle.office_loading.specs.Closed.{last_closed}
use Rattle.office_desk.specs.{Calls.OnlyLooks, Desks.IsSound, Offices.DeskHolds, declared.desk.Desk.Desk}
use Rattle.office_desk.specs.Reports.{DeskTells, Shows, TellsAbout, TellsOf, container_by, partner_called}
use Rattle.office_report_data.specs.Told as value
use Rattle.std.specs.FinMap as finite_map
use Rattle.office_reports.specs.declared.query.About.TheVariants as about

-- ==== AwayTold: What is told of a list that is away, by its lines as they were put away.

-- ---- the lines of a list among all lines

-- under a key of the list they have what all have
found_on : (key : LineKey) (lines : List ListingContent) → finite_map.find order key (map line_entry (filter (is_of (list_of key)) lines)) ≡ finite_map.find order key (map line_entry lines)
found_on key [] = refl
found_on key (line ∷ lines) = by (eq_by_cmp order key (line_entry line).0) (is_of (list_of key) line) refl refl (found_on key lines)
  where
    its : List ListingContent
    its = filter (is_of (list_of key)) lines

    by : (tie is : Bool) → eq_by_cmp order key (line_entry line).0 ≡ tie → is_of (list_of key) line ≡ is → finite_map.find order key (map line_entry its) ≡ finite_map.find order key (map line_entry lines)
        → finite_map.find order key (map line_entry (cond is (line ∷ its) its)) ≡ cond tie (Some (line_entry line).1) (finite_map.find order key (map line_entry lines))
    by true true t e rest = ap (λ b. cond b (Some (line_entry line).1) (finite_map.find order key (map line_entry its))) t
    by true false t e rest =
        let itself : is_of (list_of key) line ≡ true = ap (λ k. is_list (list_of k) (list_name line.call line.side)) (same_key key (line_entry line).0 t) ∙ tied_self (list_name line.call line.side) in
        let no : true ≡ false = sym itself ∙ e in
        absurd cc
    by false true t e rest = ap (λ b. cond b (Some (line_entry line).1) (finite_map.find order key (map line_entry its))) t ∙ rest
    by false false t e rest = rest

-- and so have these, in whatever order
found_in : (call : CallContent) (side : Side) (container : BoxNumber) (lines back : List ListingContent) → AreListedOnce back → IsPermutation (filter (is_of (list_name call side)) lines) back
    → finite_map.get (lines_by back) (line_key call side container) ≡ finite_map.get (lines_by lines) (line_key call side container)
found_in call side container lines back once same =
    let key : LineKey = line_key call side container in
    let its : List ListingContent = filter (is_of (list_name call side)) lines in
    ap (λ (l : Lines). finite_map.get l key) (sym (lines_same back its once (IsPermutation-sym _ _ same)))
    ∙ finite_map.get-from_entries keys_total (map line_entry its) key
    ∙ found_on key lines
    ∙ sym (finite_map.get-from_entries keys_total (map line_entry lines) key)

-- ---- what is left to do of lines that are done

abbrev AreDone : List Entry → Type 0
AreDone list = (entry : Entry) → Contains list entry → entry.1.state ≡ Done

none_open : (list : List Entry) → AreDone list → filter is_open_entry list ≡ []
none_open [] done = refl
none_open (entry ∷ list) done =
    ap (λ s. cond (is_pending s) (entry ∷ filter is_open_entry list) (filter is_open_entry list)) (done entry (first_in entry list))
    ∙ none_open list (λ other inside. done other (Contains-append_right (entry ∷ []) list other inside))

-- nothing is, in whatever yard
work_alike : (one other : TerminalState) (call : CallContent) (side : Side) (list : List Entry) → AreDone list → work_by one call side list ≡ work_by other call side list
work_alike one other call side [] done = refl
work_alike one other call side (entry ∷ list) done =
    let none = none_open (entry ∷ list) done in
    ap (λ (left : List Entry). Some (work (map (job_of one) left))) none ∙ sym (ap (λ (left : List Entry). Some (work (map (job_of other) left))) none)
  where
    work : List JobContent → WorkContent
    work jobs = record { call = call; side = side; jobs = jobs; done = count_by is_done_line (entry ∷ list); whole = length (entry ∷ list) }

-- ---- a list that is away

module _ (content : SetupContent) (es : List Event) (archives : List Archive) (archived : Archived) (own whole : Rows) (away : ListName → Bool) (parts : ArePartsAfter content es archived own whole) (are : AreAway archives away content es own) (lines : List ListingContent) where
  abbrev state : TerminalState
  state = (machine_after content es).terminal

  -- a terminal of these lines has of it what the whole has
  line_there : (call : CallContent) (side : Side) (mine : TerminalState) → AreLinesIfAway archives away (list_name call side) (Some lines) → AreListedOnce lines → mine.lines ≡ lines_by lines → (container : BoxNumber) → line_of mine call side container ≡ line_of state call side container
  line_there call side mine gone once has container =
      let key : LineKey = line_key call side container in
      let kept = are.kept (list_name call side) gone.0 in
      ap (λ (l : Lines). finite_map.get l key) has
      ∙ found_in call side container own.lines lines once (kept_so archives (list_name call side) kept.kept lines (lines_of (list_name call side) own) kept.are gone.1 kept.same)
      ∙ ap (λ (r : TerminalRows). finite_map.get r.lines key) (own_rows content es archived own whole parts)

  all_done : (call : CallContent) (side : Side) (list : List Entry) → away (list_name call side) ≡ true → AreListed (HasLine state call side) list → AreDone list
  all_done call side list gone listed entry inside = away_done content es archives away archived own whole parts are (line_key call side entry.0) entry.1 (listed.only entry.0 entry.1 inside) gone

  here : (call asked : CallContent) (side on : Side) → (asked ≡ call) × (on ≡ side) → AreLinesIfAway archives away (list_name call side) (Some lines) → AreLinesIfAway archives away (list_name asked on) (Some lines)
  here call asked side on is gone = subst (λ (q : CallContent × Side). AreLinesIfAway archives away (list_name q.0 q.1) (Some lines)) (λ i. (sym is.0 i, sym is.1 i)) gone

  pub told_by_lines : (asked : About) (view : View) (call : CallContent) (side : Side) (what : Option ReportContent) → IsOfList asked call side → AreLinesIfAway archives away (list_name call side) (Some lines) → TellsByLines lines asked what
      → TogetherTells content es archives archived whole asked view (option_map (shown view) what)
  told_by_lines (about.List asked on) view call side what is gone told =
      let its = here call (call_content asked) side on is gone in
      let there = line_there (call_content asked) on told.state its told.once told.lines_are in
      let listed = listed_alike told.state state (call_content asked) on there told.tells.list told.tells.listed in
      (what, record { rows = whole; after = parts.after; tells = record { list = told.tells.list; listed = listed; is = told.tells.is } }, refl)
  told_by_lines (about.Work asked on) view call side what is gone told =
      let its = here call (call_content asked) side on is gone in
      let there = line_there (call_content asked) on told.state its told.once told.lines_are in
      let listed = listed_alike told.state state (call_content asked) on there told.tells.list told.tells.listed in
      let same = work_alike told.state state (call_content asked) on told.tells.list (all_done (call_content asked) on told.tells.list its.0 listed) in (
        what,
        record { rows = whole; after = parts.after; tells = record { list = told.tells.list; listed = listed; is = told.tells.is ∙ ap (option_map value.work) same } },
        refl,
      )
  told_by_lines other view call side what is gone told = absurd is

-- ==== Beside: What desk and archives tell, from whatever events after which they stand.

-- there is no number 0
none_zero : (content : SetupContent) (es : List Event) (archives : List Archive) (archived : Archived) (whole : Rows) (asked : About) (view : View) (code : List ℕ) (n : ℕ) (found : Option (List ℕ)) → IsOfNumber asked code n → n < 1 → TogetherTells content es archives archived whole asked view found
none_zero content es archives archived whole (about.Reply partner k) view code n found is none = λ low. absurd (omega (arith, low, none, is.1))
none_zero content es archives archived whole (about.Contrl partner k) view code n found is none = λ low. absurd (omega (arith, low, none, is.1))
none_zero content es archives archived whole (about.Ticket partner k) view code n found is none = λ low by_numbers copies. absurd (omega (arith, low, none, is.1))
none_zero content es archives archived whole other view code n found is none = absurd is

-- what is told of a container, its visits or the lists
pub container_asked : (content : SetupContent) (state : TerminalState) (rows : Rows) (asked : About) (what : Option ReportContent) → IsOfContainer asked → TellsAbout content state rows asked what → AreAsked what
container_asked content state rows (about.Visits container) what is told = subst AreAsked (sym told) (by (visits_of content state container))
  where
    by : (o : Option VisitsContent) → AreAsked (option_map value.visits o)
    by None = tt
    by (Some report) = tt
container_asked content state rows (about.Container container) what is told = subst AreAsked (sym told) (by (container_of content state container))
  where
    by : (o : Option ContainerContent) → AreAsked (option_map (container_by content state container) o)
    by None = tt
    by (Some report) = tt
container_asked content state rows other what is told = absurd is

pub calls_asked : (content : SetupContent) (state : TerminalState) (rows : Rows) (asked : About) (what : Option ReportContent) → asked ≡ about.Calls → TellsAbout content state rows asked what → AreAsked what
calls_asked content state rows asked what is told = subst AreAsked (sym (subst (λ q. TellsAbout content state rows q what) is told)) tt

module _ {S A : Type 0} (g : Ghosts S) (are : List Archive → A → Type 0) (old : Desk S g) (a : A) where
  abbrev Mine : (content : SetupContent) (es : List Event) → StandTogether g are content es old a → TerminalState
  Mine content es stand = own_terminal stand.stands.archived.stays (machine_after content es).terminal

  -- what the desk tells, of the rows that it has
  told_here : (content : SetupContent) (es : List Event) (stand : StandTogether g are content es old a) (asked : Query) (found : Option (List ℕ)) → DeskTells g old asked found
      → TellsOf (content_after content es) (without_lists stand.stands.away (Mine content es stand)) (rows_without_lists stand.stands.away stand.stands.rows) asked found
  told_here content es stand asked found told =
      let stands = stand.stands in
      let mine = without_lists stands.away (Mine content es stand) in
      let left = rows_without_lists stands.away stands.rows in
      subst (λ k. TellsOf k mine left asked found) (sym stands.now_is) (told.office left mine stands.holds)

  -- and with the lists that are away
  filled_here : (content : SetupContent) (es : List Event) (stand : StandTogether g are content es old a) (asked : About) (what : Option ReportContent) → IsOfContainer asked
      → TellsAbout (content_after content es) (without_lists stand.stands.away (Mine content es stand)) (rows_without_lists stand.stands.away stand.stands.rows) asked what
      → TellsAbout (content_after content es) (Mine content es stand) stand.stands.rows asked what
  filled_here content es stand (about.Visits container) what is told =
      let s = stand.stands in
      filled_visits s.away (content_after content es) (Mine content es stand) s.rows container what told
  filled_here content es stand (about.Container container) what is told =
      let s = stand.stands in
      filled_container s.away (content_after content es) (Mine content es stand) s.rows container what (away_done content es stand.list s.away s.archived s.own s.whole s.parts s.lists) told
  filled_here content es stand other what is told = absurd is

  pub called_here : (content : SetupContent) (es : List Event) (stand : StandTogether g are content es old a) (code : List ℕ) (p : ℕ) → partner_called (setup_content old.setup) code ≡ Some p → partner_called (content_after content es) code ≡ Some p
  called_here content es stand code p called = ap (λ k. partner_called k code) stand.stands.now_is ∙ called

  -- the desk knows who has a code
  pub nobody_here : (content : SetupContent) (es : List Event) (stand : StandTogether g are content es old a) (code : List ℕ) → ((rows : Rows) (terminal : TerminalState) → DeskHolds g old rows terminal → partner_called (setup_content old.setup) code ≡ None)
      → partner_called (content_after content es) code ≡ None
  nobody_here content es stand code nobody =
      let s = stand.stands in
      ap (λ k. partner_called k code) s.now_is ∙ nobody (rows_without_lists s.away s.rows) (without_lists s.away (own_terminal s.archived.stays (machine_after content es).terminal)) s.holds

  pub neither_beside : (asked : Query) (found : Option (List ℕ)) → IsOfNeither asked.about → DeskTells g old asked found → TellsBeside g are old a asked found
  neither_beside asked found is told content es stand =
      let s = stand.stands in
      others_told content es stand.list s.archived s.own s.whole s.rows s.parts s.is_own asked found is
      (filled_neither s.away (content_after content es) (Mine content es stand) s.rows asked found is (told_here content es stand asked found told))

  pub container_beside : (asked : Query) (told found : Option (List ℕ)) (count : ℕ) → IsOfContainer asked.about → ((list : List Archive) → are list a → count ≡ length list) → DeskTells g old asked told
      → ((what : Option ReportContent) → AreAsked what → told ≡ option_map (shown asked.view) what → found ≡ shown_beside count asked.view what) → TellsBeside g are old a asked found
  container_beside asked told found count is counted tells same content es stand =
      let s = stand.stands in
      let here = told_here content es stand asked told tells in
      subst (TellsTogether content es stand.list s.archived s.whole asked)
      (ap (λ k. shown_beside k asked.view here.0) (sym (counted stand.list stand.these)) ∙ sym (same here.0 (container_asked (content_after content es) (without_lists s.away (Mine content es stand)) (rows_without_lists s.away s.rows) asked.about here.0 is here.1) here.2))
      (container_told content es stand.list s.archived s.own s.whole s.rows s.parts s.is_own asked.about asked.view here.0 s.hold is (filled_here content es stand asked.about here.0 is here.1))

  -- the open lines that name a container
  expected_shown : (view : View) (container : BoxNumber) (lists : List (LineKey × LineContent)) → shown view (value.expected container lists) ≡ expected_page container lists
  unfolding shown
  expected_shown view container lists = refl

  expected_told : (content : SetupContent) (es : List Event) (stand : StandTogether g are content es old a) (asked : About) (view : View) (told found : Option (List ℕ)) (count : ℕ) → IsOfExpected asked → count ≡ length stand.list
      → Shows (TellsAbout (content_after content es) (without_lists stand.stands.away (Mine content es stand)) (rows_without_lists stand.stands.away stand.stands.rows) asked) view told
      → ((page : Option (List ℕ)) → AreEnded page → told ≡ page → found ≡ option_map (with_note count) page) → TogetherTells content es stand.list stand.stands.archived stand.stands.whole asked view found
  expected_told content es stand (about.Expected container) view told found count is counted here makes =
      let s = stand.stands in
      let mine = Mine content es stand in
      let lines = open_same s.away (content_after content es) mine s.rows (away_done content es stand.list s.away s.archived s.own s.whole s.parts s.lists) container in
      let page : told ≡ Some (expected_page container (open_lines mine.lines container)) =
      here.2 ∙ ap (option_map (shown view)) here.1 ∙ ap Some (expected_shown view container (open_lines (without_lists s.away mine).lines container)) ∙ ap (λ lists. Some (expected_page container lists)) lines in
      makes (Some (expected_page container (open_lines mine.lines container))) (expected_end container (open_lines mine.lines container)) page
      ∙ ap (λ n. Some (with_note n (expected_page container (open_lines mine.lines container)))) counted
  expected_told content es stand other view told found count is counted here makes = absurd is

  pub expected_beside : (asked : Query) (told found : Option (List ℕ)) (count : ℕ) → IsOfExpected asked.about → ((list : List Archive) → are list a → count ≡ length list) → DeskTells g old asked told
      → ((page : Option (List ℕ)) → AreEnded page → told ≡ page → found ≡ option_map (with_note count) page) → TellsBeside g are old a asked found
  expected_beside asked told found count is counted tells makes content es stand =
      expected_told content es stand asked.about asked.view told found count is (counted stand.list stand.these) (told_here content es stand asked told tells) makes

  -- what the store has itself
  found_shown : (view : View) (typed : List ℕ) (visits : List VisitContent) (partner : Option (List ℕ)) (lists : List (LineKey × ListCount)) → shown view (value.found typed visits partner lists) ≡ found_page typed visits partner lists
  unfolding shown
  found_shown view typed visits partner lists = refl

  start_shown : (view : View) (terminal : List ℕ) (report : StartContent) → shown view (value.start terminal report) ≡ office_page terminal report
  unfolding shown
  start_shown view terminal report = refl

  here_told : (content : SetupContent) (es : List Event) (stand : StandTogether g are content es old a) (asked : About) (view : View) (found : Option (List ℕ)) → IsOfWhatIsHere asked
      → Shows (TellsAbout (content_after content es) (without_lists stand.stands.away (Mine content es stand)) (rows_without_lists stand.stands.away stand.stands.rows) asked) view found
      → TogetherTells content es stand.list stand.stands.archived stand.stands.whole asked view found
  here_told content es stand (about.Find typed) view found is here = record {
    away = stand.stands.away;
    were_put_away = λ list e. ap is_some (stand.stands.lists.kept list e).are;
    told = here.2 ∙ ap (option_map (shown view)) here.1 ∙ ap Some (found_shown view _ _ _ _);
  }
  here_told content es stand about.Start view found is here =
      let s = stand.stands in
      let now = content_after content es in
      let mine = Mine content es stand in
      let state = (machine_after content es).terminal in
      let told = here.1 in
      let full = told.2 in
      let may : MayStay s.archived.stays state.visits = subst (MayStay s.archived.stays) (visits_same content es s.whole s.parts.after) s.parts.stay in
      record {
        away = s.away;
        were_put_away = λ list e. ap is_some (s.lists.kept list e).are;
        partners = told.0;
        are = accounts_told content es stand.list s.archived s.own s.whole s.rows s.parts s.is_own told.0 (filled_looked_up s.away now mine s.rows 1 now.partners told.0 told.1);
        blocks = full.0;
        full = record { yard = full.1.yard; listed = listed_whole s.archived.stays state may full.1.yard (yard_listed s.away now mine s.rows full.1.yard full.1.listed); is = full.1.is };
        told = here.2 ∙ ap (option_map (shown view)) full.2 ∙ ap Some (start_shown view _ _)
            ∙ ap (λ (newest : ℕ). Some (office_page now.terminal (record (own_start now s.archived.stays s.away state told.0 full.0) { visits_ever = newest }))) may.newest;
      }
  here_told content es stand other view found is here = absurd is

  pub here_beside : (asked : Query) (found : Option (List ℕ)) → IsOfWhatIsHere asked.about → DeskTells g old asked found → TellsBeside g are old a asked found
  here_beside asked found is tells content es stand = here_told content es stand asked.about asked.view found is (told_here content es stand asked found tells)

  -- of lists those that are not away, and how many archives there are, if lists were put away
  pub calls_beside : (view : View) (told found : Option (List ℕ)) (count : ℕ) → ((list : List Archive) → are list a → (put_away : Bool) × SaysIfAway list put_away × (count ≡ archives_with_lists list put_away))
      → DeskTells g old (record { about = about.Calls; view = view }) told
      → ((what : Option ReportContent) → AreAsked what → told ≡ option_map (shown view) what → found ≡ shown_beside count view what) → TellsBeside g are old a (record { about = about.Calls; view = view }) found
  calls_beside view told found count counted tells same content es stand =
      let s = stand.stands in
      let put = counted stand.list stand.these in
      let here = told_here content es stand (record { about = about.Calls; view = view }) told tells in
      record {
        away = s.away;
        were_put_away = λ list e. ap is_some (s.lists.kept list e).are;
        put_away = put.0;
        says = put.1;
        told = same here.0 (calls_asked (content_after content es) (without_lists s.away (Mine content es stand)) (rows_without_lists s.away s.rows) about.Calls here.0 refl here.1) here.2 ∙ ap (λ k. shown_beside k view here.0) put.2 ∙ ap (shown_beside (archives_with_lists stand.list put.0) view) here.1;
      }

  -- a list that is not away, by a desk that was looked at
  pub list_beside : (mid : Desk S g) (asked : Query) (call : CallContent) (side : Side) (found : Option (List ℕ)) → IsOfList asked.about call side → IsSound g mid → OnlyLooks g old mid → FindsIfAway g are old a (list_name call side) None → DeskTells g mid asked found → TellsBeside g are old a asked found
  list_beside mid asked call side found is sound looks here tells content es stand =
      let s = stand.stands in
      let mine = Mine content es stand in
      let left = rows_without_lists s.away s.rows in
      let now : content_after content es ≡ setup_content mid.setup = s.now_is ∙ ap setup_content (sym looks.setup) in
      let told = subst (λ k. TellsOf k (without_lists s.away mine) left asked found) (sym now) (tells.office left (without_lists s.away mine) (looks.holds sound left (without_lists s.away mine) s.holds)) in
      list_told content es stand.list s.archived s.own s.whole s.rows s.parts s.is_own asked found call side is
      (filled_list s.away (content_after content es) mine s.rows asked found call side is (here stand.list content es stand.these s) told)

  -- one that is away, by its lines
  pub away_beside : (asked : Query) (call : CallContent) (side : Side) (lines : List ListingContent) (found : Option (List ℕ)) → IsOfList asked.about call side → FindsIfAway g are old a (list_name call side) (Some lines) → Shows (TellsByLines lines asked.about) asked.view found → TellsBeside g are old a asked found
  away_beside asked call side lines found is away tells content es stand =
      let s = stand.stands in
      subst (TogetherTells content es stand.list s.archived s.whole asked.about asked.view) (sym tells.2)
      (told_by_lines content es stand.list s.archived s.own s.whole s.away s.parts s.lists lines asked.about asked.view call side tells.0 is (away stand.list content es stand.these s) tells.1)

  pub number_beside : (asked : Query) (code : List ℕ) (n p : ℕ) (found : Option (List ℕ)) → IsOfNumber asked.about code n → partner_called (setup_content old.setup) code ≡ Some p → (nat_le 1 n && nat_le n (last_closed old.closed p)) ≡ false → DeskTells g old asked found
      → TellsBeside g are old a asked found
  number_beside asked code n p found is called open_ tells content es stand = by (nat_le 1 n) refl
    where
      by : (from_one : Bool) → nat_le 1 n ≡ from_one → TellsTogether content es stand.list stand.stands.archived stand.stands.whole asked found
      by false e = none_zero content es stand.list stand.stands.archived stand.stands.whole asked.about asked.view code n found is (leb-false 1 n e)
      by true e =
          let s = stand.stands in
          let beyond : nat_le n (last_closed old.closed p) ≡ false = sym (ap (λ b. b && nat_le n (last_closed old.closed p)) e) ∙ open_ in
          let far = leb-false n (last_closed old.closed p) beyond in
          number_told content es stand.list s.archived s.own s.whole s.rows s.parts s.is_own code p n (called_here content es stand code p called) asked found is (omega (arith, far, s.knows.numbers p))
          (filled_number s.away (content_after content es) (Mine content es stand) s.rows asked found code n is (told_here content es stand asked found tells))

  pub nobody_beside : (asked : Query) (code : List ℕ) (n : ℕ) (found : Option (List ℕ)) → IsOfNumber asked.about code n → found ≡ None → ((rows : Rows) (terminal : TerminalState) → DeskHolds g old rows terminal → partner_called (setup_content old.setup) code ≡ None)
      → TellsBeside g are old a asked found
  nobody_beside asked code n found is none nobody content es stand =
      let s = stand.stands in
      subst (TellsTogether content es stand.list s.archived s.whole asked) (sym none)
      (nobody_told content es stand.list s.archived s.own s.whole s.rows s.parts s.is_own code n asked is (nobody_here content es stand code nobody))

  pub closed_beside : (asked : Query) (code : List ℕ) (n p : ℕ) (found : Option (List ℕ)) → IsOfNumber asked.about code n → partner_called (setup_content old.setup) code ≡ Some p → (nat_le 1 n && nat_le n (last_closed old.closed p)) ≡ true
      → ((list : List Archive) → are list a → IsClosedIn list p n → TellsClosed list asked code p n found) → TellsBeside g are old a asked found
  closed_beside asked code n p found is called closed tells content es stand =
      let s = stand.stands in
      let both = and_parts (nat_le 1 n) (nat_le n (last_closed old.closed p)) closed in
      let low : 1 ≤ n = leb-true 1 n both.0 in
      let reach = leb-true n (last_closed old.closed p) both.1 in
      let high : n ≤ s.archived.last_closed p = omega (arith, reach, s.knows.numbers p) in
      let here = called_here content es stand code p called in
      closed_told content es stand.list s.archived s.own s.whole s.given s.parts s.hold code p n here low high asked found is
      (tells stand.list stand.these (closed_here content es stand.list s.archived s.own s.whole s.given s.parts s.hold code p n here low high))

  -- a number that the desk knows for closed is closed in an archive
  pub closed_there : (code : List ℕ) (n p : ℕ) → partner_called (setup_content old.setup) code ≡ Some p → 1 ≤ n → n ≤ last_closed old.closed p → (content : SetupContent) (es : List Event) (stand : StandTogether g are content es old a) → IsClosedIn stand.list p n
  closed_there code n p called low reach content es stand =
      let s = stand.stands in
      let high : n ≤ s.archived.last_closed p = omega (arith, reach, s.knows.numbers p) in
      closed_here content es stand.list s.archived s.own s.whole s.given s.parts s.hold code p n (called_here content es stand code p called) low high

  -- a number that the desk doesn't know for closed is closed in none
  pub open_there : (n p : ℕ) → last_closed old.closed p < n → (content : SetupContent) (es : List Event) (stand : StandTogether g are content es old a) → archive_of stand.list p n ≡ None
  open_there n p beyond content es stand =
      let s = stand.stands in
      s.hold.none_beyond p n (omega (arith, beyond, s.knows.numbers p))

-- it is asked neither of a container, of lists, of what the store has itself, nor of a number
pub is_neither : (asked : About) → ((container : BoxNumber) → asked ≡ about.Visits container → ⊥) → ((container : BoxNumber) → asked ≡ about.Container container → ⊥) → ((container : BoxNumber) → asked ≡ about.Expected container → ⊥) → (asked ≡ about.Calls → ⊥)
    → ((call : Call) (side : Side) → asked ≡ about.List call side → ⊥) → ((call : Call) (side : Side) → asked ≡ about.Work call side → ⊥) → ((code : String Global) (number : ℕ) → asked ≡ about.Reply code number → ⊥)
    → ((code : String Global) (number : ℕ) → asked ≡ about.Contrl code number → ⊥) → ((code : String Global) (number : ℕ) → asked ≡ about.Ticket code number → ⊥) → ((typed : String Global) → asked ≡ about.Find typed → ⊥) → (asked ≡ about.Start → ⊥) → IsOfNeither asked
is_neither (about.Visits container) visits there expected calls list work reply contrl ticket find start = visits container refl
is_neither (about.Container container) visits there expected calls list work reply contrl ticket find start = there container refl
is_neither (about.Expected container) visits there expected calls list work reply contrl ticket find start = expected container refl
is_neither about.Calls visits there expected calls list work reply contrl ticket find start = calls refl
is_neither (about.List call side) visits there expected calls list work reply contrl ticket find start = list call side refl
is_neither (about.Work call side) visits there expected calls list work reply contrl ticket find start = work call side refl
is_neither (about.Reply code number) visits there expected calls list work reply contrl ticket find start = reply code number refl
is_neither (about.Contrl code number) visits there expected calls list work reply contrl ticket find start = contrl code number refl
is_neither (about.Ticket code number) visits there expected calls list work reply contrl ticket find start = ticket code number refl
is_neither (about.Find typed) visits there expected calls list work reply contrl ticket find start = find typed refl
is_neither about.Start visits there expected calls list work reply contrl ticket find start = start refl
is_neither other visits there expected calls list work reply contrl ticket find start = tt

-- ---- whatever is looked at

pub tells_so : {P Q : Option (List ℕ) → Type 0} (found : Result (Option (List ℕ)) NotNow) → ((told : Option (List ℕ)) → P told → Q told) → Tells P found → Tells Q found
tells_so (Ok told) so is = so told is
tells_so (Err refusal) so is = tt

pub none_there : (list : List Archive) (count : ℕ) → count ≡ length list → count ≡ 0 → list ≡ []
none_there [] count many none = refl
none_there (archive ∷ list) count many none = absurd (omega (arith, many, none))
