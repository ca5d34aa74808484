-- Lists that are brought back into a store.
use Rattle.std.specs.Prelude.{◌&&◌, not, option_map, IsTrue, IsPermutation}
use Rattle.std.proofs.Common.{◌≡◌, inl, inr, ℕ, List, [], ◌∷◌, ◌++◌, Bool, true, false, Option, None, Some, Result, Ok, Err, OnOk, refl, sym, ap, subst, ◌∙◌}
use Rattle.sqlite.specs.{Effect.Database, Held.state, State.HasCleanDisk, Tree.Trees}
use Rattle.sqlite_trees.specs.declared.store.Store.{Ghosts}
use Rattle.edi_messages.specs.{Owned.call_content, Purposes.CallContent}
use Rattle.terminal_core.{specs.{State.TerminalState, declared.lines.Side.Side}, proofs.Lined.tied_self}
use Rattle.office_replies.specs.Events.{Event}
use Rattle.office_loading.specs.{Closed.closed_content, Tables.LoadsOwn}
use Rattle.office_rows.specs.{Opening.with_lines, Rows.{ListingContent, Rows}, Stored.{HasRows, StoresRows}}
use Rattle.office_admission.specs.Setups.{SetupContent, setup_content}
use Rattle.office_history.specs.After.{AreKeptOnce, content_after, machine_after}
use Rattle.office_tables.specs.{declared.table_fault.TableFault.TableFault, Writing.{Commits, WritesWhole}}
use Rattle.office_reports.specs.{declared.query.About.About, declared.query.Query.Query}
use Rattle.office_report_data.specs.Told.{ReportContent, shown}
use Rattle.office_desk.specs.{Beside.IsOrNone, Calls.OnlyLooks, Desks.IsSound, Offices.HoldsOffice, Reports.{DeskTells, TellsAbout, TellsOf}}
use Rattle.office_desk.{specs.declared.desk.Desk.Desk, proofs.DeliverLemmas.{office_once, office_with}}
use Rattle.office_parts.specs.{Archives.Archive, OwnTerminal.own_terminal, Away.{AreAway, lines_away}, Bringing.{BringsBack, all_but, is_list}, Naming.AreHere}
use Rattle.office_parts.{specs.OwnLists.{ListName, list_name, rows_without_lists, without_lists}, proofs.AwayLemmas.{came_back, none_away, others_stay}}
use Rattle.office_parts.proofs.{BringingLemmas.brought_back, Writings.own_office_without}
use Rattle.office_archives.specs.{Bringing.{BringsTogether, StandsWith, lists_back}, ListsAway.{AsksList, FindsIfAway}}
use Rattle.office_archives.specs.{Standing.{IsOwnWithRest, KnowsClosed, StandsBeside}, Together.{IsBesideAfter, LeavesBeside}}
use Rattle.office_archives.proofs.{Filled.{no_list, some_list, of_whole}, Together.{looked_stands, rows_left}}
use Rattle.office_reports.specs.declared.query.About.TheVariants as about

-- what was put away as these lines is a list of them
pub kept_so : (archives : List Archive) (list : ListName) (kept back : List ListingContent) (lines : List ListingContent) → lines_away archives list ≡ Some kept → lines_away archives list ≡ Some back → IsPermutation lines kept → IsPermutation lines back
kept_so archives list kept back lines e f same = let one : kept ≡ back = let both : Some kept ≡ Some back = sym e ∙ f in cc in subst (IsPermutation lines) one same

-- ---- a list that is brought back, of rows that stand beside archives

module _ {S : Type 0} (g : Ghosts S) (archives : List Archive) (content : SetupContent) (es : List Event) (desk : Desk S g) (stands : StandsBeside g archives content es desk) (name : ListName) (back : List ListingContent)
    (put_away : lines_away archives name ≡ Some back) (gone : stands.away name ≡ true) where
  abbrev left : Rows
  left = rows_without_lists stands.away stands.rows

  abbrev then_away : ListName → Bool
  then_away = all_but name stands.away

  abbrev brings : BringsBack content es stands.archived stands.away name back stands.own
  brings =
      let kept = stands.lists.kept name gone in
      brought_back content es stands.archived stands.own stands.whole stands.away name back stands.parts gone (kept_so archives name kept.kept back _ kept.are put_away kept.same)

  abbrev filled : Rows
  filled = record stands.rows { lines = brings.most.lines }

  is_own : IsOwnWithRest stands.archived brings.most filled
  is_own = record { beyond = ap (λ (r : Rows). record r { lines = brings.most.lines }) stands.is_own.beyond ∙ sym brings.but_lines; rest = stands.is_own.rest }

  lists : AreAway archives then_away content es brings.most
  lists = others_stay content es archives stands.archived stands.away name stands.own back brings stands.lists

  -- the rows that are written are those without the others
  written_is : with_lines back left ≡ rows_without_lists then_away filled
  written_is =
      let own_lines : stands.rows.lines ≡ stands.own.lines = ap (λ (r : Rows). r.lines) stands.is_own.beyond in
      ap (λ lines. with_lines back (rows_without_lists stands.away (record stands.rows { lines = lines }))) own_lines
      ∙ ap (λ (r : Rows). record stands.rows { lines = r.lines }) (sym brings.is_own)

  abbrev terminal : TerminalState
  terminal = without_lists then_away (own_terminal stands.archived.stays (machine_after content es).terminal)

  pub brought_left : (db : Trees) → StoresRows (with_lines back left) db → IsBesideAfter archives (closed_content desk.closed) content es db
  brought_left db are = record {
    archived = stands.archived;
    own = brings.most;
    whole = brings.whole;
    parts = brings.parts;
    hold = stands.hold;
    knows = stands.knows;
    rows = filled;
    is_own = is_own;
    away = then_away;
    lists = lists;
    are = subst (λ r. StoresRows r db) written_is are;
  }

  loads : (db : Database) → HasRows (rows_without_lists then_away filled) db → LoadsOwn (closed_content desk.closed) db (content_after content es) terminal
  loads db has =
      let once : AreKeptOnce stands.rows.interchanges = office_once (closed_content desk.closed) (setup_content desk.setup) left (without_lists stands.away (own_terminal stands.archived.stays (machine_after content es).terminal)) (state g desk.conn).committed desk.beside stands.holds in
      let same : (record { last_closed = stands.archived.last_closed; newest_closed = (closed_content desk.closed).newest_closed }) ≡ closed_content desk.closed =
      λ i. record { last_closed = λ p. sym (stands.knows.numbers p) i; newest_closed = (closed_content desk.closed).newest_closed } in
      subst (λ c. LoadsOwn c db (content_after content es) terminal) same
      (own_office_without content es stands.archived brings.most brings.whole (rows_without_lists then_away filled) then_away db (closed_content desk.closed).newest_closed stands.given brings.parts (ap (rows_without_lists then_away) is_own.beyond) once
      (of_whole stands.archived brings.most brings.whole filled brings.parts.parts is_own) stands.knows.visits has)

  pub brought_stands : (new : Desk S g) → new.setup ≡ desk.setup → new.closed ≡ desk.closed → new.beside ≡ None → HasRows (with_lines back left) (state g new.conn).committed → StandsWith g archives content es (name ∷ []) desk new stands
  brought_stands new setup closed beside has =
      let now : content_after content es ≡ setup_content new.setup = stands.now_is ∙ ap setup_content (sym setup) in
      let mine : HasRows (rows_without_lists then_away filled) (state g new.conn).committed = subst (λ r. HasRows r (state g new.conn).committed) written_is has in
      record {
        stands = record {
          given = stands.given;
          now_is = now;
          archived = stands.archived;
          own = brings.most;
          whole = brings.whole;
          parts = brings.parts;
          hold = stands.hold;
          knows = subst (λ k. KnowsClosed (closed_content k) stands.archived) (sym closed) stands.knows;
          rows = filled;
          is_own = is_own;
          away = then_away;
          lists = lists;
          holds = record {
            has = mine;
            loads = subst (λ k. LoadsOwn (closed_content k) (state g new.conn).committed (setup_content new.setup) terminal) (sym closed)
                (subst (λ c. LoadsOwn (closed_content desk.closed) (state g new.conn).committed c terminal) now (loads (state g new.conn).committed mine));
            beside = subst (λ b. IsOrNone (rows_without_lists then_away filled) terminal b) (sym beside) tt;
          };
        };
        here = (not_itself (stands.away name), tt);
        others = λ list here. ap (λ b. b && not (is_list name list)) here;
      }
    where
      not_itself : (b : Bool) → (b && not (is_list name name)) ≡ false
      not_itself true = ap not (tied_self name)
      not_itself false = refl

-- ---- which lists are away

-- something is told where something is shown, and nothing where nothing is

value_shown : {A B : Type 0} (f : A → B) (o : Option A) (b : B) → option_map f o ≡ Some b → (a : A) × (o ≡ Some a)
value_shown f None b is = absurd cc
value_shown f (Some a) b is = (a, refl)

nothing_shown : {A B : Type 0} (f : A → B) (o : Option A) → option_map f o ≡ None → o ≡ None
nothing_shown f None is = refl
nothing_shown f (Some a) is = cc

module _ {S : Type 0} (g : Ghosts S) (archives : List Archive) (content : SetupContent) (es : List Event) (desk : Desk S g) (stands : StandsBeside g archives content es desk) where
  abbrev mine : TerminalState
  mine = without_lists stands.away (own_terminal stands.archived.stays (machine_after content es).terminal)

  told_left : (asked : Query) (found : Option (List ℕ)) → DeskTells g desk asked found → TellsOf (content_after content es) mine (rows_without_lists stands.away stands.rows) asked found
  told_left asked found told = subst (λ k. TellsOf k mine (rows_without_lists stands.away stands.rows) asked found) (sym stands.now_is) (told.office (rows_without_lists stands.away stands.rows) mine stands.holds)

  -- a list that was never put away is not
  pub never_away : (name : ListName) → lines_away archives name ≡ None → stands.away name ≡ false
  never_away name none = by (stands.away name) refl
    where
      by : (away : Bool) → stands.away name ≡ away → away ≡ false
      by false e = refl
      by true e = let never : None ≡ Some (stands.lists.kept name e).kept = sym none ∙ (stands.lists.kept name e).are in absurd cc

  -- one that has a line in the store is not
  line_here : (asked : About) (call : CallContent) (side : Side) (what : Option ReportContent) (one : ReportContent) → what ≡ Some one → AsksList asked call side
      → TellsAbout (content_after content es) mine (rows_without_lists stands.away stands.rows) asked what → stands.away (list_name call side) ≡ false
  line_here (about.List asked on) call side what one some is tells =
      subst (λ (q : CallContent × Side). stands.away (list_name q.0 q.1) ≡ false) (λ i. (is.0 i, is.1 i)) (by (stands.away (list_name (call_content asked) on)) refl)
    where
      by : (away : Bool) → stands.away (list_name (call_content asked) on) ≡ away → away ≡ false
      by false e = refl
      by true e =
          let has = some_list stands.away (content_after content es) (own_terminal stands.archived.stays (machine_after content es).terminal) stands.rows asked on what one some tells in
          let none = none_away stands.away (own_terminal stands.archived.stays (machine_after content es).terminal) (call_content asked) on has.container e in
          let never : None ≡ Some has.line = sym none ∙ has.has in
          absurd cc
  line_here other call side what one some is tells = absurd is

  pub some_there : (asked : Query) (call : CallContent) (side : Side) (found : Option (List ℕ)) → (text : List ℕ) × (found ≡ Some text) → AsksList asked.about call side → DeskTells g desk asked found → stands.away (list_name call side) ≡ false
  some_there asked call side found some is tells =
      let told = told_left asked found tells in
      let value_there = value_shown (shown asked.view) told.0 some.0 (sym told.2 ∙ some.1) in
      line_here asked.about call side told.0 value_there.0 value_there.1 is told.1

  -- one that was put away and has none is
  gone_here : (asked : About) (call : CallContent) (side : Side) (back : List ListingContent) (what : Option ReportContent) → what ≡ None → AsksList asked call side
      → TellsAbout (content_after content es) mine (rows_without_lists stands.away stands.rows) asked what → lines_away archives (list_name call side) ≡ Some back → stands.away (list_name call side) ≡ true
  gone_here (about.List asked on) call side back what nothing is tells put_away =
      subst (λ (q : CallContent × Side). stands.away (list_name q.0 q.1) ≡ true) (λ i. (is.0 i, is.1 i))
      (by (stands.away (list_name (call_content asked) on)) refl)
    where
      put_away_here : lines_away archives (list_name (call_content asked) on) ≡ Some back
      put_away_here = subst (λ (q : CallContent × Side). lines_away archives (list_name q.0 q.1) ≡ Some back) (λ i. (sym is.0 i, sym is.1 i)) put_away

      by : (away : Bool) → stands.away (list_name (call_content asked) on) ≡ away → away ≡ true
      by true e = refl
      by false e =
          let has = came_back content es archives stands.away stands.archived.stays stands.own (call_content asked) on back stands.lists put_away_here e in
          let none = no_list stands.away (content_after content es) (own_terminal stands.archived.stays (machine_after content es).terminal) stands.rows asked on what nothing tells has.container in
          let never : None ≡ Some has.line = sym none ∙ has.has in
          absurd cc
  gone_here other call side back what nothing is tells put_away = absurd is

  pub line_gone : (asked : Query) (call : CallContent) (side : Side) (back : List ListingContent) → AsksList asked.about call side → DeskTells g desk asked None → lines_away archives (list_name call side) ≡ Some back → stands.away (list_name call side) ≡ true
  line_gone asked call side back is tells put_away =
      let told = told_left asked None tells in
      gone_here asked.about call side back told.0 (nothing_shown (shown asked.view) told.0 (sym told.2)) is told.1 put_away

-- ---- a desk that was looked at

module _ {S A : Type 0} (g : Ghosts S) (are : List Archive → A → Type 0) (old mid : Desk S g) (a : A) (settled : IsSound g old → (db : Trees) → (state g old.conn).may_leave db → db ≡ (state g old.conn).committed.trees)
    (looks : OnlyLooks g old mid) (last_fault : mid.last_fault ≡ old.last_fault) where
  -- and nothing was written
  pub brings_nothing : (names : List ListName) (result : Result (Unit {0}) TableFault) → (HasCleanDisk (state g mid.conn) → IsTrue (state g old.conn).is_open → OnOk result (IsTrue (state g mid.conn).is_open))
      → (IsSound g mid → (list : List Archive) (content : SetupContent) (es : List Event) → are list a → (stands : StandsBeside g list content es old) → AreHere stands.away (lists_back result names)) → BringsTogether g are old a names result mid
  brings_nothing names result opens here = record {
    stand = λ sound list content es these stands. record { stands = looked_stands g list content es old stands mid sound looks; here = here sound list content es these stands; others = λ l e. e };
    crash = λ sound clean list content es these stands db left. rows_left g list content es old stands db (settled sound db (looks.crash sound clean stands.holds.has.schema db left));
    setup = looks.setup;
    closed = looks.closed;
    last_fault = last_fault;
    stays = looks.stays;
    clean = looks.clean;
    opens = λ sound clean. opens clean sound.1;
  }

  pub brings_fault : (names : List ListName) (result : Result (Unit {0}) TableFault) (fault : TableFault) → result ≡ Err fault → BringsTogether g are old a names result mid
  brings_fault names result fault is = subst (λ r. BringsTogether g are old a names r mid) (sym is) (brings_nothing names (Err fault) (λ clean was. tt) (λ sound list content es these stands. tt))

  -- the store has no line of the list, and its lines were written
  module _ (name : ListName) (back : List ListingContent) (away : IsSound g mid → FindsIfAway g are old a name (Some back)) (was_open : HasCleanDisk (state g mid.conn) → IsTrue (state g old.conn).is_open → IsTrue (state g mid.conn).is_open) where
    pub brings_lines : (result : Result (Unit {0}) TableFault) (new : Desk S g) → WritesWhole (with_lines back) (state g mid.conn) (state g new.conn) result → new.beside ≡ None → new.setup ≡ mid.setup → new.closed ≡ mid.closed → new.last_fault ≡ mid.last_fault
        → BringsTogether g are old a (name ∷ []) result new
    brings_lines result new writes beside setup closed fault = record {
      stand = λ sound list content es these stands. stand_by result writes sound list content es these stands;
      crash = λ sound clean list content es these stands db left.
          let clean_mid = writes.ends.clean clean in
          let sound_mid : IsSound g mid = (clean_mid, was_open clean_mid sound.1) in
          let there = looked_stands g list content es old stands mid sound_mid looks in
          elim (writes.crash.crash clean db left) [
            | inl before ↦ rows_left g list content es old stands db (settled sound db (looks.crash sound clean_mid stands.holds.has.schema db before))
            | inr whole ↦
                subst (λ k. IsBesideAfter list (closed_content k) content es db) looks.closed
                (let gone = away sound_mid list content es these stands in brought_left g list content es mid there name back gone.1 gone.0 db (whole (rows_without_lists stands.away stands.rows) there.holds.has))
          ];
      setup = setup ∙ looks.setup;
      closed = closed ∙ looks.closed;
      last_fault = fault ∙ last_fault;
      stays = λ sound. looks.stays (sound_before sound);
      clean = λ clean. looks.clean (writes.ends.clean clean);
      opens = λ sound clean. opened result (writes.ok clean);
    }
      where
        sound_before : IsSound g new → IsSound g mid
        sound_before sound = (writes.ends.clean sound.0, writes.ends.was_open sound.0 sound.1)

        opened : (r : Result (Unit {0}) TableFault) → OnOk r (Commits (with_lines back) (state g mid.conn) (state g new.conn)) → OnOk r (IsTrue (state g new.conn).is_open)
        opened (Ok done) commits = commits.is_open
        opened (Err fault) commits = tt

        stand_by : (r : Result (Unit {0}) TableFault) → WritesWhole (with_lines back) (state g mid.conn) (state g new.conn) r → IsSound g new → (list : List Archive) (content : SetupContent) (es : List Event) → are list a → (stands : StandsBeside g list content es old)
            → StandsWith g list content es (lists_back r (name ∷ [])) old new stands
        stand_by (Ok done) writes sound list content es these stands =
            let mid_sound = sound_before sound in
            let there = looked_stands g list content es old stands mid mid_sound looks in
            let gone = away mid_sound list content es these stands in
            let so = brought_stands g list content es mid there name back gone.1 gone.0 new setup closed beside
            ((writes.ok sound.0).rows (rows_without_lists stands.away stands.rows) there.holds.has) in
            record { stands = so.stands; here = so.here; others = so.others }
        stand_by (Err fault) writes sound list content es these stands =
            let there = looked_stands g list content es old stands mid (sound_before sound) looks in
            record { stands = kept list content es there (writes.err sound.0 sound.1); here = tt; others = λ l e. e }
          where
            kept : (list : List Archive) (content : SetupContent) (es : List Event) (there : StandsBeside g list content es mid) → (state g new.conn).committed ≡ (state g mid.conn).committed → StandsBeside g list content es new
            kept list content es there same = record {
              given = there.given;
              now_is = there.now_is ∙ ap setup_content (sym setup);
              archived = there.archived;
              own = there.own;
              whole = there.whole;
              parts = there.parts;
              hold = there.hold;
              knows = subst (λ k. KnowsClosed (closed_content k) there.archived) (sym closed) there.knows;
              rows = there.rows;
              is_own = there.is_own;
              away = there.away;
              lists = there.lists;
              holds =
                  let R = rows_without_lists there.away there.rows in
                  let T = without_lists there.away (own_terminal there.archived.stays (machine_after content es).terminal) in
                  subst (λ k. HoldsOffice (closed_content new.closed) (setup_content k) R T (state g new.conn).committed new.beside) (sym setup)
                  (subst (λ k. HoldsOffice (closed_content k) (setup_content mid.setup) R T (state g new.conn).committed new.beside) (sym closed)
                  (office_with (closed_content mid.closed) (setup_content mid.setup) R T (state g mid.conn).committed (state g new.conn).committed mid.beside new.beside same (subst (IsOrNone R T) (sym beside) tt) there.holds));
            }

-- ---- one after the other

module _ {S A : Type 0} (g : Ghosts S) (are : List Archive → A → Type 0) (old mid new : Desk S g) (a : A) where
  all_here : (was now : ListName → Bool) (names : List ListName) → ((list : ListName) → was list ≡ false → now list ≡ false) → AreHere was names → AreHere now names
  all_here was now [] others here = tt
  all_here was now (name ∷ names) others here = (others name here.0, all_here was now names others here.1)

  both_here : (away : ListName → Bool) (names more : List ListName) → AreHere away names → AreHere away more → AreHere away (names ++ more)
  both_here away [] more here there = there
  both_here away (name ∷ names) more here there = (here.0, both_here away names more here.1 there)

  pub brings_more : (names more : List ListName) (result : Result (Unit {0}) TableFault) → BringsTogether g are old a names (Ok tt) mid → BringsTogether g are mid a more result new → BringsTogether g are old a (names ++ more) result new
  brings_more names more result first second = record {
    stand = λ sound list content es these stands.
        let there = first.stand (second.stays sound) list content es these stands in
        let then = second.stand sound list content es these there.stands in
        record { stands = then.stands; here = here result then.stands.away there.stands.away then.others there.here then.here; others = λ name e. then.others name (there.others name e) };
    crash = λ sound clean list content es these stands.
        let clean_mid = second.clean clean in
        let sound_mid : IsSound g mid = (clean_mid, first.opens sound clean_mid) in
        let there = first.stand sound_mid list content es these stands in
        subst (λ k. LeavesBeside list (closed_content k) content es (state g new.conn)) first.closed (second.crash sound_mid clean list content es these there.stands);
    setup = second.setup ∙ first.setup;
    closed = second.closed ∙ first.closed;
    last_fault = second.last_fault ∙ first.last_fault;
    stays = λ sound. first.stays (second.stays sound);
    clean = λ clean. first.clean (second.clean clean);
    opens = λ sound clean.
        let clean_mid = second.clean clean in
        second.opens (clean_mid, first.opens sound clean_mid) clean;
  }
    where
      here : (r : Result (Unit {0}) TableFault) (now was : ListName → Bool) → ((list : ListName) → was list ≡ false → now list ≡ false) → AreHere was names → AreHere now (lists_back r more) → AreHere now (lists_back r (names ++ more))
      here (Ok done) now was others first second = both_here now names more (all_here was now names others first) second
      here (Err fault) now was others first second = tt

-- at a fault nothing is known of the lists
pub brings_failed : {S A : Type 0} (g : Ghosts S) (are : List Archive → A → Type 0) (old new : Desk S g) (a : A) (names others : List ListName) (met : TableFault) (result : Result (Unit {0}) TableFault) (fault : TableFault) → result ≡ Err fault → BringsTogether g are old a names (Err met) new → BringsTogether g are old a others result new
brings_failed g are old new a names others met result fault is brings = subst (λ r. BringsTogether g are old a others r new) (sym is) (so brings)
  where
    so : BringsTogether g are old a names (Err met) new → BringsTogether g are old a others (Err fault) new
    so b = record { stand = λ sound list content es these stands. (let s = b.stand sound list content es these stands in record { stands = s.stands; here = tt; others = s.others }); crash = b.crash; setup = b.setup; closed = b.closed; last_fault = b.last_fault; stays = b.stays; clean = b.clean; opens = λ sound clean. tt }

-- where no list was put away none is
pub none_there : (away : ListName → Bool) (names : List ListName) → ((name : ListName) → away name ≡ false) → AreHere away names
none_there away [] none = tt
none_there away (name ∷ names) none = (none name, none_there away names none)
