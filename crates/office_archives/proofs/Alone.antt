-- A desk of which nothing was put away, and no archives: what it is asked is answered as desk and archives answer together.
use Rattle.std.{specs.Prelude.{◌&&◌, is_some, nat_le, option_map, string_bytes}, proofs.lemmas.Bool.{and_parts, leb-true}}
use Rattle.std.proofs.Common.{◌≡◌, ℕ, zero, suc, ◌≤◌, List, [], ◌∷◌, Bool, true, false, Option, None, Some, Result, refl, sym, ap, subst, ◌∙◌, length, arith}
use Rattle.sqlite.specs.{Held.state, Tree.Trees}
use Rattle.sqlite_trees.specs.declared.store.Store.{Ghosts}
use Rattle.edi_messages.specs.Owned.{call_content}
use Rattle.terminal_core.specs.State.{TerminalState}
use Rattle.office_admission.specs.Setups.{SetupContent, setup_content}
use Rattle.office_desk.{specs.{Calls.{Leads, Looks}, Desks.IsSound, Looking.DeskShows, declared.desk.Desk.Desk}, proofs.LookLemmas.looks_nowhere}
use Rattle.office_desk.specs.Reports.{DeskTells, TellsAbout, TellsReplyOf, contrl_for_partner, partner_called, ticket_of}
use Rattle.office_parts.specs.{Archives.{Archive, Hold, archive_of, reply_by}, Away.{AreAway, lines_away}, Naming.AreHere, OwnTerminal.own_terminal}
use Rattle.office_parts.specs.{OwnLists.{ListName, list_name, rows_without_lists, without_lists}, Parts.{AreClosed, Archived}}
use Rattle.office_replies.specs.{Events.Event, declared.deliver.Response.Response}
use Rattle.office_reports.specs.{Looking.{Look, of_archive, report, texts_after}, declared.query.NotNow.NotNow, declared.query.About.About}
use Rattle.office_reports.specs.{declared.query.Query.Query, declared.query.View.View, declared.query.View.TheVariants.{Text, Json, Csv, Page}}
use Rattle.office_report_data.specs.Told.{ReportContent, shown}
use Rattle.office_loading.specs.Closed.{last_closed}
use Rattle.office_history.specs.After.{machine_after}
use Rattle.office_rows.specs.Rows.{Rows}
use Rattle.office_archives.specs.{Standing.{IsBeyond, NamesNoneAway, StandsBeside}, Telling.{AreAsked, IsOfNumber, SaysIfAway, TellsTogether, shown_beside}}
use Rattle.office_archives.{specs.Together.{LeadsTogether, LooksTogether, ShowsBeside, TellsBeside}, proofs.{Noted.{asked_end, no_note}, Together.looks_on}}
use Rattle.office_archives.proofs.Beside.{calls_beside, container_beside, expected_beside, here_beside, list_beside, neither_beside, nobody_beside, number_beside, tells_so}
use Rattle.office_archives.proofs.Standing.{beyond_answered, beyond_left}
use Rattle.office_report_data.specs.Told as value
use Rattle.office_reports.specs.declared.query.About.TheVariants as about

-- ---- what no archives hold

-- no list is away
away_none : (archives : List Archive) (away : ListName → Bool) (content : SetupContent) (es : List Event) (own : Rows) → archives ≡ [] → AreAway archives away content es own → (list : ListName) → away list ≡ false
away_none archives away content es own none are list = by (away list) refl
  where
    by : (gone : Bool) → away list ≡ gone → gone ≡ false
    by true e =
        let put = are.kept list e in
        let never : None ≡ Some put.kept = sym (ap (λ l. lines_away l list) none) ∙ put.are in
        absurd cc
    by false e = refl

all_here : (away : ListName → Bool) → ((list : ListName) → away list ≡ false) → (lists : List ListName) → AreHere away lists
all_here away none [] = tt
all_here away none (list ∷ lists) = (none list, all_here away none lists)

-- no number is closed
closed_none : (archives : List Archive) (archived : Archived) → archives ≡ [] → AreClosed archived → Hold archives archived → (partner : ℕ) → archived.last_closed partner ≡ 0
closed_none archives archived none closed hold partner = by (archived.last_closed partner) refl
  where
    by : (last : ℕ) → archived.last_closed partner ≡ last → last ≡ 0
    by zero e = refl
    by (suc n) e =
        let high : suc n ≤ archived.last_closed partner = omega (arith, e) in
        let low : 1 ≤ suc n = omega arith in
        let told = closed.replied partner (suc n) low high in
        let its = hold.replies partner (suc n) low high in
        let never : false ≡ true = ap is_some (ap (λ l. reply_by l partner (suc n)) (sym none) ∙ its) ∙ told in
        absurd cc

-- ---- a delivery

pub alone_leads : {S A : Type 0} (g : Ghosts S) (is_sound : A → Type 0) (are : List Archive → A → Type 0) (old : Desk S g) (a : A) (sent : List ℕ) (given : Response) (new : Desk S g) → Leads g old sent given new → ((list : List Archive) → are list a → list ≡ [])
    → LeadsTogether g is_sound are old a sent given new a
alone_leads g is_sound are old a sent given new leads empty = record {
  answers = λ sound whole content es stand. (beyond_answered g stand.list content es old sent given new stand.stands leads sound (far stand.list (empty stand.list stand.these)) (none stand.list content es stand.stands (empty stand.list stand.these))).0;
  stand = λ sound content es stand.
      record { list = stand.list; these = stand.these; stands = (beyond_answered g stand.list content es old sent given new stand.stands leads sound (far stand.list (empty stand.list stand.these)) (none stand.list content es stand.stands (empty stand.list stand.these))).1 };
  crash = λ sound clean content es stand. beyond_left g stand.list content es old sent given new stand.stands leads sound clean (far stand.list (empty stand.list stand.these)) (none stand.list content es stand.stands (empty stand.list stand.these));
  setup = leads.setup;
  closed = leads.closed;
  stays = leads.stays;
  noted = leads.noted;
  these = λ list they. they;
  alone = λ nothing. leads;
}
  where
    far : (list : List Archive) → list ≡ [] → IsBeyond g list old sent
    far list is place admits = ap (λ l. archive_of l place.0 place.1) is

    none : (list : List Archive) (content : SetupContent) (es : List Event) (stands : StandsBeside g list content es old) → list ≡ [] → NamesNoneAway g list content es old stands sent
    none list content es stands is place admits = all_here stands.away (away_none list stands.away content es stands.own is stands.lists) _

-- ---- a look

zero_or_above : (n : ℕ) → (nat_le 1 n && nat_le n 0) ≡ false
zero_or_above n = by (nat_le 1 n && nat_le n 0) refl
  where
    by : (both : Bool) → (nat_le 1 n && nat_le n 0) ≡ both → both ≡ false
    by true e =
        let parts = and_parts (nat_le 1 n) (nat_le n 0) e in
        let low = leb-true 1 n parts.0 in
        let high = leb-true n 0 parts.1 in
        absurd (omega (arith, low, high))
    by false e = refl

none_put_away : (list : List Archive) → list ≡ [] → SaysIfAway list false
none_put_away list none = record { none = λ e name. ap (λ l. lines_away l name) none; some = λ e. let never : false ≡ true = e in absurd cc }

module _ {S A : Type 0} (g : Ghosts S) (are : List Archive → A → Type 0) (old : Desk S g) (a : A) (empty : (list : List Archive) → are list a → list ≡ []) where
  -- what a number's partner has, whoever that is
  number_alone : (asked : Query) (code : List ℕ) (n : ℕ) (found : Option (List ℕ)) → IsOfNumber asked.about code n → ((rows : Rows) (terminal : TerminalState) (what : Option ReportContent) → TellsAbout (setup_content old.setup) terminal rows asked.about what → partner_called (setup_content old.setup) code ≡ None → option_map (shown asked.view) what ≡ None)
      → DeskTells g old asked found → TellsBeside g are old a asked found
  number_alone asked code n found is nothing tells content es stand = by (partner_called (setup_content old.setup) code) refl
    where
      stands : StandsBeside g stand.list content es old
      stands = stand.stands

      rows : Rows
      rows = rows_without_lists stands.away stands.rows

      terminal : TerminalState
      terminal = without_lists stands.away (own_terminal stands.archived.stays (machine_after content es).terminal)

      by : (called : Option ℕ) → partner_called (setup_content old.setup) code ≡ called → TellsTogether content es stand.list stand.stands.archived stand.stands.whole asked found
      by None e =
          let told = tells.office rows terminal stands.holds in
          nobody_beside g are old a asked code n found is (told.2 ∙ nothing rows terminal told.0 told.1 e) (λ other_rows other_terminal holds. e) content es stand
      by (Some p) e =
          let closed : last_closed old.closed p ≡ 0 = stands.knows.numbers p ∙ closed_none stand.list stands.archived (empty stand.list stand.these) stands.parts.closed stands.hold p in
          number_beside g are old a asked code n p found is e (ap (λ last. nat_le 1 n && nat_le n last) closed ∙ zero_or_above n) tells content es stand

  -- no archive is told of
  nothing_beside : (view : View) (told : Option (List ℕ)) (what : Option ReportContent) → AreAsked what → told ≡ option_map (shown view) what → told ≡ shown_beside 0 view what
  unfolding shown
  nothing_beside Text told what asks is = is
  nothing_beside Csv told what asks is = is
  nothing_beside Page told what asks is = is ∙ sym (no_note (option_map (shown Page) what) (asked_end what asks))
  nothing_beside Json told None asks is = is
  nothing_beside Json told (Some (value.container its lists visits)) asks is = is
  nothing_beside Json told (Some (value.visits its)) asks is = is
  nothing_beside Json told (Some (value.calls lists)) asks is = is
  nothing_beside Json told (Some other) asks is = absurd asks

  -- what the desk reports, desk and archives report
  tells_alone : (asked : About) (view : View) (found : Option (List ℕ)) → IsSound g old → DeskTells g old (record { about = asked; view = view }) found → TellsBeside g are old a (record { about = asked; view = view }) found
  tells_alone (about.Visits container) view found sound told =
      container_beside g are old a (record { about = about.Visits container; view = view }) found found 0 tt (λ list these. sym (ap length (empty list these))) told (nothing_beside view found)
  tells_alone (about.Container container) view found sound told =
      container_beside g are old a (record { about = about.Container container; view = view }) found found 0 tt (λ list these. sym (ap length (empty list these))) told (nothing_beside view found)
  tells_alone about.Calls view found sound told =
      calls_beside g are old a view found found 0 (λ list these. (false, none_put_away list (empty list these), refl)) told (nothing_beside view found)
  tells_alone (about.List call side) view found sound told =
      list_beside g are old a old (record { about = about.List call side; view = view }) (call_content call) side found (refl, refl) sound (looks_nowhere g old)
      (λ list content es these stands. away_none list stands.away content es stands.own (empty list these) stands.lists (list_name (call_content call) side)) told
  tells_alone (about.Work call side) view found sound told =
      list_beside g are old a old (record { about = about.Work call side; view = view }) (call_content call) side found (refl, refl) sound (looks_nowhere g old)
      (λ list content es these stands. away_none list stands.away content es stands.own (empty list these) stands.lists (list_name (call_content call) side)) told
  tells_alone (about.Reply code n) view found sound told =
      number_alone (record { about = about.Reply code n; view = view }) (string_bytes code) n found (refl, refl)
      (λ rows terminal what is none. ap (option_map (shown view)) (subst (λ called. TellsReplyOf rows (string_bytes code) n called what) none is)) told
  tells_alone (about.Contrl code n) view found sound told =
      number_alone (record { about = about.Contrl code n; view = view }) (string_bytes code) n found (refl, refl)
      (λ rows terminal what is none. ap (option_map (shown view)) (is ∙ ap (contrl_for_partner rows (string_bytes code) n) none)) told
  tells_alone (about.Ticket code n) view found sound told =
      number_alone (record { about = about.Ticket code n; view = view }) (string_bytes code) n found (refl, refl)
      (λ rows terminal what is none. is view ∙ ap (λ o. option_map (shown view) (ticket_of terminal.visits rows (string_bytes code) n o)) none) told
  tells_alone (about.Expected container) view found sound told =
      expected_beside g are old a (record { about = about.Expected container; view = view }) found found 0 tt (λ list these. sym (ap length (empty list these))) told (λ page ended same. same ∙ sym (no_note page ended))
  tells_alone (about.Find typed) view found sound told = here_beside g are old a (record { about = about.Find typed; view = view }) found tt told
  tells_alone about.Start view found sound told = here_beside g are old a (record { about = about.Start; view = view }) found tt told
  tells_alone other view found sound told = neither_beside g are old a (record { about = other; view = view }) found tt told

  pub alone_tells : (asked : Query) (found : Option (List ℕ)) → IsSound g old → DeskTells g old asked found → TellsBeside g are old a asked found
  alone_tells asked found sound told = tells_alone asked.about asked.view found sound told

  shows : (look : Look) (found : Option (List ℕ)) → IsSound g old → DeskShows g old look found → ShowsBeside g are old a look found
  shows (report asked) found sound told = alone_tells asked found sound told
  shows (texts_after from) found sound told = (told, λ content es stand. empty stand.list stand.these)
  shows (of_archive place asked) found sound told = λ content es stand. record {
    tells = λ place_is.
        let many : length stand.list ≡ 0 = ap length (empty stand.list stand.these) in
        absurd (omega (arith, place_is.0, place_is.1, many));
    nothing = λ no. told;
  }

  pub alone_looks : (is_sound : A → Type 0) (look : Look) (found : Result (Option (List ℕ)) NotNow) (new : Desk S g) → (IsSound g old → (db : Trees) → (state g old.conn).may_leave db → db ≡ (state g old.conn).committed.trees) → Looks g old look found new
      → LooksTogether g is_sound are old a look found new a
  alone_looks is_sound look found new settled looks = record {
    told = λ sound whole. tells_so found (λ told. shows look told (looks.looks.stays sound)) (looks.told sound);
    looks = looks_on g are old new a a settled looks.looks (λ list they. they);
    noted = looks.noted;
    cause = λ sound here rows terminal holds. looks.cause sound rows terminal holds;
    is_open = looks.is_open;
    alone = λ nothing. looks;
  }
