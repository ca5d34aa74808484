-- What a desk tells, by a set-up that only says the same, and by the tables that the files held.
use Rattle.std.specs.Prelude.{filter, string_bytes}
use Rattle.std.proofs.Common.{◌≡◌, inl, inr, ℕ, List, [], ◌∷◌, Option, None, Some, option_map, ap, refl, sym, subst, ◌∙◌}
use Rattle.sqlite.specs.{Effect.Database, Held.state, Tree.Trees}
use Rattle.sqlite_trees.specs.declared.store.Store.{Ghosts}
use Rattle.box6346.specs.declared.box_number.BoxNumber.{BoxNumber}
use Rattle.terminal_core.specs.{Rows.VisitContent, State.{TerminalState, LineContent, LineKey, is_visit_of}}
use Rattle.office_replies.specs.Events.{Event}
use Rattle.office_admission.specs.{Parties.partner_from, Setups.{SetupContent, setup_content}}
use Rattle.office_rows.specs.{Opening.tables_version, Rows.Rows, Stored.HasRows}
use Rattle.office_loading.{specs.{Closed.{closed_content, nothing_closed}, Tables.{Loads, LoadsOwn}}, proofs.Offices.whole_office}
use Rattle.office_history.{specs.After.{SaysSame, content_after}, proofs.Alike.parties_same}
use Rattle.office_reports.specs.{Program.program_version, declared.query.About.About, declared.query.Query.Query, declared.query.ReportKind.ReportKind}
use Rattle.office_reports.specs.{declared.query.View.View, Visits.{visits_by, visits_of}, Calls.lists_in, Metrics.metrics_text, OpenLines.open_lines, Picture.IsPicture}
use Rattle.office_reports.specs.Containers.{ContainerContent, container_of}
use Rattle.office_report_data.specs.{Told.{ReportContent, shown}, Visits.{visit_data, visit_fields}}
use Rattle.office_desk.specs.Reports.{AreLookedUp, AreShownAlike, FindsAfter, TellsAbout, TellsAfter, TellsNext, TellsPartner, TellsPartners, TellsReplyOf, DeskTells, container_by, container_told, contrl_for_partner, start_by, ticket_of, partner_called}
use Rattle.office_desk.{specs.declared.desk.Desk.Desk, proofs.OwnNumbers.answers_alike}
use Rattle.office_commands.{specs.{Opening.OpensOver, Reporting.{TellsKey, TellsOver, in_lines, report_text, report_status}}, proofs.Alike.now_alike}
use Rattle.std.specs.FinMap as finite_map
use Rattle.office_reports.specs.declared.query.About.TheVariants as about
use Rattle.office_report_data.specs.Told as value

-- what is reported at each query is reported at that of a key
pub key_also : (tells tells' : Query → Option (List ℕ) → Type 0) (kind : ReportKind) (view : View) (key : List ℕ) (found : Option (List ℕ))
    → ((query : Query) → tells query found → tells' query found) → TellsKey tells kind view key found → TellsKey tells' kind view key found
key_also tells tells' kind view key found also told = elim told [
  | inl none ↦ inl none
  | inr asked ↦ inr (asked.0, asked.1, also asked.0 asked.2)
]

module _ (one other : SetupContent) (says : SaysSame one other) where
  called_alike : (code : List ℕ) → partner_called one code ≡ partner_called other code
  called_alike code = ap (λ parties. partner_from 1 code parties.partners) (parties_same one other says)

  -- visits are shown with the partners' codes, of which both set-ups have the same
  visits_shown : (view : View) (container : BoxNumber) (visits : List VisitContent) → option_map (shown view) (option_map value.visits (visits_by one container visits)) ≡ option_map (shown view) (option_map value.visits (visits_by other container visits))
  unfolding shown visit_data visit_fields
  visits_shown view container [] = refl
  visits_shown view container (visit ∷ visits) =
      λ i. Some (shown view (value.visits (record {
        setup = record { terminal = one.terminal; codes = one.codes; partners = says.partners i; blocks = one.blocks; visit_limit = one.visit_limit };
        container = container;
        visits = visit ∷ visits;
      })))

  with_visits_shown : (view : View) (report : ContainerContent) (lists : List (LineKey × LineContent)) (container : BoxNumber) (visits : List VisitContent) → shown view (value.container report lists (visits_by one container visits)) ≡ shown view (value.container report lists (visits_by other container visits))
  unfolding shown
  with_visits_shown view report lists container [] = refl
  with_visits_shown view report lists container (visit ∷ visits) =
      λ i. shown view (value.container report lists (Some (record {
        setup = record { terminal = one.terminal; codes = one.codes; partners = says.partners i; blocks = one.blocks; visit_limit = one.visit_limit };
        container = container;
        visits = visit ∷ visits;
      })))

  found_shown : (view : View) (state : TerminalState) (container : BoxNumber) (found : Option ContainerContent) → option_map (shown view) (option_map (container_by one state container) found) ≡ option_map (shown view) (option_map (container_by other state container) found)
  found_shown view state container None = refl
  found_shown view state container (Some report) =
      ap Some (with_visits_shown view report (open_lines state.lines container) container (filter (is_visit_of container) state.visits))

  container_shown : (view : View) (state : TerminalState) (container : BoxNumber) → option_map (shown view) (container_told one state container) ≡ option_map (shown view) (container_told other state container)
  container_shown view state container =
      (λ i. option_map (shown view) (option_map (container_by one state container) (container_of (record { terminal = one.terminal; codes = one.codes; partners = says.partners i; blocks = one.blocks; visit_limit = one.visit_limit }) state container)))
      ∙ found_shown view state container (container_of other state container)

  -- what one tells, the other tells, or what is shown alike
  of_alike : (state : TerminalState) (rows : Rows) (asked : About) (told : Option ReportContent) → TellsAbout one state rows asked told → (what : Option ReportContent) × TellsAbout other state rows asked what × AreShownAlike told what
  of_alike state rows about.Yard what told = (what, told, λ view. refl)
  of_alike state rows (about.Visits container) what told = (
    option_map value.visits (visits_of other state container),
    refl,
    λ view. ap (option_map (shown view)) told ∙ visits_shown view container (filter (is_visit_of container) state.visits),
  )
  of_alike state rows (about.List call side) what told = (what, told, λ view. refl)
  of_alike state rows (about.Ticket partner number) what told = (
    what,
    (λ view. told view ∙ ap (λ called. option_map (shown view) (ticket_of state.visits rows (string_bytes partner) number called)) (called_alike (string_bytes partner))),
    λ view. refl,
  )
  of_alike state rows (about.Reply partner number) what told = (
    what,
    subst (λ called. TellsReplyOf rows (string_bytes partner) number called what) (called_alike (string_bytes partner)) told,
    λ view. refl,
  )
  of_alike state rows (about.Container container) what told = (
    container_told other state container,
    refl,
    λ view. ap (option_map (shown view)) told ∙ container_shown view state container,
  )
  of_alike state rows about.Partners what told = (what, subst (λ accounts. TellsPartners rows accounts what) says.partners told, λ view. refl)
  of_alike state rows about.Blocks what told = (what, told, λ view. refl)
  of_alike state rows about.Calls what told = (what, told, λ view. refl)
  of_alike state rows (about.Work call side) what told = (what, told, λ view. refl)
  of_alike state rows (about.Contrl partner number) what told = (
    what,
    told ∙ ap (contrl_for_partner rows (string_bytes partner) number) (called_alike (string_bytes partner)),
    λ view. refl,
  )
  of_alike state rows about.Picture what told = (
    what,
    (told.0, told.1, subst (λ blocks. IsPicture state other.terminal blocks told.0) says.blocks (subst (λ name. IsPicture state name one.blocks told.0) says.terminal told.2)),
    λ view. refl,
  )
  of_alike state rows (about.Partner code) what told = (
    what,
    subst (λ accounts. TellsPartner rows accounts (partner_called other (string_bytes code)) what) says.partners
        (subst (λ called. TellsPartner rows one.partners called what) (called_alike (string_bytes code)) told),
    λ view. refl,
  )
  of_alike state rows (about.Next code) what told = (
    what,
    (told.0, subst (λ called. TellsNext rows called told.0) (called_alike (string_bytes code)) told.1, told.2),
    λ view. refl,
  )
  of_alike state rows about.Health what told = (what, told, λ view. refl)
  of_alike state rows about.Metrics what told = (
    what,
    (
      told.0,
      (
        told.1.0,
        subst (λ accounts. AreLookedUp rows 1 accounts told.1.0) says.partners told.1.1,
        told.1.2 ∙ ap (λ limit. Some (metrics_text program_version tables_version state limit told.1.0)) says.limit,
      ),
      told.2,
    ),
    λ view. refl,
  )
  of_alike state rows about.Start what told = (
    what,
    (
      told.0,
      subst (λ accounts. AreLookedUp rows 1 accounts told.0) says.partners told.1,
      (
        told.2.0,
        told.2.1,
        told.2.2 ∙ (λ i. Some (value.start (says.terminal i) (start_by (record { terminal = one.terminal; codes = one.codes; partners = one.partners; blocks = one.blocks; visit_limit = says.limit i }) state told.0 told.2.0))),
      ),
    ),
    λ view. refl,
  )
  of_alike state rows (about.Expected container) what told = (what, told, λ view. refl)
  of_alike state rows (about.Block letter) what told = (what, told, λ view. refl)
  of_alike state rows (about.Find typed) what told = (
    what,
    told ∙ ap (λ called. Some (value.found (string_bytes typed) state.visits (option_map (λ (id : ℕ). string_bytes typed) called) (lists_in (finite_map.entries state.lines)))) (called_alike (string_bytes typed)),
    λ view. refl,
  )

module _ (one other : SetupContent) (says : SaysSame one other) where
  after_alike : (es : List Event) (asked : About) (told : Option ReportContent) → TellsAfter one es asked told → (what : Option ReportContent) × TellsAfter other es asked what × AreShownAlike told what
  after_alike es asked told tells =
      let alike = answers_alike one other says es in
      let its = of_alike (content_after one es) (content_after other es) (now_alike one other says es) _ tells.rows asked told tells.tells in (
        its.0,
        record {
          rows = tells.rows;
          after = alike.rows tells.rows tells.after;
          tells = subst (λ state. TellsAbout (content_after other es) state tells.rows asked its.0) alike.terminal its.1;
        },
        its.2,
      )

  pub found_alike : (es : List Event) (asked : Query) (found : Option (List ℕ)) → FindsAfter one es asked found → FindsAfter other es asked found
  found_alike es asked found told =
      let its = after_alike es asked.about told.0 told.1 in
      (its.0, its.1, told.2 ∙ its.2 asked.view)

-- an office of which nothing is closed is a whole one
whole_loads : (db : Database) (content : SetupContent) (terminal : TerminalState) → LoadsOwn nothing_closed db content terminal → Loads db content terminal
whole_loads db content terminal loads = (loads.0, loads.1, whole_office loads.0 content terminal loads.2)

-- what a desk tells that was opened over those tables, with nothing closed
pub told_over : {S : Type 0} (g : Ghosts S) (db : Trees) (desk : Desk S g) (asked : Query) (found : Option (List ℕ)) → OpensOver g db desk
    → closed_content desk.closed ≡ nothing_closed → DeskTells g desk asked found → TellsOver db asked found
told_over g db desk asked found over none told =
    let content = setup_content desk.setup in
    let terminal = over.office.there.terminal in
    let there = (state g over.was).committed in
    let whole = whole_loads there content terminal (subst (λ closed. LoadsOwn closed there content terminal) none over.office.loads) in
    record {
      content = content;
      terminal = terminal;
      loads = subst (λ (d : Database). Loads d content terminal) over.shows whole;
      tells = λ rows has. told.office rows terminal (over.office.holds rows (subst (HasRows rows) (sym over.shows) has));
    }

-- what was found was printed in whole lines
pub printed_found : {T : Type 0} (prints : List ℕ → ℕ → Type 0) (bytes : T → List ℕ) (found : Option T) (text : T) (lines printed : List ℕ) → found ≡ Some text
    → lines ≡ in_lines (bytes text) → printed ≡ lines → prints printed 0
    → prints (report_text (option_map bytes found)) (report_status (option_map bytes found))
printed_found prints bytes found text lines printed is are same given =
    subst (λ it. prints (report_text (option_map bytes it)) (report_status (option_map bytes it))) (sym is)
    (subst (λ it. prints it 0) (same ∙ are) given)
