-- What one archive of a store tells, as the store that it was.
use Rattle.std.specs.{Prelude.{option_map, String, string_bytes}, declared.alloc.Global.Global}
use Rattle.std.proofs.Common.{◌≡◌, ◌-◌, ℕ, List, Bool, Option, take, refl, sym, ap, subst, ◌∙◌}
use Rattle.sqlite_trees.specs.declared.store.Store.{Ghosts}
use Rattle.box6346.specs.declared.box_number.BoxNumber.{BoxNumber}
use Rattle.terminal_core.specs.State.{TerminalState}
use Rattle.office_replies.specs.Events.{Event}
use Rattle.office_rows.specs.Rows.{Rows}
use Rattle.office_admission.specs.Setups.{SetupContent}
use Rattle.office_history.specs.After.{content_after}
use Rattle.office_reports.specs.{declared.query.About.About, declared.query.Query.Query}
use Rattle.office_report_data.specs.Told.{ReportContent, shown}
use Rattle.office_desk.specs.{Reports.{TellsAbout, partner_called}, declared.desk.Desk.Desk}
use Rattle.office_parts.specs.Archives.{Archive}
use Rattle.office_archives.specs.{Keeping.IsReportIn, Together.{StandTogether, TellsOfOne}}
use Rattle.office_archives.specs.Telling.{AreAsked, IsOfContainer, IsOfNumber, IsPlace, SaysIfAway, TellsAsStore, TellsByAbout, TellsOwnBeside, TellsOwnNumber, archives_with_lists, shown_beside}
use Rattle.office_archives.proofs.Beside.{calls_asked, container_asked}
use Rattle.office_reports.specs.declared.query.About.TheVariants as about

-- what is told with so many archives
own_beside : (list : List Archive) (place count : ℕ) (asked : Query) (own found : Option (List ℕ)) → ((content : SetupContent) (state : TerminalState) (rows : Rows) (what : Option ReportContent) → TellsAbout content state rows asked.about what → AreAsked what) → IsReportIn list place asked own
    → ((what : Option ReportContent) → AreAsked what → own ≡ option_map (shown asked.view) what → found ≡ shown_beside count asked.view what) → TellsOwnBeside list place count asked found
own_beside list place count asked own found are told same archive there =
    let it = told archive there in
    (it.0, it.1, same it.0 (are it.1.content it.1.terminal archive.rows it.0 it.1.tells) it.2)

container_by : (content : SetupContent) (list : List Archive) (place : ℕ) (about_it : About) (asked : Query) (found : Option (List ℕ)) → IsOfContainer about_it → TellsOwnBeside list place (place - 1) asked found → TellsByAbout content list place about_it asked found
container_by content list place (about.Visits container) asked found is told = told
container_by content list place (about.Container container) asked found is told = told
container_by content list place other asked found is told = absurd is

pub container_as : (content : SetupContent) (list : List Archive) (place : ℕ) (asked : Query) (own found : Option (List ℕ)) → IsOfContainer asked.about → IsReportIn list place asked own
    → ((what : Option ReportContent) → AreAsked what → own ≡ option_map (shown asked.view) what → found ≡ shown_beside (place - 1) asked.view what) → TellsAsStore content list place asked found
container_as content list place asked own found is told same =
    container_by content list place asked.about asked found is (own_beside list place (place - 1) asked own found (λ now state rows what. container_asked now state rows asked.about what is) told same)

-- what is told of lists with so many archives
pub calls_as : (content : SetupContent) (list : List Archive) (place count : ℕ) (asked : Query) (own found : Option (List ℕ)) (put_away : Bool) → asked.about ≡ about.Calls → SaysIfAway (take (place - 1) list) put_away → count ≡ archives_with_lists (take (place - 1) list) put_away → IsReportIn list place asked own
    → ((what : Option ReportContent) → AreAsked what → own ≡ option_map (shown asked.view) what → found ≡ shown_beside count asked.view what) → TellsAsStore content list place asked found
calls_as content list place count asked own found put_away is says counted told same =
    subst (λ q. TellsByAbout content list place q asked found) (sym is) record {
      put_away = put_away;
      says = says;
      told = subst (λ n. TellsOwnBeside list place n asked found) counted (own_beside list place count asked own found (λ now state rows what. calls_asked now state rows asked.about what is) told same);
    }

-- the code and the number are those of the query, and this is who has the code
number_by : (content : SetupContent) (list : List Archive) (place : ℕ) (about_it : About) (asked : Query) (code : List ℕ) (n : ℕ) (called : Option ℕ) (found : Option (List ℕ)) → IsOfNumber about_it code n → partner_called content code ≡ called
    → TellsOwnNumber list place asked code n called found → TellsByAbout content list place about_it asked found
number_by content list place (about.Reply partner k) asked code n called found is who told =
    subst (λ p. TellsOwnNumber list place asked (string_bytes partner) k p found) (sym (ap (partner_called content) is.0 ∙ who))
    (subst (λ m. TellsOwnNumber list place asked (string_bytes partner) m called found) (sym is.1) (subst (λ c. TellsOwnNumber list place asked c n called found) (sym is.0) told))
number_by content list place (about.Contrl partner k) asked code n called found is who told =
    subst (λ p. TellsOwnNumber list place asked (string_bytes partner) k p found) (sym (ap (partner_called content) is.0 ∙ who))
    (subst (λ m. TellsOwnNumber list place asked (string_bytes partner) m called found) (sym is.1) (subst (λ c. TellsOwnNumber list place asked c n called found) (sym is.0) told))
number_by content list place (about.Ticket partner k) asked code n called found is who told =
    subst (λ p. TellsOwnNumber list place asked (string_bytes partner) k p found) (sym (ap (partner_called content) is.0 ∙ who))
    (subst (λ m. TellsOwnNumber list place asked (string_bytes partner) m called found) (sym is.1) (subst (λ c. TellsOwnNumber list place asked c n called found) (sym is.0) told))
number_by content list place other asked code n called found is who told = absurd is

pub number_as : (content : SetupContent) (list : List Archive) (place : ℕ) (asked : Query) (code : List ℕ) (n : ℕ) (called : Option ℕ) (found : Option (List ℕ)) → IsOfNumber asked.about code n → partner_called content code ≡ called → TellsOwnNumber list place asked code n called found
    → TellsAsStore content list place asked found
number_as content list place asked code n called found is who told = number_by content list place asked.about asked code n called found is who told

neither_by : (content : SetupContent) (list : List Archive) (place : ℕ) (about_it : About) (asked : Query) (found : Option (List ℕ)) → ((container : BoxNumber) → about_it ≡ about.Visits container → ⊥) → ((container : BoxNumber) → about_it ≡ about.Container container → ⊥)
    → (about_it ≡ about.Calls → ⊥)
    → ((code : String Global) (number : ℕ) → about_it ≡ about.Reply code number → ⊥) → ((code : String Global) (number : ℕ) → about_it ≡ about.Contrl code number → ⊥) → ((code : String Global) (number : ℕ) → about_it ≡ about.Ticket code number → ⊥)
    → IsReportIn list place asked found → TellsByAbout content list place about_it asked found
neither_by content list place (about.Visits container) asked found visits there calls reply contrl ticket told = absurd (visits container refl)
neither_by content list place (about.Container container) asked found visits there calls reply contrl ticket told = absurd (there container refl)
neither_by content list place about.Calls asked found visits there calls reply contrl ticket told = absurd (calls refl)
neither_by content list place (about.Reply code n) asked found visits there calls reply contrl ticket told = absurd (reply code n refl)
neither_by content list place (about.Contrl code n) asked found visits there calls reply contrl ticket told = absurd (contrl code n refl)
neither_by content list place (about.Ticket code n) asked found visits there calls reply contrl ticket told = absurd (ticket code n refl)
neither_by content list place other asked found visits there calls reply contrl ticket told = told

pub neither_as : (content : SetupContent) (list : List Archive) (place : ℕ) (asked : Query) (found : Option (List ℕ)) → ((container : BoxNumber) → asked.about ≡ about.Visits container → ⊥) → ((container : BoxNumber) → asked.about ≡ about.Container container → ⊥)
    → (asked.about ≡ about.Calls → ⊥)
    → ((code : String Global) (number : ℕ) → asked.about ≡ about.Reply code number → ⊥) → ((code : String Global) (number : ℕ) → asked.about ≡ about.Contrl code number → ⊥) → ((code : String Global) (number : ℕ) → asked.about ≡ about.Ticket code number → ⊥)
    → IsReportIn list place asked found → TellsAsStore content list place asked found
neither_as content list place asked found visits there calls reply contrl ticket told = neither_by content list place asked.about asked found visits there calls reply contrl ticket told

module _ {S A : Type 0} (g : Ghosts S) (are : List Archive → A → Type 0) (desk : Desk S g) (a : A) where
  -- there is one at that place, and it tells so
  pub told_there : (place : ℕ) (asked : Query) (found : Option (List ℕ)) → ((list : List Archive) → are list a → IsPlace list place)
      → ((content : SetupContent) (es : List Event) (stand : StandTogether g are content es desk a) → TellsAsStore (content_after content es) stand.list place asked found) → TellsOfOne g are desk a place asked found
  told_there place asked found there tells content es stand = record {
    tells = λ is. tells content es stand;
    nothing = λ none. absurd (none (there stand.list stand.these));
  }
