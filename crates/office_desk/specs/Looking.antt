-- What a desk tells of whatever is looked at: a report, a page of the kept texts, or an archive's report.
use Rattle.std.specs.Prelude.{◌≡◌, ℕ, List, Option, None}
use Rattle.sqlite.specs.{Effect.Database, Held.state, State.State}
use Rattle.sqlite_trees.specs.declared.store.Store.{Ghosts}
use Rattle.office_replies.specs.Events.{Event}
use Rattle.office_admission.specs.Setups.{SetupContent}
use Rattle.office_rows.specs.{Rows.Rows, Stored.HasRows, Tables.interchange_table}
use Rattle.office_history.specs.After.{AreAfter}
use Rattle.office_reports.specs.Looking.{Look, of_archive, report, texts_after}
use Rattle.office_loading.specs.Pages.{TellsLines, most_page_bytes}
use Rattle.office_desk.specs.{Causes.AsksUnfitReply, Reports.{DeskTells, FindsAfter, IsOpenFor}, declared.desk.Desk.Desk}

-- ---- the kept texts

-- a page of the texts after that number, in the order of the rowids; or none exactly if there are fewer than that
abbrev pub PagesOf : Database → ℕ → Option (List ℕ) → Type 0
PagesOf db from found = TellsLines from most_page_bytes (db.trees interchange_table.tree) found

-- what the desk hands out of the rows that it has
abbrev pub DeskHands : {S : Type 0} (g : Ghosts S) → Desk S g → ℕ → Option (List ℕ) → Type 0
DeskHands g desk from found =
    (rows : Rows) → HasRows rows (state g desk.conn).committed → PagesOf (state g desk.conn).committed from found

-- what is handed out of a database that has the rows after those events
pub record HandsAfter (content : SetupContent) (es : List Event) (from : ℕ) (found : Option (List ℕ)) : Type 0 where
  pub db : Database
  pub rows : Rows
  pub has : HasRows rows db
  pub after : AreAfter content es rows
  pub pages : PagesOf db from found

-- ---- whatever is looked at

-- what the desk tells of it; of its store nothing was put away, so no archive tells anything
abbrev pub DeskShows : {S : Type 0} (g : Ghosts S) → Desk S g → Look → Option (List ℕ) → Type 0
DeskShows g desk (report query) found = DeskTells g desk query found
DeskShows g desk (texts_after from) found = DeskHands g desk from found
DeskShows g desk (of_archive place query) found = found ≡ None

-- what is reported of it after those events
abbrev pub ShowsAfter : SetupContent → List Event → Look → Option (List ℕ) → Type 0
ShowsAfter content es (report query) found = FindsAfter content es query found
ShowsAfter content es (texts_after from) found = HandsAfter content es from found
ShowsAfter content es (of_archive place query) found = found ≡ None

-- the reply that it tells of is no text; a page of texts is reported whatever their bytes are
abbrev pub ShowsUnfitReply : SetupContent → Rows → Look → Type 0
ShowsUnfitReply content rows (report query) = AsksUnfitReply content rows query.about
ShowsUnfitReply content rows (texts_after from) = ⊥
ShowsUnfitReply content rows (of_archive place query) = ⊥

-- the office can be asked only if its store is open
abbrev pub IsOpenAt : Look → State → Type 0
IsOpenAt (report query) s = IsOpenFor query.about s
IsOpenAt (texts_after from) s = Unit {0}
IsOpenAt (of_archive place query) s = Unit {0}
