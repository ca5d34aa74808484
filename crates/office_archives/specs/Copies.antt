-- Archives as copies of a store, of earlier days.
use Rattle.std.specs.Prelude.{◌≡◌, ℕ, ◌≤◌, Bool, List, [], ◌∷◌, ◌++◌, Contains, filter}
use Rattle.partner_core.specs.Deliveries.{run}
use Rattle.terminal_core.specs.Rows.{VisitContent}
use Rattle.office_admission.specs.{Deliveries.deliveries_of, Setups.SetupContent}
use Rattle.office_replies.specs.Events.{Event}
use Rattle.office_rows.specs.Rows.{Interchange, Rows}
use Rattle.office_history.specs.Laws.{HasNoMigration}
use Rattle.office_parts.specs.{Archives.Archive, Closing.is_closed, LeftOver.rows_beyond, Parts.{Archived, ArePartsAfter}}
use Rattle.office_parts.specs.OwnLists.{ListName, rows_without_lists}
use Rattle.office_archives.specs.Visits.{IsVisitWithin}

-- each visit that was put away was opened and closed by interchanges that are closed
abbrev pub GoByNumbers : Archived → Type 0
GoByNumbers archived =
    (visit : VisitContent) → Contains archived.visits visit → IsVisitWithin archived.last_closed visit

-- The archive is a copy of the store of an earlier day, and no older store was migrated since. Its rows are the store's own
-- after some of the events, without the lists that were away, besides interchanges that were closed, and put away, and still
-- stood there. At that day no more was closed than by the archives before it, and what it closes was taken.
pub record IsCopy (content : SetupContent) (es : List Event) (closed_before : ℕ → ℕ) (archive : Archive) : Type 0 where
  pub earlier : List Event
  pub later : List Event
  pub at_its_day : es ≡ earlier ++ later
  pub unmigrated : HasNoMigration later
  pub archived : Archived
  pub own : Rows
  pub whole : Rows
  pub parts : ArePartsAfter content earlier archived own whole
  pub away : ListName → Bool
  pub is_own : rows_beyond archived.last_closed archive.rows ≡ rows_without_lists away own
  pub rest : (i : Interchange) → Contains (filter (is_closed archived.last_closed) archive.rows.interchanges) i →
      Contains archived.interchanges i
  pub by_numbers : GoByNumbers archived
  pub closed : (partner : ℕ) → archived.last_closed partner ≤ closed_before partner
  pub taken : (partner : ℕ) → archive.last_closed partner ≤ run (deliveries_of content earlier) partner

-- each of these archives stands so to the numbers that were closed by those before it, the first to these
abbrev pub AreInTurn : (StandsSo : (ℕ → ℕ) → Archive → Type 0) → (closed_before : ℕ → ℕ) → List Archive → Type 0
AreInTurn StandsSo closed_before [] = Unit {0}
AreInTurn StandsSo closed_before (archive ∷ archives) =
    StandsSo closed_before archive × AreInTurn StandsSo archive.last_closed archives

-- they are copies, in the order in which they were closed
abbrev pub AreCopies : SetupContent → List Event → (closed_before : ℕ → ℕ) → List Archive → Type 0
AreCopies content es closed_before archives = AreInTurn (IsCopy content es) closed_before archives

-- up to which numbers the last of these archives closed, or what came before them
abbrev pub newest_closed : (closed_before : ℕ → ℕ) → List Archive → ℕ → ℕ
newest_closed closed_before [] = closed_before
newest_closed closed_before (archive ∷ archives) = newest_closed archive.last_closed archives
