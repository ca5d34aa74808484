-- An office that is made again, or followed, by its journal.
use Rattle.std.specs.Prelude.{◌≡◌, ◌⊎◌, ℕ, ◌+◌, ◌≤◌, Option, map, List, ◌∷◌, ◌++◌, length, take}
use Rattle.partner_core.specs.{Answers.{AnswerModel, Taken, Waiting}, Deliveries.{Delivery, run}}
use Rattle.office_replies.specs.Events.{Event}
use Rattle.office_admission.specs.{Setups.SetupContent, Accounts.content_after, Deliveries.deliveries_of}
use Rattle.office_rows.specs.Rows.{Rows}
use Rattle.office_history.specs.{After.{machine_after, AreAfter}, Laws.{HasNoMigration, answer_model_of}}
use Rattle.office_parts.specs.{Kept.kept, Journal.{text_of, kept_texts, texts_since, delivered_all, accounts_in}}

-- Two offices, each of a set-up and events: the same rows, machine and answers.
pub record IsSameOffice (one : SetupContent) (es : List Event) (other : SetupContent) (fs : List Event) : Type 0 where
  pub rows : (rows : Rows) → AreAfter one es rows → AreAfter other fs rows
  pub back : (rows : Rows) → AreAfter other fs rows → AreAfter one es rows
  pub machine : machine_after one es ≡ machine_after other fs
  pub answers : (partner number : ℕ) (sent : List ℕ) →
      answer_model_of one es partner number sent ≡ answer_model_of other fs partner number sent

-- two offices with the same set-up and accounts so far, and the same journal
pub record HasSameJournal (one : SetupContent) (es : List Event) (other : SetupContent) (fs : List Event) : Type 0 where
  pub setup : content_after one es ≡ content_after other fs
  pub texts : kept_texts one es ≡ kept_texts other fs

-- are the same office, now and after whatever comes later
abbrev pub JournalDecides : Type 0
JournalDecides =
    (one other : SetupContent) (es fs later : List Event) →
    HasNoMigration (es ++ later) → HasNoMigration (fs ++ later) → HasSameJournal one es other fs
    → IsSameOffice one (es ++ later) other (fs ++ later)

-- Whatever came, and whatever comes later: a new office, set up with the accounts so far, to which the journal is
-- delivered, is the same.
abbrev pub Rebuilding : Type 0
Rebuilding =
    (content : SetupContent) (es later : List Event) → HasNoMigration (es ++ later)
    → IsSameOffice content (es ++ later) (content_after content es) (delivered_all (kept_texts content es) ++ later)

-- how the text of a delivery is answered by an office with the accounts so far, to which the texts of those before it
-- were delivered
abbrev pub told_after : SetupContent → List Event → List Delivery → Delivery → AnswerModel
told_after content es before d =
    answer_model_of (content_after content es) (delivered_all (map text_of before)) d.partner d.number d.text

-- each text of the journal is taken or waits: none is a repeat or a clash
abbrev pub EachIsNew : Type 0
EachIsNew =
    (content : SetupContent) (es : List Event) (before later : List Delivery) (d : Delivery) →
    kept (deliveries_of content es) ≡ before ++ d ∷ later
    → ((reply : Option (List ℕ)) × (told_after content es before d ≡ Taken reply))
    ⊎ (told_after content es before d ≡ Waiting (run before d.partner + 1))

-- An office that has the accounts so far, and to which only these first texts of the journal were delivered, is the
-- first one as it was after some of its events, with the accounts so far. So it goes on as that one would.
pub record Follows (content : SetupContent) (es : List Event) (texts : List (List ℕ)) : Type 0 where
  pub earlier : List Event
  pub later : List Event
  pub parts : es ≡ earlier ++ later
  pub same : (more : List Event) → HasNoMigration more →
      IsSameOffice content ((earlier ++ accounts_in later) ++ more)
      (content_after content es) (delivered_all texts ++ more)

abbrev pub Following : Type 0
Following =
    (content : SetupContent) (es : List Event) (count : ℕ) → HasNoMigration es → count ≤ length (kept_texts content es)
    → Follows content es (take count (kept_texts content es))

-- A copy of an office, made after some of its events, gets the accounts and the texts that came since: then it is the
-- same office as the first. The events before the copy may have a migration.
abbrev pub CopiesCatchUp : Type 0
CopiesCatchUp =
    (content : SetupContent) (earlier since later : List Event) → HasNoMigration (since ++ later)
    → IsSameOffice content (earlier ++ (since ++ later)) content
    (earlier ++ ((accounts_in since ++ delivered_all (texts_since content earlier since)) ++ later))
