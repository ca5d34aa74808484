-- The archives of a store, one by one: which of them is asked for a number, and what a copy has to hold before rows go.
use Rattle.std.specs.{Prelude.{◌≡◌, ℕ, ◌<◌, ◌≤◌, false, Bool, nat_le, List, Contains, find, Option, None}, Option.option_and_then}
use Rattle.terminal_core.specs.Rows.{VisitContent}
use Rattle.office_rows.specs.Rows.{ListingContent, Rows}
use Rattle.office_history.specs.{Cascade.text_in, After.reply_in}
use Rattle.office_parts.specs.Parts.{Archived, rows_of_archives}

-- an archive: a copy of a store's rows, the last number of each partner that was closed by it, and of each list that was put
-- away with it, by vessel, voyage and side, its lines
pub record Archive : Type 0 where
  pub rows : Rows
  pub last_closed : ℕ → ℕ
  pub lists : List (List ℕ) → Option (List ListingContent)

abbrev pub reaches : ℕ → ℕ → Archive → Bool
reaches partner number archive = nat_le number (archive.last_closed partner)

-- the archive of a partner's number: in the order of their closing the first that reaches it
abbrev pub archive_of : List Archive → ℕ → ℕ → Option Archive
archive_of archives partner number = find (reaches partner number) archives

-- the text, and the reply, that the number's archive keeps under it
abbrev pub text_by : List Archive → ℕ → ℕ → Option (List ℕ)
text_by archives partner number =
    option_and_then (λ (archive : Archive). text_in archive.rows partner number) (archive_of archives partner number)

abbrev pub reply_by : List Archive → ℕ → ℕ → Option (List ℕ)
reply_by archives partner number =
    option_and_then (λ (archive : Archive). reply_in archive.rows partner number) (archive_of archives partner number)

-- one of the archives has the visit
pub record IsInArchive (archives : List Archive) (visit : VisitContent) : Type 0 where
  pub archive : Archive
  pub is_one : Contains archives archive
  pub has : Contains archive.rows.visits visit

-- These archives hold this: each number that is closed is reported by its archive, no other has one, and each visit that
-- was put away is in one of them.
pub record Hold (archives : List Archive) (archived : Archived) : Type 0 where
  pub texts : (partner number : ℕ) → 1 ≤ number → number ≤ archived.last_closed partner →
      text_by archives partner number ≡ text_in (rows_of_archives archived) partner number
  pub replies : (partner number : ℕ) → 1 ≤ number → number ≤ archived.last_closed partner →
      reply_by archives partner number ≡ reply_in (rows_of_archives archived) partner number
  pub none_beyond : (partner number : ℕ) → archived.last_closed partner < number →
      archive_of archives partner number ≡ None
  pub visits : (visit : VisitContent) → Contains archived.visits visit → IsInArchive archives visit

-- A copy holds what is to go from the store's own rows: the text and the reply of each number between the last one that
-- is closed and the last one that will be, and each visit that will not stay.
pub record HoldsWhatGoes (archived : Archived) (own copy : Rows) (last_closed : ℕ → ℕ) (stays : ℕ → Bool) : Type 0 where
  pub texts : (partner number : ℕ) → archived.last_closed partner < number → number ≤ last_closed partner →
      text_in copy partner number ≡ text_in own partner number
  pub replies : (partner number : ℕ) → archived.last_closed partner < number → number ≤ last_closed partner →
      reply_in copy partner number ≡ reply_in own partner number
  pub visits : (visit : VisitContent) → Contains own.visits visit → stays visit.number ≡ false → Contains copy.visits visit
