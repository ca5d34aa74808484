-- Interchanges that are closed and still stand in a store: they are no part of it. So numbers may be closed in one place
-- before their rows are deleted in another, and whatever stops in between does no harm.
use Rattle.std.specs.Prelude.{◌≡◌, ℕ, ◌<◌, ◌≤◌, not, true, Bool, List, filter}
use Rattle.office_rows.specs.{Effects.with_waiting, Rows.{Interchange, Rows}}
use Rattle.office_history.specs.{After.reply_in, Cascade.{text_in, TakenContent, with_run}}
use Rattle.office_parts.specs.Closing.{is_closed, is_beyond, carried}

-- the rows without the interchanges that are closed
abbrev pub rows_beyond : (last_closed : ℕ → ℕ) → Rows → Rows
rows_beyond last_closed rows = record rows { interchanges = filter (is_beyond last_closed) rows.interchanges }

-- the rows without some interchanges
abbrev pub rows_without : (deleted : Interchange → Bool) → Rows → Rows
rows_without deleted rows = record rows { interchanges = filter (λ (i : Interchange). not (deleted i)) rows.interchanges }

-- ---- the laws

-- beyond what is closed, text and reply are looked up as if no closed interchange stood there
pub record IsToldBeyond (last_closed : ℕ → ℕ) (rows : Rows) (partner number : ℕ) : Type 0 where
  pub text : text_in (rows_beyond last_closed rows) partner number ≡ text_in rows partner number
  pub reply : reply_in (rows_beyond last_closed rows) partner number ≡ reply_in rows partner number

abbrev pub LeftOverTellNothing : Type 0
LeftOverTellNothing =
    (last_closed : ℕ → ℕ) (rows : Rows) (partner number : ℕ) → last_closed partner < number
    → IsToldBeyond last_closed rows partner number

-- what is written beyond it is written as if none stood there: a text that waits, and a run
pub record IsWrittenBeyond (last_closed : ℕ → ℕ) (rows : Rows) (partner number : ℕ) (text : List ℕ)
    (taken : List TakenContent) : Type 0 where
  pub waiting : rows_beyond last_closed (with_waiting partner number text rows)
      ≡ with_waiting partner number text (rows_beyond last_closed rows)
  pub run : rows_beyond last_closed (with_run partner number text taken rows)
      ≡ with_run partner number text taken (rows_beyond last_closed rows)

abbrev pub LeftOverStayApart : Type 0
LeftOverStayApart =
    (last_closed : ℕ → ℕ) (rows : Rows) (partner number : ℕ) (text : List ℕ) (taken : List TakenContent) →
    last_closed partner < number
    → IsWrittenBeyond last_closed rows partner number text taken

-- any of them may be deleted
abbrev pub LeftOverMayGo : Type 0
LeftOverMayGo =
    (last_closed : ℕ → ℕ) (deleted : Interchange → Bool) (rows : Rows) →
    ((i : Interchange) → deleted i ≡ true → is_closed last_closed i ≡ true)
    → rows_beyond last_closed (rows_without deleted rows) ≡ rows_beyond last_closed rows

-- to close numbers, no visit being put away, is to raise the last ones that are closed
abbrev pub RaisingCloses : Type 0
RaisingCloses =
    (before after : ℕ → ℕ) (rows : Rows) → ((partner : ℕ) → before partner ≤ after partner)
    → carried after (λ number. true) (rows_beyond before rows) ≡ rows_beyond after rows
