-- The laws of a journal over several files.
use Rattle.std.specs.Prelude.{◌≡◌, ℕ, ◌≤◌, List, [], ◌∷◌, ◌++◌, filter, true, false, Err}
use Rattle.edi_syntax.specs.Interchange.{interchange_of}
use Rattle.partner_core.specs.Deliveries.{is_used, run}
use Rattle.office_admission.specs.{Admission.admission, Accounts.content_after, Deliveries.deliveries_of, Setups.{SetupContent, parties_in}}
use Rattle.office_history.specs.{Cascade.{TakenContent, with_run}, Laws.IsFor}
use Rattle.office_replies.specs.{Events.{Event, delivered, added}, declared.deliver.Fault.Fault}
use Rattle.office_rows.specs.{Effects.with_waiting, Rows.{Interchange, Rows}}
use Rattle.office_parts.specs.{Journal.kept_texts, Archives.Archive, Closing.is_beyond, Copies.{HasInOrder, AreCopiesInOrder, closed_after}}
use Rattle.office_parts.specs.ArchiveJournal.{journal_of}

-- The journal over the files is the journal of the events, byte for byte, as if nothing had been put away.
abbrev pub JournalIsOfAllFiles : Type 0
JournalIsOfAllFiles =
    (content : SetupContent) (es : List Event) (archives : List Archive) (own : List Interchange) →
    AreCopiesInOrder content es archives own
    → journal_of archives own ≡ kept_texts content es

-- ---- what keeps a file in order

-- what is closed besides, and whatever of it is deleted, leaves the rest in order
abbrev pub ClosingStaysInOrder : Type 0
ClosingStaysInOrder =
    (content : SetupContent) (es : List Event) (before then_ : ℕ → ℕ) (interchanges left : List Interchange) →
    ((partner : ℕ) → before partner ≤ then_ partner) → HasInOrder content es before interchanges
    → filter (is_beyond then_) left ≡ filter (is_beyond then_) interchanges
    → HasInOrder content es then_ left

-- What an event does to a file in order. A text that is refused, or whose number is used, and an account leave it so. A text
-- under a free number is added as the last, whether it waits or is taken with others; then the file is in order after it.
pub record EventsStayInOrder : Type 0 where
  pub refused : (content : SetupContent) (es : List Event) (closed : ℕ → ℕ) (interchanges : List Interchange)
      (sent : List ℕ) (fault : Fault) → HasInOrder content es closed interchanges
      → admission (parties_in (content_after content es)) (interchange_of sent) ≡ Err fault
      → HasInOrder content (es ++ delivered sent ∷ []) closed interchanges
  pub used : (content : SetupContent) (es : List Event) (closed : ℕ → ℕ) (interchanges : List Interchange)
      (sent : List ℕ) (partner number : ℕ) → HasInOrder content es closed interchanges
      → IsFor content es sent partner number → is_used (deliveries_of content es) partner number ≡ true
      → HasInOrder content (es ++ delivered sent ∷ []) closed interchanges
  pub early : (content : SetupContent) (es : List Event) (closed : ℕ → ℕ) (rows : Rows) (sent : List ℕ)
      (partner number : ℕ) → HasInOrder content es closed rows.interchanges
      → IsFor content es sent partner number → is_used (deliveries_of content es) partner number ≡ false
      → HasInOrder content (es ++ delivered sent ∷ []) closed
      (with_waiting partner number (interchange_of sent) rows).interchanges
  pub next : (content : SetupContent) (es : List Event) (closed : ℕ → ℕ) (rows : Rows) (sent : List ℕ)
      (partner number : ℕ) (taken : List TakenContent) → HasInOrder content es closed rows.interchanges
      → IsFor content es sent partner number → is_used (deliveries_of content es) partner number ≡ false
      → HasInOrder content (es ++ delivered sent ∷ []) closed
      (with_run partner number (interchange_of sent) taken rows).interchanges
  pub account : (content : SetupContent) (es : List Event) (closed : ℕ → ℕ) (interchanges : List Interchange)
      (code kind : List ℕ) → HasInOrder content es closed interchanges
      → HasInOrder content (es ++ added code kind ∷ []) closed interchanges

-- ---- what keeps all files in order

-- The files of a store stay in order by an event that leaves the store so, and by a closing. A closing adds a copy of some day,
-- with the archives of that day: it closes what they closed and no number beyond the runs of its day, and of the store no row
-- is gone that it does not close.
pub record CopiesStayInOrder : Type 0 where
  pub store : (content : SetupContent) (es : List Event) (archives : List Archive) (own : List Interchange) →
      AreCopiesInOrder content es archives own
      → HasInOrder content es (closed_after (λ partner. 0) archives) own
  pub event : (content : SetupContent) (es : List Event) (event : Event) (archives : List Archive)
      (own left : List Interchange) → AreCopiesInOrder content es archives own
      → ((closed : ℕ → ℕ) → HasInOrder content es closed own → HasInOrder content (es ++ event ∷ []) closed left)
      → AreCopiesInOrder content (es ++ event ∷ []) archives left
  pub closing : (content : SetupContent) (day since : List Event) (archives : List Archive) (copy : Archive)
      (before : ℕ → ℕ) (own left : List Interchange) → AreCopiesInOrder content day archives copy.rows.interchanges
      → ((partner : ℕ) → closed_after (λ partner. 0) archives partner ≤ copy.last_closed partner)
      → ((partner : ℕ) → copy.last_closed partner ≤ run (deliveries_of content day) partner)
      → HasInOrder content (day ++ since) before own
      → ((partner : ℕ) → before partner ≤ copy.last_closed partner)
      → filter (is_beyond copy.last_closed) left ≡ filter (is_beyond copy.last_closed) own
      → AreCopiesInOrder content (day ++ since) (archives ++ copy ∷ []) left
