-- The rows of a store, and what its archives hold: together they are the rows after the events.
use Rattle.std.specs.Prelude.{◌≡◌, ◌↔◌, ℕ, ◌<◌, ◌≤◌, ◌++◌, Bool, true, false, List, [], Contains, find, is_some, None}
use Rattle.terminal_core.specs.Rows.{VisitContent}
use Rattle.office_replies.specs.Events.{Event}
use Rattle.office_rows.specs.{Rows.{Interchange, Rows, no_rows}, Effects.is_pair}
use Rattle.office_admission.specs.Setups.{SetupContent}
use Rattle.office_history.specs.After.{reply_in, AreAfter}
use Rattle.office_parts.specs.OwnTerminal.{own_visits, MayStay}

-- What all archives of a store hold together: interchanges, of each partner up to the last number that is closed; and the
-- visits whose numbers do not stay in the store.
pub record Archived : Type 0 where
  pub interchanges : List Interchange
  pub last_closed : ℕ → ℕ
  pub visits : List VisitContent
  pub stays : ℕ → Bool

-- a store without archives: no number is closed, and each visit stays
abbrev pub nothing_archived : Archived
nothing_archived = record { interchanges = []; last_closed = λ partner. 0; visits = []; stays = λ number. true }

-- their interchanges, as rows that are asked for a text and a reply
abbrev pub rows_of_archives : Archived → Rows
rows_of_archives archived = record no_rows { interchanges = archived.interchanges }

-- archives hold each number that is closed, with its reply, and no other
pub record AreClosed (archived : Archived) : Type 0 where
  pub none_beyond : (partner number : ℕ) → archived.last_closed partner < number →
      find (is_pair partner number) archived.interchanges ≡ None
  pub replied : (partner number : ℕ) → 1 ≤ number → number ≤ archived.last_closed partner →
      is_some (reply_in (rows_of_archives archived) partner number) ≡ true

-- The store's own rows and those of its archives are the whole: the interchanges are those of both; the store has the
-- visits whose numbers stay, and the archives have the others; all else is the store's.
pub record AreParts (archived : Archived) (own whole : Rows) : Type 0 where
  pub partners : whole.partners ≡ own.partners
  pub interchanges : whole.interchanges ≡ archived.interchanges ++ own.interchanges
  pub visits : own.visits ≡ own_visits archived.stays whole.visits
  pub others : (visit : VisitContent) →
      Contains archived.visits visit ↔ (Contains whole.visits visit × (archived.stays visit.number ≡ false))
  pub places : whole.places ≡ own.places
  pub lines : whole.lines ≡ own.lines
  pub settings : whole.settings ≡ own.settings
  pub blocks : whole.blocks ≡ own.blocks

-- a store's own rows and what its archives hold are parts of a whole that is after the events, and what was put away
-- might be
pub record ArePartsAfter (content : SetupContent) (es : List Event) (archived : Archived) (own whole : Rows) : Type 0 where
  pub after : AreAfter content es whole
  pub closed : AreClosed archived
  pub parts : AreParts archived own whole
  pub stay : MayStay archived.stays whole.visits
