-- The rows after a list of events.
use Rattle.std.specs.{Prelude.{◌≡◌, ℕ, ◌+◌, ◌≤◌, List, [], ◌∷◌, map, find, count_by, Option, None, Some}, Option.option_and_then}
use Rattle.edi_messages.specs.{declared.codes.PartnerKind.PartnerKind, Codes.table_texts}
use Rattle.yard_core.specs.YardMap.{YardMap}
use Rattle.partner_core.specs.{ByPlace.taken_by_place, Deliveries.{Delivery, first_text, run}, Machine.Taking, Order.{state, reply_of}}
use Rattle.terminal_core.specs.{State.{TerminalState, empty_state}, Changes.rows_of, Versions.newest, declared.change.Version.Version}
use Rattle.office_replies.specs.Events.{Event, delivered, migrated, added}
use Rattle.office_admission.specs.{Admission.number_said, Taking.{MachineState, interchange_taken_by}}
use Rattle.office_rows.specs.{Rows.{Partner, Interchange, Rows}, Effects.is_pair, Opening.settings_in, ByKey.{terminal_rows, ArePlacedOnce, AreListedOnce}}
use Rattle.office_history.specs.Cascade.{text_in}
use Rattle.std.specs.FinMap as finite_map
pub use Rattle.office_admission.specs.Setups.{SetupContent, parties_in}
pub use Rattle.office_admission.specs.Accounts.{content_after}
pub use Rattle.office_admission.specs.Deliveries.{deliveries_of}

-- ---- the machine of a set-up

abbrev pub machine_with : SetupContent → TerminalState → MachineState
machine_with content terminal = record {
  parties = parties_in content;
  codes = content.codes;
  kinds = map (λ (account : List ℕ × PartnerKind). account.1) content.partners;
  blocks = content.blocks;
  visit_limit = content.visit_limit;
  terminal = terminal;
}

abbrev pub empty_yard : SetupContent → YardMap
empty_yard content = record { plan = content.blocks; boxes = finite_map.empty }

-- the terminal before anything was delivered
abbrev pub opening_of : SetupContent → MachineState
opening_of content = machine_with content (empty_state (empty_yard content) content.visit_limit)

-- two set-ups say the same, to the characters of their codes
pub record SaysSame (one other : SetupContent) : Type 0 where
  pub terminal : one.terminal ≡ other.terminal
  pub codes : table_texts one.codes ≡ table_texts other.codes
  pub partners : one.partners ≡ other.partners
  pub blocks : one.blocks ≡ other.blocks
  pub limit : one.visit_limit ≡ other.visit_limit

-- ---- the rules by place

abbrev pub with_earlier_event : Event → Option (Version × List Event) → Option (Version × List Event)
with_earlier_event event None = None
with_earlier_event event (Some migration) = Some (migration.0, event ∷ migration.1)

-- the first migration: the version of the store that was brought to the newest, and the events before it
abbrev pub migration_in : List Event → Option (Version × List Event)
migration_in [] = None
migration_in (migrated version ∷ later) = Some (version, [])
migration_in (delivered text ∷ later) = with_earlier_event (delivered text) (migration_in later)
migration_in (added code kind ∷ later) = with_earlier_event (added code kind) (migration_in later)

abbrev pub taking_by : Version → SetupContent → Option (Version × List Event) → Taking MachineState
taking_by version content None = interchange_taken_by version
taking_by version content (Some migration) =
    taken_by_place number_said (deliveries_of content migration.1) (interchange_taken_by migration.0)
    (interchange_taken_by version)

-- Take by place, in a store of that version: what became next before the migration is taken by the rules of the store
-- that was migrated, and all else by those of the version
unfoldable pub taking_in : Version → SetupContent → List Event → Taking MachineState
taking_in version content es = taking_by version content (migration_in es)

-- State(es)
abbrev pub machine_after : SetupContent → List Event → MachineState
machine_after content es =
    state (taking_in newest content es) (opening_of (content_after content es)) (deliveries_of content es)

-- ---- the rows

-- the accounts by id, from this one on, each with its partner's next number
abbrev pub accounts_from : ℕ → (ℕ → ℕ) → List (List ℕ × PartnerKind) → List Partner
accounts_from id next [] = []
accounts_from id next (account ∷ accounts) =
    (record { id = id; code = account.0; kind = account.1; next = next id }) ∷ accounts_from (id + 1) next accounts

-- an empty reply is that of an interchange that waits
abbrev pub reply_if_any : List ℕ → Option (List ℕ)
reply_if_any [] = None
reply_if_any (byte ∷ bytes) = Some (byte ∷ bytes)

-- the reply that is kept for a partner's number
abbrev pub reply_in : Rows → ℕ → ℕ → Option (List ℕ)
reply_in rows partner number =
    option_and_then (λ (i : Interchange). reply_if_any i.reply) (find (is_pair partner number) rows.interchanges)

-- no number of a partner has two interchanges
abbrev pub AreKeptOnce : List Interchange → Type 0
AreKeptOnce interchanges = (partner number : ℕ) → count_by (is_pair partner number) interchanges ≤ 1

-- the rows of a set-up and of deliveries, in a store of that version: each account with the number after its run, every
-- First with its reply within the run, visits, places and lines of State, the settings and the blocks of the set-up
pub record AreRowsOf (version : Version) (taking : Taking MachineState) (now : SetupContent) (ds : List Delivery)
    (rows : Rows) : Type 0 where
  pub partners : rows.partners ≡ accounts_from 1 (λ partner. run ds partner + 1) now.partners
  pub texts : (partner number : ℕ) → text_in rows partner number ≡ first_text ds partner number
  pub replies : (partner number : ℕ) →
      reply_in rows partner number ≡ reply_of taking (opening_of now) ds partner number
  pub kept_once : AreKeptOnce rows.interchanges
  pub terminal : terminal_rows rows ≡ rows_of (state taking (opening_of now) ds).terminal
  pub placed_once : ArePlacedOnce rows.places
  pub listed_once : AreListedOnce rows.lines
  pub settings : rows.settings ≡ settings_in version now
  pub blocks : rows.blocks ≡ now.blocks

-- Rows(es) in a store of that version: those of the set-up with the accounts so far, and of what was delivered
abbrev pub AreAfterBy : Version → SetupContent → List Event → Rows → Type 0
AreAfterBy version content es rows =
    AreRowsOf version (taking_in version content es) (content_after content es) (deliveries_of content es) rows

-- Rows(es)
abbrev pub AreAfter : SetupContent → List Event → Rows → Type 0
AreAfter content es rows = AreAfterBy newest content es rows
