-- What a store is opened from after a closing.
use Rattle.std.specs.Prelude.{◌≡◌, List, []}
use Rattle.sqlite.specs.Tree.{Trees}
use Rattle.terminal_core.specs.State.{TerminalState}
use Rattle.office_replies.specs.Events.{Event}
use Rattle.office_rows.specs.{Rows.Rows, Stored.StoresRows, Tables.office_schema}
use Rattle.office_admission.specs.{Given.IsGiven, Setups.SetupContent}
use Rattle.office_history.specs.After.{AreAfter, AreKeptOnce}
use Rattle.office_loading.specs.Tables.{LoadsOwn}
use Rattle.office_parts.specs.{OwnLists.rows_without_lists, Archives.Archive}
use Rattle.office_closing.specs.{Changes.{empty_register, unmarked}, Register.{RegisterContent, closed_by}, Sound.IsSound, Copies.FileNames}
use Rattle.office_closing.specs.{Closes.{AreOrderly, Closing, Held, IsClosing, IsLeft, raised_register}, PuttingAway.AreNamedThen}
use Rattle.office_archives.specs.{Shelves.NamesAll, Together.IsBesideAfter}

-- A store that may be closed: its sound register names these archives, and beside them it holds what a desk opens from after
-- those events. These are its rows, with no interchange twice.
pub record OpensAfter (content : SetupContent) (es : List Event) (archives : List Archive) (register : RegisterContent)
    (rows : Rows) (db : Trees) : Type 0 where
  pub sound : IsSound register
  pub named : NamesAll register archives
  pub beside : IsBesideAfter archives (closed_by register) content es db
  pub rows_are : rows_without_lists beside.away beside.rows ≡ rows
  pub once : AreKeptOnce rows.interchanges

-- ---- which stores open

-- a store of which nothing was put away, beside no archives
abbrev pub UnclosedStoresOpen : Type 0
UnclosedStoresOpen =
    (content : SetupContent) (es : List Event) (rows : Rows) (db : Trees) → StoresRows rows db → AreAfter content es rows
    → OpensAfter content es [] empty_register rows db

-- a store as a desk beside its archives leaves it, if its tables load as those of an office
abbrev pub LoadedStoresOpen : Type 0
LoadedStoresOpen =
    (content : SetupContent) (es : List Event) (archives : List Archive) (register : RegisterContent) (db : Trees)
    (setup : SetupContent) (terminal : TerminalState) → IsSound register → NamesAll register archives →
    (beside : IsBesideAfter archives (closed_by register) content es db) →
    LoadsOwn (closed_by register) (record { schema = office_schema; trees = db }) setup terminal
    → OpensAfter content es archives register (rows_without_lists beside.away beside.rows) db

-- The rows of a store that opens are in order, as a closing asks.
abbrev pub OpenedRowsAreOrderly : Type 0
OpenedRowsAreOrderly =
    (content : SetupContent) (es : List Event) (archives : List Archive) (register : RegisterContent) (rows : Rows)
    (db : Trees) → IsGiven content → OpensAfter content es archives register rows db → AreOrderly rows

-- ---- closings

-- A closing adds an archive to those that the register named, if the register does not have it already.
abbrev pub ClosingsAddAnArchive : Type 0
ClosingsAddAnArchive =
    (archives : List Archive) (held : Held) (names : FileNames) (closing : Closing) →
    IsClosing held names closing → held.register ≡ unmarked held.copied
    → (after : List Archive) × AreNamedThen held closing archives after

-- A closing that goes on, since it stopped once the register had the archive, goes on beside the archives of the one that
-- stopped.
abbrev pub ClosingsGoOn : Type 0
ClosingsGoOn =
    (archives after : List Archive) (held again : Held) (names : FileNames) (closing next : Closing) →
    IsSound held.copied → IsClosing held names closing → AreNamedThen held closing archives after →
    again.register ≡ raised_register held closing → again.copy ≡ held.copy →
    unmarked again.copied ≡ unmarked held.copied → IsClosing again names next
    → AreNamedThen again next after after

-- A closing is no event. If a store opens after some events, beside the archives that its register names, then what a closing
-- leaves of it, or leaves wherever it stops once the register has the archive, opens after the same events, beside the archives
-- that the register names then.
abbrev pub ClosingsAreNoEvents : Type 0
ClosingsAreNoEvents =
    (content : SetupContent) (es : List Event) (archives after : List Archive) (held : Held) (names : FileNames)
    (closing : Closing) (left : Rows) (db new : Trees) → IsGiven content →
    OpensAfter content es archives held.register held.own db → AreOrderly held.copy → IsSound held.copied →
    IsClosing held names closing → AreNamedThen held closing archives after → IsLeft closing held.own left →
    StoresRows left new
    → OpensAfter content es after (raised_register held closing) left new
