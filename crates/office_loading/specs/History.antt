-- What a migration does to the events of an office.
use Rattle.std.specs.Prelude.{◌≡◌, List}
use Rattle.sqlite.specs.{Tree.Trees, Effect.Database}
use Rattle.terminal_core.specs.declared.change.Version.{Version}
use Rattle.office_replies.specs.Events.{Event}
use Rattle.office_admission.specs.{Given.IsGiven, Setups.SetupContent}
use Rattle.office_rows.specs.{Tables.office_schema, Layouts.{bare, layout_of}, Rows.Rows, Stored.HasRows, Bare.HasBareRows}
use Rattle.office_history.specs.{After.{AreAfterBy, AreAfter}, Laws.HasNoMigration}

-- the database holds the rows that a store of version 1 or 2 has after those events
pub record IsOlderAfter (version : Version) (content : SetupContent) (es : List Event) (db : Database) : Type 0 where
  pub older : layout_of version ≡ bare
  pub given : IsGiven content
  pub unmigrated : HasNoMigration es
  pub rows : Rows
  pub has : HasBareRows rows db
  pub after : AreAfterBy version content es rows

-- the database holds the rows after those events
pub record HoldsAfter (content : SetupContent) (es : List Event) (db : Database) : Type 0 where
  pub rows : Rows
  pub has : HasRows rows db
  pub after : AreAfter content es rows

-- the trees of a database are those of one that holds the rows after those events
abbrev pub StoresAfter : SetupContent → List Event → Trees → Type 0
StoresAfter content es trees = HoldsAfter content es (record { schema = office_schema; trees = trees })
