-- Opening a store of which history was put away.
use Rattle.std.specs.Prelude.{◌≡◌, List}
use Rattle.sqlite.specs.Held.{Held, state}
use Rattle.sqlite_trees.specs.declared.store.Store.{Ghosts}
use Rattle.office_replies.specs.Events.{Event}
use Rattle.office_loading.specs.Closed.{closed_content}
use Rattle.office_rows.specs.Tables.{office_schema}
use Rattle.office_admission.specs.{Given.IsGiven, Setups.{SetupContent, setup_content}}
use Rattle.office_history.specs.After.{SaysSame, content_after}
use Rattle.office_desk.specs.{Offices.OpensOffice, declared.desk.Desk.Desk}
use Rattle.office_parts.specs.Archives.{Archive}
use Rattle.office_archives.specs.{Standing.StandsBeside, Together.IsBesideAfter}

-- The desk's set-up says the same as the opening one with the accounts so far, and it stands beside the archives after the
-- events, for an opening set-up that says the same.
pub record OpensBeside {S : Type 0} (g : Ghosts S) (archives : List Archive) (content : SetupContent) (es : List Event)
    (desk : Desk S g) : Type 0 where
  pub says : SaysSame (setup_content desk.setup) (content_after content es)
  pub opening : SetupContent
  pub opening_says : SaysSame opening content
  pub stands : StandsBeside g archives opening es desk

-- A desk that is opened with what is closed, on rows that are parts of those after some events, goes on from there.
abbrev pub OpenedStandBeside : {S : Type 0} → Ghosts S → Type 0
OpenedStandBeside {S} g =
    (archives : List Archive) (content : SetupContent) (es : List Event) (found : Held S) (desk : Desk S g) →
    IsGiven content → (state g found).committed.schema ≡ office_schema →
    IsBesideAfter archives (closed_content desk.closed) content es (state g found).committed.trees → OpensOffice g (state g found) desk
    → OpensBeside g archives content es desk
