-- What a crash leaves.
use Rattle.std.specs.Prelude.{◌⊎◌, ℕ, List, [], ◌∷◌, ◌++◌}
use Rattle.sqlite.specs.{State.State, Tree.Trees}
use Rattle.office_replies.specs.{Delivering.with_answered, Events.{Event, delivered}, declared.deliver.Response.Response}
use Rattle.office_rows.specs.{Rows.Rows, Stored.StoresRows}
use Rattle.office_admission.specs.Setups.{SetupContent}
use Rattle.office_history.specs.After.{AreAfter}
use Rattle.office_replies.specs.declared.deliver.Response.TheVariants as response

-- a store holds the rows after those events, in the tables that it lists
pub record IsAfter (content : SetupContent) (es : List Event) (db : Trees) : Type 0 where
  pub rows : Rows
  pub are : StoresRows rows db
  pub after : AreAfter content es rows

-- a crash leaves only the rows after those events
abbrev pub Leaves : SetupContent → List Event → State → Type 0
Leaves content es s = (db : Trees) → s.may_leave db → IsAfter content es db

-- a crash leaves those, or those after one delivery more
abbrev pub LeavesEither : SetupContent → List Event → List ℕ → State → Type 0
LeavesEither content es sent s =
    (db : Trees) → s.may_leave db → IsAfter content es db ⊎ IsAfter content (es ++ delivered sent ∷ []) db

-- a crash leaves nothing that it would not have left before
abbrev pub LeavesNoMore : State → State → Type 0
LeavesNoMore old new = (db : Trees) → new.may_leave db → old.may_leave db

-- what is answered stands, and a delivery that is answered NotNow is there whole or not at all
abbrev pub LeavesBehind : SetupContent → List Event → List ℕ → Response → State → Type 0
LeavesBehind content es sent response.NotNow s = LeavesEither content es sent s
LeavesBehind content es sent given s = Leaves content (es ++ delivered sent ∷ []) s

-- after those deliveries a crash leaves the rows after those that were answered; where the last was answered NotNow, it
-- is there whole or not at all
abbrev pub LeavesAll : SetupContent → List Event → List (List ℕ) → List Response → State → Type 0
LeavesAll content es [] [] s = Leaves content es s
LeavesAll content es [] (response ∷ responses) s = ⊥
LeavesAll content es (text ∷ texts) [] s = ⊥
LeavesAll content es (text ∷ []) (response ∷ []) s = LeavesBehind content es text response s
LeavesAll content es (text ∷ texts) (response ∷ responses) s =
    LeavesAll content (with_answered es text response) texts responses s
