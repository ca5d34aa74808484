-- What is away from a store does not rest on the memory that holds the codes of its set-up.
use Rattle.std.specs.Prelude.{Bool, List}
use Rattle.office_history.specs.After.{SaysSame}
use Rattle.office_parts.specs.{Archives.Archive, Away.AreAway, OwnLists.ListName}
use Rattle.office_replies.specs.Events.{Event}
use Rattle.office_rows.specs.Rows.{Rows}
use Rattle.office_admission.specs.Setups.{SetupContent}

-- after the same events the same lists are away from a store of a set-up that says the same
abbrev pub AwayIsAlike : Type 0
AwayIsAlike =
    (content other : SetupContent) (es : List Event) (archives : List Archive) (away : ListName → Bool) (own : Rows) →
    SaysSame content other → AreAway archives away content es own
    → AreAway archives away other es own
