-- How many containers came, went and stand.
use Rattle.std.specs.Prelude.{◌≡◌, ◌+◌, Bool, length, filter, is_some}
use Rattle.terminal_core.specs.{Rows.VisitContent, State.{TerminalState, IsWhole}}
use Rattle.std.specs.FinMap as finite_map

-- the container went
abbrev pub is_closed : VisitContent → Bool
is_closed visit = is_some visit.departure

-- Each visit is an entry, and each that is closed an exit too: the containers in the yard are the entries less the
-- exits.
abbrev pub EntriesLessExitsStand : Type 0
EntriesLessExitsStand =
    (state : TerminalState) → IsWhole state →
    finite_map.len state.yard.boxes + length (filter is_closed state.visits) ≡ length state.visits
