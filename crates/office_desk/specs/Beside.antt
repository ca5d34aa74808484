-- When what stands in memory is beside the rows of the tables.
use Rattle.std.specs.{Prelude.{◌≡◌, ℕ, ◌+◌, List, length, map, Option, None, Some}, List.range_with_len}
use Rattle.partner_core.specs.Deliveries.{run}
use Rattle.terminal_core.specs.State.{TerminalState}
use Rattle.office_replies.specs.Events.{Event}
use Rattle.office_rows.specs.{Rows.Rows, Shown.AreNexts}
use Rattle.office_admission.specs.Setups.{SetupContent}
use Rattle.office_history.specs.After.{content_after, deliveries_of, machine_after, machine_with}
use Rattle.office_desk.specs.declared.beside.Beside.{Beside}

-- after the events, partner by partner of the accounts so far, in the order of their ids: the number after its unbroken
-- run
abbrev pub nexts_after : SetupContent → List Event → List ℕ
nexts_after content es =
    map (λ partner. run (deliveries_of content es) partner + 1)
    (range_with_len 1 (length (content_after content es).partners))

-- beside the rows after the events: the set-up's machine over the terminal is that after them, and the numbers are
-- theirs
pub record IsAt (content : SetupContent) (es : List Event) (there : Beside) : Type 0 where
  pub terminal : machine_with (content_after content es) there.terminal ≡ machine_after content es
  pub nexts : there.nexts.items ≡ nexts_after content es

-- it is at these events, or there is none: then it has to be loaded
abbrev pub IsBeside : SetupContent → List Event → Option Beside → Type 0
IsBeside content es None = Unit {0}
IsBeside content es (Some there) = IsAt content es there

-- beside the rows of an office, whether or not events led to them: its terminal, and the numbers that they have
pub record IsOf (rows : Rows) (terminal : TerminalState) (there : Beside) : Type 0 where
  pub terminal_is : there.terminal ≡ terminal
  pub nexts : AreNexts rows there.nexts.items

abbrev pub IsOrNone : Rows → TerminalState → Option Beside → Type 0
IsOrNone rows terminal None = Unit {0}
IsOrNone rows terminal (Some there) = IsOf rows terminal there
