-- Why tables are not those of an office.
use Rattle.terminal_core.specs.{declared.restoring.RestoreFault.RestoreFault, declared.restoring.RestoreFault.TheVariants.{Unsound, Memory}}
use Rattle.terminal_core.specs.State.{TerminalState}
use Rattle.office_admission.specs.Setups.{SetupContent}
use Rattle.office_rows.specs.Opened.{OpenedRows}
use Rattle.office_loading.specs.{Closed.ClosedContent, OwnOffice.IsOwnOffice}

-- they are the rows of no set-up and terminal, or memory was refused
abbrev pub RefusesTables : ClosedContent → OpenedRows → RestoreFault → Type 0
RefusesTables closed rows Unsound = (content : SetupContent) (state : TerminalState) →
    ¬ IsOwnOffice closed rows content state
RefusesTables closed rows Memory = Unit {0}
