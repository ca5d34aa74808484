use Rattle.office_history.proofs.{Loads.shown_by_office, Offices.state_given}
use Rattle.office_history.proofs.laws.loading_gives_state.Goals as goal

pub returns : goal.returns
returns c content es rows db shown other state given are has shows office = state_given content es rows db shown other state given are has shows (shown_by_office shown other state office)
