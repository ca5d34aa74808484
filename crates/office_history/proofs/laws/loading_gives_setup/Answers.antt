use Rattle.office_history.proofs.{Alike.reopens, Loads.shown_by_office}
use Rattle.office_history.proofs.laws.loading_gives_setup.Goals as goal

pub returns : goal.returns
returns c content es rows db shown other state are given has shows office = reopens content es rows db shown other state are given has shows (shown_by_office shown other state office)
