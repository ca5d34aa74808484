use Rattle.office_parts.proofs.DoneLemmas.{run_stays_done}
use Rattle.office_parts.proofs.laws.done_lines_stay_in_runs.Goals as goal

pub returns : goal.returns
returns c = run_stays_done
