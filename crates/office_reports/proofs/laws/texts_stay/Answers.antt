use Rattle.office_reports.proofs.Standings.{ticket_stays, visits_stay}
use Rattle.office_reports.proofs.laws.texts_stay.Goals as goal

pub returns-clause-visits : goal.returns-clause-visits
returns-clause-visits c setup state container = visits_stay setup container state

pub returns-clause-tickets : goal.returns-clause-tickets
returns-clause-tickets c code source visits = ticket_stays source code visits
