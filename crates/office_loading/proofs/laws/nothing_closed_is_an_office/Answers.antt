use Rattle.office_loading.proofs.Offices.{alike}
use Rattle.office_loading.proofs.laws.nothing_closed_is_an_office.Goals as goal

pub returns : goal.returns
returns c = alike
