use Rattle.office_desk.proofs.KeptLemmas.{journal_kept}
use Rattle.office_desk.proofs.laws.desks_keep_journals.Goals as goal

pub returns : goal.returns
returns g c = journal_kept g.S.Store
