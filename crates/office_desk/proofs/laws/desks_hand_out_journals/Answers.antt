use Rattle.office_desk.proofs.PageLemmas.{journal_handed_out}
use Rattle.office_desk.proofs.laws.desks_hand_out_journals.Goals as goal

pub returns : goal.returns
returns g c = journal_handed_out g.S.Store
