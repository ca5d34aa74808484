use Rattle.office_closing.proofs.TextLemmas.{one_list}
use Rattle.office_closing.proofs.laws.one_text_one_list.Goals as goal

pub returns : goal.returns
returns c = one_list
