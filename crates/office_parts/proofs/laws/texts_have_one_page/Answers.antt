use Rattle.office_parts.proofs.Alike.{texts_have_one_page}
use Rattle.office_parts.proofs.laws.texts_have_one_page.Goals as goal

pub returns : goal.returns
returns c = texts_have_one_page
