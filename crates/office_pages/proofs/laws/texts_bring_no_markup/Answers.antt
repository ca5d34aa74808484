use Rattle.office_pages.proofs.Texts.{texts_bring_no_markup}
use Rattle.office_pages.proofs.laws.texts_bring_no_markup.Goals as goal

pub returns : goal.returns
returns c = texts_bring_no_markup
