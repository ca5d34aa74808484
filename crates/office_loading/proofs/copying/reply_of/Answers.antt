use Rattle.std.proofs.Common.{sym, ◌∙◌}
use Rattle.office_loading.proofs.copying.reply_of.Goals as goal

pub returns-in-Some : goal.returns-in-Some
returns-in-Some c text replies =
    let said = rw c.in-Some.is at replies in
    said.0 ∙ sym c.as_str.ensures.value
