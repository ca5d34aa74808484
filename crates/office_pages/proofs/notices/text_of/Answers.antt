use Rattle.std.proofs.Common.{sym}
use Rattle.office_pages.proofs.Decoding.{is_no_text, is_text}
use Rattle.office_pages.proofs.notices.text_of.Goals as goal

pub returns-in-Ok : goal.returns-in-Ok
returns-in-Ok c = is_text c.args.bytes.now c.in-Ok.text.now c.in-Ok.ensures.cases.0 c.in-Ok.ensures.cases.1

pub returns-in-Err : goal.returns-in-Err
returns-in-Err c = sym (is_no_text c.args.bytes.now c.in-Err.ensures.cases.0)
