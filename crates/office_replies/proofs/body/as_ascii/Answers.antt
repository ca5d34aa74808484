use Rattle.std.proofs.{Common.{sym, ◌∙◌}, lemmas.Str.{IsUtf8-from_ascii, encodes-IsAscii}}
use Rattle.office_replies.proofs.body.as_ascii.Goals as goal

pub returns-in-Ok-clause-text : goal.returns-in-Ok-clause-text
returns-in-Ok-clause-text c = c.in-Ok.ensures.cases.0 ∙ sym (encodes-IsAscii c.args.bytes.now (rw c.if-not-is_ascii.false at c.is_ascii.ensures.cases))

pub returns-in-Err-clause-none : goal.returns-in-Err-clause-none
returns-in-Err-clause-none c ascii = c.in-Err.ensures.cases.0 (IsUtf8-from_ascii c.args.bytes.now ascii)
