use Rattle.std.proofs.lemmas.Str.{IsUtf8-string_bytes}
use Rattle.office_loading.proofs.columns.text_at.Goals as goal

pub returns-in-Ok : goal.returns-in-Ok
returns-in-Ok c = (c.in-Ok.ensures.ok.1, IsUtf8-string_bytes c.in-Ok.text)
