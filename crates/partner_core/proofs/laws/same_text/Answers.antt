use Rattle.std.specs.Cmp.Lexicographic.{bytes_decides}
use Rattle.partner_core.proofs.laws.same_text.Goals as goal

pub returns : goal.returns
returns c = λ s t. let decides = bytes_decides s t in (decides.0, decides.1)
