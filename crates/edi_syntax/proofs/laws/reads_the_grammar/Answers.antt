use Rattle.edi_syntax.proofs.AdviceLemmas.{interchange_sound, interchange_complete}
use Rattle.edi_syntax.proofs.laws.reads_the_grammar.Goals as goal

pub returns : goal.returns
returns c text = (interchange_sound text, λ segments spelled. interchange_complete segments text spelled)
