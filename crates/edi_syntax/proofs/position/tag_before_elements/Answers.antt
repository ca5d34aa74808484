use Rattle.std.proofs.Common.{sym, ◌∙◌, arith}
use Rattle.edi_syntax.proofs.CutLemmas.{reads_tag}
use Rattle.edi_syntax.proofs.position.tag_before_elements.Goals as goal

pub returns-then-bytes-service : goal.returns-then-bytes-service
returns-then-bytes-service c =
    reads_tag c.args.service.now c.in-Between.field-0 c.is_trailer.result c.args.position c.args.bytes.now c.in-Between.is c.requires (omega (arith, c.if-bytes-lt4.false))
    (sym c.is_tag.ensures ∙ c.if-is_tag.true) c.if-bytes-service.true c.is_trailer.ensures
