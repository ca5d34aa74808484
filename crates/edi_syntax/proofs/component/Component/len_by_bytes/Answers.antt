-- One byte more is counted unless it releases the next.
use Rattle.std.proofs.Common.{◌≡◌, get_or, arith}
use Rattle.edi_syntax.{specs.Tokens.{token_of, releases}, proofs.PartLemmas.{length_value_more, length_value_past}}
use Rattle.edi_syntax.proofs.component.Component.len_by_bytes.Goals.{then-not-released, else-not-released}
use Rattle.edi_syntax.proofs.component.Component.len_by_bytes.Goals as goal

pub loop-byte-preserved : goal.loop-byte-preserved
loop-byte-preserved c =
    let s = c.args.self.now.service in
    let text = c.args.self.now.text.now in
    let hides : c.releases-released.result ≡ releases (token_of s c.loop-byte.released (get_or text c.loop-byte.byte-index 0)) = c.releases-released.ensures in
    let more = length_value_more s c.loop-byte.released text c.loop-byte.byte-index c.releases-released.result c.loop-byte-test.true hides in
    elim c.if-not-released.branch [
      | then-not-released w ↦ let one = rw w.if-not-released.true at more in record { counted = rw w.if-not-released.true (omega (arith, one)); within = omega arith }
      | else-not-released w ↦ let one = rw w.if-not-released.false at more in record { counted = rw w.if-not-released.false (omega (arith, one)); within = omega arith }
    ]

pub returns : goal.returns
returns c =
    omega (arith, length_value_past c.args.self.now.service c.loop-byte.released c.args.self.now.text.now c.loop-byte.byte-index c.loop-byte-test.false)
