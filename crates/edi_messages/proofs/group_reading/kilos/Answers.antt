-- Six digits fit.
use Rattle.std.proofs.Common.{sym, ◌∙◌, arith}
use Rattle.edi_syntax.specs.Segment.{value}
use Rattle.edi_messages.proofs.SameSegments.{number_short}
use Rattle.edi_messages.proofs.group_reading.kilos.Goals as goal

pub overflow_cast-result : goal.overflow_cast-result
overflow_cast-result c =
    let is = sym c.number_of.ensures ∙ c.in-Some-number_of.is in
    omega (arith, number_short (value c.component.result) c.in-Some-number_of.number is)
