-- The terminator after bytes that are passed over.
use Rattle.std.{specs.Option.option_map, proofs.Common.{◌+◌, Some, false, sym, ap, ◌∙◌, arith}}
use Rattle.edi_syntax.proofs.SegmentsLemmas.{end_more}
use Rattle.edi_syntax.proofs.reader.end.Goals as goal

pub returns-in-Terminator-clause-found : goal.returns-in-Terminator-clause-found
returns-in-Terminator-clause-found c =
    let at = c.len_of_inside-at.result in
    sym (c.len_of_inside-at.ensures.passes ∙ ap (option_map (λ n. at + n)) (end_more c.args.table.now.service false c.args.bytes.now at _ c.if-at-bytes.true c.in-Terminator.ensures) ∙ ap Some (omega arith))
