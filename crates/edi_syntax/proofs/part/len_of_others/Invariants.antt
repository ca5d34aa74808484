-- the separator stands as far after the bytes that were passed over as it stands in what is left
use Rattle.std.{specs.Option.option_map, proofs.Common.{◌≡◌, ◌+◌, drop, false}}
use Rattle.edi_syntax.specs.Parts.{separator_of}
use Rattle.edi_syntax.proofs.part.len_of_others.Given as goal

abbrev pub invariant-loop-i : goal.invariant-loop-i
invariant-loop-i l = separator_of l.fn.service l.separator false l.bytes ≡ option_map (λ n. l.i + n) (separator_of l.fn.service l.separator false (drop l.i l.bytes))
