-- the part that is sought, counted from what is left
use Rattle.std.proofs.Common.{◌≡◌, ◌-◌, [], get_or, false}
use Rattle.edi_syntax.specs.Parts.{parts_of}
use Rattle.edi_syntax.proofs.part.part.Given as goal

abbrev pub invariant-loop : goal.invariant-loop
invariant-loop l = get_or (parts_of l.service l.separator false l.fn.bytes) l.index [] ≡ get_or (parts_of l.service l.separator false l.rest) (l.index - l.counter) []
