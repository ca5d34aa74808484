use Rattle.std.{specs.List.list_any, proofs.Common.{◌≡◌, ◌==◌, take, false}}
use Rattle.edi_syntax.proofs.component.has_byte.Given as goal

abbrev pub invariant-loop-other : goal.invariant-loop-other
invariant-loop-other l = list_any (λ b. b == l.byte) (take l.other-index l.text) ≡ false
