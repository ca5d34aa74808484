use Rattle.std.proofs.Common.{◌≡◌, drop}
use Rattle.office_closing.specs.Seals.{seal_at}
use Rattle.office_closing.proofs.seals.seal_at.Given as goal

abbrev pub invariant-loop-numbers : goal.invariant-loop-numbers
invariant-loop-numbers l =
    seal_at l.closing l.seals l.partner l.number ≡ seal_at (drop l.numbers-index l.closing) l.rest l.partner l.number
