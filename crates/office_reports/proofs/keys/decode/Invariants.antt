use Rattle.std.proofs.Common.{◌≡◌, length}
use Rattle.office_reports.{specs.Escapes.decoded_part, proofs.Parting.behind}
use Rattle.office_reports.proofs.keys.decode.Given as goal

abbrev pub invariant-bytes : goal.invariant-bytes
invariant-bytes l = decoded_part l.part ≡ behind l.bytes.items (decoded_part l.rest)

abbrev pub decreases-bytes : goal.decreases-bytes
decreases-bytes l = length l.rest
