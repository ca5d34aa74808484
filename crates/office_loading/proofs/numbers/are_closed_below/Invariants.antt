use Rattle.std.proofs.Common.{All, ◌<◌, take}
use Rattle.office_loading.specs.{Closed.last_closed, declared.numbers.PartnerRow.PartnerRow}
use Rattle.office_loading.proofs.numbers.are_closed_below.Given as goal

abbrev pub invariant-loop-partner : goal.invariant-loop-partner
invariant-loop-partner l = All (λ (row : PartnerRow). last_closed l.closed row.id < row.next) (take l.partner-index l.partners)
