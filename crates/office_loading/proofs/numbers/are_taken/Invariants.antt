use Rattle.std.{specs.List.range_with_len, proofs.Common.{◌≡◌, map, take, true}}
use Rattle.office_loading.specs.Contents.{number_content}
use Rattle.office_loading.proofs.numbers.are_taken.Given as goal

abbrev pub invariant-loop-index : goal.invariant-loop-index
invariant-loop-index l =
    map number_content (take l.index l.numbers) ≡ map (λ number. record { partner = l.partner; number = number; is_taken = true }) (range_with_len l.first l.index)
