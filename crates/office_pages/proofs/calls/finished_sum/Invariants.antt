use Rattle.std.proofs.Common.{◌≡◌, ◌≤◌, ◌*◌, ◌^◌, take, sum_by}
use Rattle.office_pages.proofs.calls.finished_sum.Given as goal

abbrev pub invariant-loop-count : goal.invariant-loop-count
invariant-loop-count l = (l.sum ≡ sum_by (λ count. count.done) (take l.count-index l.counts)) × (l.sum ≤ l.count-index * 2 ^ 64)
