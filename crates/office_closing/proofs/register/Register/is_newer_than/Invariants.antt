use Rattle.std.{specs.List.list_any, proofs.Common.{◌≡◌, drop, not}}
use Rattle.office_closing.specs.Register.{is_passed}
use Rattle.office_closing.proofs.register.Register.is_newer_than.Given as goal

abbrev pub invariant-loop-segment : goal.invariant-loop-segment
invariant-loop-segment l =
    list_any (λ segment. not (is_passed l.nexts segment)) l.self.taken.items
    ≡ list_any (λ segment. not (is_passed l.nexts segment)) (drop l.segment-index l.self.taken.items)
