use Rattle.std.{specs.List.range_with_len, proofs.Common.{◌≡◌, ◌-◌, ◌++◌, flat_map, string_bytes}}
use Rattle.office_pages.specs.Partner.{last_reply}
use Rattle.office_pages.proofs.partner.push_last_replies.Given as goal

abbrev pub invariant-loop-back : goal.invariant-loop-back
invariant-loop-back l = string_bytes l.page ≡ string_bytes l.initial.page ++ flat_map (λ back. last_reply l.code (l.next - 1 - back)) (range_with_len 0 l.back)
