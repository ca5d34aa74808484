use Rattle.std.proofs.Common.{◌≡◌, ℕ, ◌∷◌, length, take, get_or}
use Rattle.office_closing.specs.Register.{last_closed}
use Rattle.office_closing.proofs.register.last_numbers.Given as goal

abbrev pub invariant-loop-segment : goal.invariant-loop-segment
invariant-loop-segment l = record {
  count : length l.last.items ≡ 999;
  told : (partner : ℕ) → get_or (0 ∷ l.last.items) partner 0 ≡ last_closed (take l.segment-index l.segments) partner;
}
