use Rattle.std.proofs.Common.{◌≡◌, ℕ, ◌<◌, [], length, take, drop, get_or}
use Rattle.office_closing.specs.{Register.last_closed, Sound.close_more}
use Rattle.office_closing.proofs.sound.close_more.Given as goal

abbrev pub invariant-loop-segment : goal.invariant-loop-segment
invariant-loop-segment l =
    record {
      count : length l.lasts.items ≡ 1000;
      told : (partner : ℕ) → partner < 1000 → get_or l.lasts.items partner 0 ≡ last_closed (take l.segment-index l.segments) partner;
      rest : close_more [] l.segments ≡ close_more (take l.segment-index l.segments) (drop l.segment-index l.segments);
    }
