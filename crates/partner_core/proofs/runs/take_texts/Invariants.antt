use Rattle.std.proofs.Common.{◌≡◌, ◌≤◌, take, vec_len, ◌-◌}
use Rattle.partner_core.specs.{Cascade.TakesTexts, Numbered.{text_in, reply_in}}
use Rattle.partner_core.proofs.runs.take_texts.Given as goal

-- the texts so far were taken, and the replies before them stay
abbrev pub invariant-loop-text : goal.invariant-loop-text
invariant-loop-text g l = record {
  taken : TakesTexts g.M.Machine.taken l.partner (text_in l.texts) (vec_len l.fn.replies) (vec_len l.replies) (reply_in l.fn.replies.items) (reply_in l.replies.items) l.fn.machine l.machine;
  grows : vec_len l.fn.replies ≤ vec_len l.replies;
  replied : vec_len l.replies ≤ 999999999;
  front : take (vec_len l.fn.replies) l.replies.items ≡ l.fn.replies.items;
}

abbrev pub decreases-loop-text : goal.decreases-loop-text
decreases-loop-text g l = 1000000000 - vec_len l.replies
