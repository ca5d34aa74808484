use Rattle.std.proofs.Common.{[]}
use Rattle.office_loading.{specs.{Closed.last_closed, Contents.partner_content}, proofs.Kept.{too_few, kept_of, parts_of}}
use Rattle.office_loading.proofs.numbers.is_kept_for.Goals as goal

pub returns-then-numbers-count : goal.returns-then-numbers-count
returns-then-numbers-count c = (λ f. absurd (cc), λ kept. absurd (too_few (last_closed c.args.closed.now) (partner_content c.args.partner.now) c.args.numbers.now [] [] c.last_of-last.result c.saturating_sub-count.result c.last_of-last.ensures c.saturating_sub-count.ensures c.if-numbers-count.true kept))

pub returns-then-are_taken : goal.returns-then-are_taken
returns-then-are_taken c = (
  λ t. kept_of (last_closed c.args.closed.now) (partner_content c.args.partner.now) c.args.numbers.now c.split_at.result.0.now c.split_at.result.1.now c.last_of-last.result c.saturating_sub-count.result c.last_of-last.ensures c.saturating_sub-count.ensures c.split_at.ensures.front_len c.split_at.ensures.front c.split_at.ensures.back (c.are_taken.ensures.0 c.if-are_taken.true)
      (c.are_waiting.ensures.0 t),
  λ kept. c.are_waiting.ensures.1 (parts_of (last_closed c.args.closed.now) (partner_content c.args.partner.now) c.args.numbers.now c.split_at.result.0.now c.split_at.result.1.now c.last_of-last.result c.saturating_sub-count.result c.last_of-last.ensures c.saturating_sub-count.ensures c.split_at.ensures.front_len c.split_at.ensures.front c.split_at.ensures.back kept).1,
)

pub returns-else-are_taken : goal.returns-else-are_taken
returns-else-are_taken c = (
  λ t. absurd (cc),
  λ kept. c.are_taken.ensures.1 (parts_of (last_closed c.args.closed.now) (partner_content c.args.partner.now) c.args.numbers.now c.split_at.result.0.now c.split_at.result.1.now c.last_of-last.result c.saturating_sub-count.result c.last_of-last.ensures c.saturating_sub-count.ensures c.split_at.ensures.front_len c.split_at.ensures.front c.split_at.ensures.back kept).0,
)
