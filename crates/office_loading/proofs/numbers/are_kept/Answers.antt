use Rattle.office_loading.{specs.Closed.last_closed, proofs.Kept.{accounts_more, kept_more, kept_not}}
use Rattle.office_loading.proofs.numbers.are_kept.Goals as goal

pub returns-then-not-is_kept_for : goal.returns-then-not-is_kept_for
returns-then-not-is_kept_for c = (
  λ f. absurd (cc),
  λ all. absurd (kept_not (last_closed c.args.closed.now) c.args.partners.now c.args.numbers.now c.loop-partner.rest.now c.split_at.result.0.now c.split_at.result.1.now c.loop-partner.partner-index c.own_count.result c.partner-item.result c.partner-item.result c.loop-partner-test.true
      c.partner-item.is c.split_at.ensures.front c.split_at.ensures.back c.own_count.ensures.own c.own_count.ensures.others c.loop-partner.invariant.accounts c.loop-partner.invariant.same c.is_kept_for.result c.is_kept_for.ensures
      c.if-not-is_kept_for.true all),
)

pub loop-partner-preserved : goal.loop-partner-preserved
loop-partner-preserved c = record {
  accounts = accounts_more (last_closed c.args.closed.now) c.args.partners.now c.args.numbers.now c.loop-partner.rest.now c.split_at.result.0.now c.split_at.result.1.now c.loop-partner.partner-index c.own_count.result c.partner-item.result c.partner-item.result c.loop-partner-test.true
      c.partner-item.is c.split_at.ensures.front c.split_at.ensures.back c.own_count.ensures.own c.own_count.ensures.others c.loop-partner.invariant.accounts c.loop-partner.invariant.same;
  same = kept_more (last_closed c.args.closed.now) c.args.partners.now c.args.numbers.now c.loop-partner.rest.now c.split_at.result.0.now c.split_at.result.1.now c.loop-partner.partner-index c.own_count.result c.partner-item.result c.partner-item.result c.loop-partner-test.true
      c.partner-item.is c.split_at.ensures.front c.split_at.ensures.back c.own_count.ensures.own c.own_count.ensures.others c.loop-partner.invariant.accounts c.loop-partner.invariant.same c.is_kept_for.result c.is_kept_for.ensures
      c.if-not-is_kept_for.false;
}
