use Rattle.std.proofs.Common.{sym, ◌∙◌}
use Rattle.office_loading.proofs.numbers.are_accounts.Goals as goal

pub returns-then-are_coded : goal.returns-then-are_coded
returns-then-are_coded c = (
  λ t. record {
    counted = c.is_counted.ensures.0 c.if-not-is_counted.false;
    numbered = c.are_numbered.ensures.0 c.if-not-are_numbered.false;
    coded = sym c.are_coded.ensures ∙ c.if-are_coded.true;
    distinct = c.are_distinct.ensures.0 t;
  },
  λ whole. c.are_distinct.ensures.1 whole.distinct,
)
