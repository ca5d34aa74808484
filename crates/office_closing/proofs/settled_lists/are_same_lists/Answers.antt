use Rattle.std.proofs.Common.{◌≡◌, arith, rules, true, false}
use Rattle.office_closing.{specs.Lists.list_content, proofs.Inserted.alike_at}
use Rattle.office_closing.proofs.settled_lists.are_same_lists.Goals as goal

pub returns-then-not-is_same_list : goal.returns-then-not-is_same_list
returns-then-not-is_same_list c = (
  λ e. absurd cc,
  λ same.
      let here = alike_at list_content c.args.one.now c.args.other.now c.loop-index.index c.index-one-index.result c.index-other-index.result (omega arith) (omega arith) same c.index-one-index.is c.index-other-index.is in
      let yes : c.is_same_list.result ≡ true = c.is_same_list.ensures.1 here in
      let no : c.is_same_list.result ≡ false = search rules in
      absurd cc,
)
