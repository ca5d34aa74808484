use Rattle.std.{specs.Prelude.Contains, proofs.{Common.{map, sym, subst, arith}, lemmas.List.take_all}}
use Rattle.office_closing.specs.Lists.{list_content}
use Rattle.office_closing.proofs.lists.is_among.Goals as goal

pub returns : goal.returns
returns c = (
  λ e. absurd cc,
  λ inside. absurd (c.loop-other.invariant (subst (λ l. Contains (map list_content l) (list_content c.args.list.now)) (sym (take_all c.loop-other.other-index c.args.others.now (omega (arith, c.loop-other-test.false)))) inside)),
)
