use Rattle.std.proofs.{Common.{List, map, refl, sym, subst}, lemmas.List.drop_all}
use Rattle.terminal_core.specs.{declared.visits.Visit.Visit, Rows.visit_content}
use Rattle.office_loading.proofs.Offices.{Follow, follow_more, follow_not, follow_own, own_follow}
use Rattle.office_loading.proofs.settings.are_own_visits.Goals as goal

pub returns-then-not-may_follow : goal.returns-then-not-may_follow
returns-then-not-may_follow c = (
  λ f. absurd (cc),
  λ own. absurd (follow_not c.args.newest_closed c.args.visits.now c.loop-visit.before c.loop-visit.visit-index c.visit-item.result c.visit-item.result c.loop-visit-test.true c.visit-item.is c.may_follow.result c.may_follow.ensures
      c.loop-visit.invariant c.if-not-may_follow.true (own_follow c.args.newest_closed (map visit_content c.args.visits.now) own)),
)

pub loop-visit-preserved : goal.loop-visit-preserved
loop-visit-preserved c =
    follow_more c.args.newest_closed c.args.visits.now c.loop-visit.before c.loop-visit.visit-index c.visit-item.result c.visit-item.result c.loop-visit-test.true c.visit-item.is c.may_follow.result c.may_follow.ensures
    c.loop-visit.invariant c.if-not-may_follow.false

pub returns : goal.returns
returns c = (
  λ t. follow_own c.args.newest_closed (map visit_content c.args.visits.now)
      (let P : List Visit → Type 0 = λ rows. Follow c.args.newest_closed c.loop-visit.before (map visit_content rows) in
      c.loop-visit.invariant.1 (subst P (sym (drop_all c.loop-visit.visit-index c.args.visits.now c.loop-visit-test.false)) tt)),
  λ own. refl,
)
