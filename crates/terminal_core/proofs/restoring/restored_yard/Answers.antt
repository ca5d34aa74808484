use Rattle.std.{specs.Prelude.map, proofs.{Common.{◌≤◌, List, sym, arith, subst}, lemmas.Result.err_from_is_err_and}}
use Rattle.terminal_core.specs.{declared.change.Place.Place, Rows.visit_content, State.last_number, Restoring.{ArePlacesOf, AreNamed, RefusesPlaces}}
use Rattle.terminal_core.proofs.Placing.{whole_of, unsound_yard, not_all_named}
use Rattle.terminal_core.proofs.restoring.restored_yard.Goals as goal

pub returns-in_err-yard-clause-unsound : goal.returns-in_err-yard-clause-unsound
returns-in_err-yard-clause-unsound c =
    let p = err_from_is_err_and c.from_residual-in_err-yard.result c.from_residual-in_err-yard.ensures.1 in
    let P : List Place → Type 0 = λ places. RefusesPlaces c.args.plan (map visit_content c.args.visits.now) places c.in_err-yard.field-0.0 in
    rw (p.1, p.2) (unsound_yard c.args.plan c.args.visit_limit (map visit_content c.args.visits.now) c.args.places.items c.sort_by_tier.new.places.items c.in_err-yard.field-0.0 c.in_ok-sort_by_tier.ensures.moved (subst P c.deref-2.ensures.value c.in_err-yard.ensures.unsound))

pub returns-then-not-branch-clause-unsound : goal.returns-then-not-branch-clause-unsound
returns-then-not-branch-clause-unsound c =
    let P : List Place → Type 0 = AreNamed (map visit_content c.args.visits.now) in
    not_all_named c.args.plan c.args.visit_limit (map visit_content c.args.visits.now) c.args.places.items c.sort_by_tier.new.places.items c.in_ok-sort_by_tier.ensures.moved
    (λ named. let is = c.in_ok-are_all_named.ensures.1 (subst P (sym c.deref-4.ensures.value) named) in cc)

pub returns-clause-ok : goal.returns-clause-ok
returns-clause-ok c =
    let P : List Place → Type 0 = AreNamed (map visit_content c.args.visits.now) in
    let Q : List Place → Type 0 = λ places. ArePlacesOf (map visit_content c.args.visits.now) c.in_ok-yard.yard.boxes places in
    let last : last_number (map visit_content c.args.visits.now) ≤ c.args.visit_limit = omega (arith, c.newest_number.ensures, c.if-newest_number-visit_limit.false) in
    whole_of c.args.plan c.args.visit_limit (map visit_content c.args.visits.now) c.args.places.items c.sort_by_tier.new.places.items c.in_ok-yard.yard c.in_ok-yard.ensures.plan.0 c.in_ok-yard.ensures.plan.1 c.in_ok-yard.ensures.sound
    (c.are_numbered.ensures.0 c.if-not-are_numbered.false) last c.in_ok-sort_by_tier.ensures.moved (subst Q c.deref-2.ensures.value c.in_ok-yard.ensures.placed)
    (subst P c.deref-4.ensures.value (c.in_ok-are_all_named.ensures.0 c.if-not-branch.false))
