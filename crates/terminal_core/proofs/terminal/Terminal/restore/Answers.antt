use Rattle.std.{specs.Prelude.map, proofs.{Common.{◌≡◌, ◌≤◌, List, length, arith, subst}, lemmas.List.length-map}}
use Rattle.terminal_core.{specs.{State.last_number, declared.visits.Visit.Visit, Rows.visit_content, Restoring.IsYardOf}, proofs.Open.no_more_than_last}
use Rattle.terminal_core.proofs.Placing.{one_state, rows_of}
use Rattle.terminal_core.proofs.terminal.Terminal.restore.Goals as goal

pub returns-clause-ok : goal.returns-clause-ok
returns-clause-ok c = (let P : List Visit → Type 0 = λ visits. IsYardOf c.args.plan c.args.visit_limit (map visit_content visits) c.args.places.items c.in_ok-yard.yard in
    rows_of c.args.plan c.args.visit_limit c.args.visits.items c.in_ok-visits.visits.visits c.args.places.items c.args.lines.items c.in_ok-yard.yard c.in_ok-lists.lists c.in_ok-visits.ensures c.in_ok-lists.ensures.1 c.in_ok-lists.ensures.0 (subst P c.deref.ensures.value c.in_ok-yard.ensures.ok))

pub invariant_of-result : goal.invariant_of-result
invariant_of-result c = (let P : List Visit → Type 0 = λ visits. IsYardOf c.args.plan c.args.visit_limit (map visit_content visits) c.args.places.items c.in_ok-yard.yard in
    rows_of c.args.plan c.args.visit_limit c.args.visits.items c.in_ok-visits.visits.visits c.args.places.items c.args.lines.items c.in_ok-yard.yard c.in_ok-lists.lists c.in_ok-visits.ensures c.in_ok-lists.ensures.1 c.in_ok-lists.ensures.0 (subst P c.deref.ensures.value c.in_ok-yard.ensures.ok)).whole

pub returns-clause-whole : goal.returns-clause-whole
returns-clause-whole c = (let P : List Visit → Type 0 = λ visits. IsYardOf c.args.plan c.args.visit_limit (map visit_content visits) c.args.places.items c.in_ok-yard.yard in
    rows_of c.args.plan c.args.visit_limit c.args.visits.items c.in_ok-visits.visits.visits c.args.places.items c.args.lines.items c.in_ok-yard.yard c.in_ok-lists.lists c.in_ok-visits.ensures c.in_ok-lists.ensures.1 c.in_ok-lists.ensures.0 (subst P c.deref.ensures.value c.in_ok-yard.ensures.ok)).whole

pub returns-clause-only : goal.returns-clause-only
returns-clause-only c state are = one_state c.args.plan c.args.visit_limit c.args.visits.items c.args.places.items c.args.lines.items _ state (let P : List Visit → Type 0 = λ visits. IsYardOf c.args.plan c.args.visit_limit (map visit_content visits) c.args.places.items c.in_ok-yard.yard in
    rows_of c.args.plan c.args.visit_limit c.args.visits.items c.in_ok-visits.visits.visits c.args.places.items c.args.lines.items c.in_ok-yard.yard c.in_ok-lists.lists c.in_ok-visits.ensures c.in_ok-lists.ensures.1 c.in_ok-lists.ensures.0 (subst P c.deref.ensures.value c.in_ok-yard.ensures.ok)) are

pub restore-requires-2-clause-few : goal.restore-requires-2-clause-few
restore-requires-2-clause-few c =
    let P : List Visit → Type 0 = λ visits. IsYardOf c.args.plan c.args.visit_limit (map visit_content visits) c.args.places.items c.in_ok-yard.yard in
    let is : P c.args.visits.items = subst P c.deref.ensures.value c.in_ok-yard.ensures.ok in
    let few = no_more_than_last 0 (map visit_content c.args.visits.items) is.whole.numbered in
    let within : last_number (map visit_content c.args.visits.items) ≤ c.args.visit_limit = is.whole.within in
    let long : length (map visit_content c.args.visits.items) ≡ length c.args.visits.items = length-map c.args.visits.items visit_content in
    omega (arith, few, within, long, c.ranges.visit_limit.fits)
