use Rattle.std.proofs.{Common.{◌≡◌, ◌*◌, ◌<◌, ◌≤◌, List, length, get_or, ap, subst, ◌∙◌, arith}, lemmas.Bool.Decides.nat_tests}
use Rattle.yard_core.{specs.{YardMap.Box, declared.columns.LeastHeight.LeastHeight, LeastHeights.AreAtLeast}, proofs.LeastHeights.at_least}
use Rattle.yard_core.proofs.columns.Columns.are_at_least.Goals as goal

pub returns-then-eq : goal.returns-then-eq
returns-then-eq c =
    λ high.
    let h = c.in-Some.least.now in
    let within : c.args.position < length c.self.inside.least_heights.items = subst (λ (hs : List LeastHeight). c.args.position < length hs) c.deref.ensures.value (grind (arith, nat_tests, c.in-Some.ensures.lookup)) in
    let here : h ≡ get_or c.self.inside.least_heights.items c.args.position h = c.in-Some.ensures.lookup.1 ∙ ap (λ (hs : List LeastHeight). get_or hs c.args.position h) c.deref.ensures.value in
    let low : c.args.height ≤ h.height = grind (arith, nat_tests, high) in
    subst (λ (columns : List (List Box)). AreAtLeast columns (480 * c.args.position) c.args.block c.args.height) c.self.view_is
    (at_least c.self.inside.columns.items c.self.inside.least_heights.items c.args.position c.args.height c.args.block h within here c.if-eq.ensures low c.self.invariant)
