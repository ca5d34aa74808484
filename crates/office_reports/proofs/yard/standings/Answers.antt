use Rattle.std.specs.{BTreeMap.{BTreeMap, get, is_at}, Ordering.nat_cmp, Cmp.Lexicographic.slice_cmp}
use Rattle.std.proofs.Common.{ℕ, ◌+◌, List, map, take, cond, Some, sym, ap, ◌∙◌, subst}
use Rattle.terminal_core.specs.State.{AreOpenOf}
use Rattle.office_reports.{specs.declared.yard.Standing.Standing, proofs.Standings.{Holds, shown, holds_none, row_left, row_stands, are_listed}}
use Rattle.office_reports.proofs.yard.standings.Goals.{in-Some+in_ok-insert, in_default}
use Rattle.office_reports.proofs.yard.standings.Goals as goal

pub loop-visit-init : goal.loop-visit-init
loop-visit-init c = holds_none c.args.terminal.now c.in_ok-open.ensures.whole c.new-yard.result.entries c.new-yard.ensures.empty c.new-yard.ensures.ordered

pub loop-visit-preserved : goal.loop-visit-preserved
loop-visit-preserved c =
    let state = c.args.terminal.now in
    let whole = c.in_ok-open.ensures.whole in
    let rows = c.deref-visit-items.result.now in
    let are : AreOpenOf state.visits (map shown rows) = subst (λ found. AreOpenOf state.visits (map shown found)) (sym c.deref-visit-items.ensures.value) c.in_ok-open.ensures.told in
    elim c.match-standing_of.branch [
      | in-Some+in_ok-insert w ↦ subst (λ (m : BTreeMap (List ℕ) Standing). Holds state (map shown (take (c.loop-visit.visit-index + 1) rows)) m.entries) (sym w.yard-is)
          (row_stands state whole rows are c.loop-visit.visit-index c.visit-item.result w.in-Some.standing c.loop-visit.yard w.insert.new.self c.loop-visit-test.true c.visit-item.is
          (sym c.standing_of.ensures ∙ w.in-Some.is) w.insert.ensures.ordered
          (λ q. w.in_ok-insert.ensures.updates.0 q ∙ ap (λ t. cond (is_at (slice_cmp nat_cmp t) q) (Some w.in-Some.standing) (get (slice_cmp nat_cmp) c.loop-visit.yard q)) w.text-slot.ensures)
          c.loop-visit.invariant)
      | in_default w ↦ subst (λ (m : BTreeMap (List ℕ) Standing). Holds state (map shown (take (c.loop-visit.visit-index + 1) rows)) m.entries) (sym w.yard-is)
          (row_left state whole rows are c.loop-visit.visit-index c.visit-item.result c.loop-visit.yard.entries c.loop-visit-test.true c.visit-item.is
          (sym c.standing_of.ensures ∙ w.in_default.is) c.loop-visit.invariant)
    ]

pub returns : goal.returns
returns c =
    let state = c.args.terminal.now in
    let rows = c.deref-visit-items.result.now in
    let are : AreOpenOf state.visits (map shown rows) = subst (λ found. AreOpenOf state.visits (map shown found)) (sym c.deref-visit-items.ensures.value) c.in_ok-open.ensures.told in
    are_listed state c.in_ok-open.ensures.whole rows are c.loop-visit.visit-index c.loop-visit.yard.entries c.loop-visit-test.false c.loop-visit.invariant
