use Rattle.std.proofs.Common.{◌≡◌, Bool, List, Ok, true, false, map, sym, subst, ◌∙◌, rules}
use Rattle.sqlite.specs.Held.{state}
use Rattle.office_closing.specs.{Changes.{closed_with, unchanged}, Lists.list_content, Register.{archive_content, sealed_content}, Steps.{StepsIf, is_unraised}}
use Rattle.office_closing.{specs.{declared.register.Segment.Segment, declared.sealed_archives.SealedArchive.SealedArchive}, proofs.PlanLemmas.not_due}
use Rattle.office_closing.specs.declared.settled_lists.SettledList.{SettledList}
use Rattle.office_closing.proofs.closing.raise.Goals as goal

pub returns-then-is_due-clause-steps : goal.returns-then-is_due-clause-steps
returns-then-is_due-clause-steps g c =
    let plan = c.args.plan.now in
    let due : true ≡ is_unraised plan.stage = sym c.if-is_due.true ∙ c.is_unraised-is_due.ensures in
    let steps = λ (b : Bool) (segments : List Segment) (lists : List SettledList) (taken : List Segment) (sealed : List SealedArchive).
    StepsIf b unchanged (closed_with (archive_content plan.archive) segments (map list_content lists) taken (map sealed_content sealed)) (state g.S.Store c.args.conn.now) (state g.S.Store c.raise_now.new.conn) c.raise_now.result in
    let last = c.deref-then-is_due-3.result.now in
    subst (λ b. steps b plan.segments.items plan.lists.items plan.taken.items plan.sealed.items) due
    (subst (steps true plan.segments.items plan.lists.items plan.taken.items) c.deref-then-is_due-3.ensures.value
    (subst (λ l. steps true plan.segments.items plan.lists.items l last) c.deref-then-is_due-2.ensures.value
    (subst (λ l. steps true plan.segments.items l c.deref-then-is_due-2.result.now last) c.deref-then-is_due.ensures.value
    (subst (λ l. steps true l c.deref-then-is_due.result.now c.deref-then-is_due-2.result.now last) c.deref.ensures.value c.raise_now.ensures.steps))))

pub returns-else-is_due-clause-steps : goal.returns-else-is_due-clause-steps
returns-else-is_due-clause-steps g c =
    let plan = c.args.plan.now in
    let off : c.is_unraised-is_due.result ≡ false = search rules in
    let due : false ≡ is_unraised plan.stage = sym off ∙ c.is_unraised-is_due.ensures in
    let step = closed_with (archive_content plan.archive) plan.segments.items (map list_content plan.lists.items) plan.taken.items (map sealed_content plan.sealed.items) in
    subst (λ b. StepsIf {T = Unit {0}} b unchanged step (state g.S.Store c.args.conn.now) (state g.S.Store c.args.conn.now) (Ok tt)) due (not_due unchanged step (state g.S.Store c.args.conn.now) tt c.requires)
