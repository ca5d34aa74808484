use Rattle.std.{specs.Prelude.map, proofs.{Common.{◌≡◌, ◌<◌, ◌≤◌, ◌+◌, length, refl, ap, ◌∙◌, arith, subst}, lemmas.Result.MatchResult-at_ok}}
use Rattle.edi_messages.specs.Owned.{entry_content}
use Rattle.terminal_core.specs.{declared.change.Outcome.TheVariants.Done, Rows.{visit_content, change_content}, State.{TerminalState, last_number}}
use Rattle.terminal_core.{specs.{Versions.newest, Step.after_entry, Calls.{Follows, Settles, IsUnsettled}}, proofs.Lined.has_entered}
use Rattle.terminal_core.proofs.{Open.{no_more_than_last, visits_after, changes_after, room}, Whole.{whole_entered, whole_with, placed_in_plan}}
use Rattle.terminal_core.proofs.terminal.Terminal.enter.Goals as goal

pub invariant_of-self-in-Ok : goal.invariant_of-self-in-Ok
invariant_of-self-in-Ok c =
    let state : TerminalState = record { yard = c.self.inside.yard; limit = c.self.inside.limit; visits = c.self.inside.visits.visits; lines = c.self.inside.lists } in
    let settles = MatchResult-at_ok (Settles c.self.inside.yard c.settle.new.yard (entry_content c.args.entry.now)) (IsUnsettled c.self.inside.yard (entry_content c.args.entry.now)) c.in-Ok.slot c.in-Ok.is c.in_ok-slot.ensures.ok in
    whole_with state c.settle.new.yard _ _
    (visits_after c.self.inside.visits.visits c.reserve.new.self.visits c.open.new.self.visits (visit_content c.opened_visit.result) c.args.way c.args.source (entry_content c.args.entry.now) c.in-Ok.slot (c.last_number-number.result + 1) c.reserve.ensures.kept c.open.ensures
    c.opened_visit.ensures (ap (λ n. n + 1) (c.last_number-number.ensures ∙ ap last_number c.reserve.ensures.kept)))
    (whole_entered state c.settle.new.yard _ _ c.self.invariant settles.places.adds c.in_ok-slot.ensures.sound refl refl refl (room c.last_number.result c.self.inside.visits.visits c.self.inside.limit c.last_number.ensures (omega arith)))

pub returns-in-Ok-clause-ok : goal.returns-in-Ok-clause-ok
returns-in-Ok-clause-ok c =
    let state : TerminalState = record { yard = c.self.inside.yard; limit = c.self.inside.limit; visits = c.self.inside.visits.visits; lines = c.self.inside.lists } in
    let settles = MatchResult-at_ok (Settles c.self.inside.yard c.settle.new.yard (entry_content c.args.entry.now)) (IsUnsettled c.self.inside.yard (entry_content c.args.entry.now)) c.in-Ok.slot c.in-Ok.is c.in_ok-slot.ensures.ok in
    let P : TerminalState → Type 0 = λ s.
    Follows (after_entry newest s c.args.way c.args.source (entry_content c.args.entry.now)) (record state { yard = c.settle.new.yard; visits = c.open.new.self.visits }) (Done c.in-Ok.slot) (map change_content c.args.changes.now.items) (map change_content c.append-in-Ok.new.rows.items) in
    subst P c.self.view_is (has_entered state c.args.way c.args.source (entry_content c.args.entry.now) c.settle.new.yard c.in-Ok.slot _ _ _ (room c.last_number.result c.self.inside.visits.visits c.self.inside.limit c.last_number.ensures (omega arith)) settles
    (visits_after c.self.inside.visits.visits c.reserve.new.self.visits c.open.new.self.visits (visit_content c.opened_visit.result) c.args.way c.args.source (entry_content c.args.entry.now) c.in-Ok.slot (c.last_number-number.result + 1) c.reserve.ensures.kept c.open.ensures
    c.opened_visit.ensures (ap (λ n. n + 1) (c.last_number-number.ensures ∙ ap last_number c.reserve.ensures.kept)))
    (changes_after c.self.inside.visits.visits c.args.changes.now.items c.append.new.rows.items c.append-in-Ok.new.rows.items c.opened_visit-in-Ok.result c.args.way c.args.source (entry_content c.args.entry.now) c.in-Ok.slot (c.last_number-number.result + 1)
    c.append.ensures.rows c.append-in-Ok.ensures.rows c.opened_visit-in-Ok.ensures (ap (λ n. n + 1) (c.last_number-number.ensures ∙ ap last_number c.reserve.ensures.kept))))

pub returns-in-Ok-clause-planned : goal.returns-in-Ok-clause-planned
returns-in-Ok-clause-planned c =
    let settles = MatchResult-at_ok (Settles c.self.inside.yard c.settle.new.yard (entry_content c.args.entry.now)) (IsUnsettled c.self.inside.yard (entry_content c.args.entry.now)) c.in-Ok.slot c.in-Ok.is c.in_ok-slot.ensures.ok in
    placed_in_plan c.self.inside.yard c.settle.new.yard _ _ settles.places

pub open-requires-clause-few : goal.open-requires-clause-few
open-requires-clause-few c =
    let few : length c.self.inside.visits.visits + 0 ≤ last_number c.self.inside.visits.visits = no_more_than_last 0 c.self.inside.visits.visits c.self.invariant.numbered in
    let same : length c.reserve.new.self.visits ≡ length c.self.inside.visits.visits = ap length c.reserve.ensures.kept in
    let high : c.self.inside.limit < 4294967296 = c.self.ranges.1.0.1 in
    omega (arith, few, same, high, c.if-last_number-self.false, c.last_number.ensures)
