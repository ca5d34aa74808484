use Rattle.std.proofs.Common.{refl}
use Rattle.terminal_core.{specs.Rows.change_content, proofs.{Whole.{whole_moved, whole_stays, shifted_in_plan}, Open.one_more}}
use Rattle.terminal_core.proofs.{Lined.{has_moved, has_not_moved}, terminal.Terminal.shift.Goals.{in-Ok, in-Err}}
use Rattle.terminal_core.proofs.terminal.Terminal.shift.Goals as goal

pub invariant_of-self : goal.invariant_of-self
invariant_of-self c = elim c.match-shift.branch [
  | in-Ok w ↦ whole_moved _ c.shift.new.self c.args.container c.args.slot w.in-Ok.ensures.answer.0 c.self.invariant w.in-Ok.ensures.answer.1.stood w.in-Ok.ensures.answer.1.plan w.in-Ok.ensures.answer.1.boxes w.in-Ok.ensures.sound
  | in-Err w ↦ whole_stays _ c.shift.new.self c.self.invariant w.in-Err.ensures.err
]

pub returns-clause-step : goal.returns-clause-step
returns-clause-step c = rw (← c.self.view_is) (elim c.match-shift.branch [
  | in-Ok w ↦ rw (w.result-is, w.changes-is)
      (has_moved _ c.args.container c.args.slot c.shift.new.self w.in-Ok.ensures.answer.0 _ _ c.self.invariant w.in-Ok.ensures.answer.1
      (one_more change_content c.args.changes.now.items w.append.new.rows.items _ _ w.append.ensures.rows refl))
  | in-Err w ↦ rw (w.result-is, w.changes-is)
      (has_not_moved _ c.args.container c.args.slot w.in-Err.fault _ c.shift.new.self _ c.self.invariant w.in-Err.ensures.answer w.reason_of.ensures w.in-Err.ensures.err)
])

pub returns-clause-planned : goal.returns-clause-planned
returns-clause-planned c = elim c.match-shift.branch [
  | in-Ok w ↦ rw w.result-is (shifted_in_plan c.self.inside.yard c.shift.new.self c.args.container w.in-Ok.ensures.answer.0 c.args.slot w.in-Ok.ensures.answer.1)
  | in-Err w ↦ rw w.result-is tt
]
