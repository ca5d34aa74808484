use Rattle.std.proofs.Common.{◌≡◌, true, false, Ok, sym, ap, ◌∙◌, arith}
use Rattle.sqlite.specs.{Held.state, Given.row_if, State.HasCleanDisk}
use Rattle.office_loading.specs.Closed.{last_closed}
use Rattle.office_closing.specs.Arriving.{stops_at}
use Rattle.office_closing.proofs.ArrivingLemmas.{comes_to, on_any, on_none, on_then, passes_more, passes_none, read_no_more, read_one}
use Rattle.office_closing.proofs.arriving.advance_beyond.Goals as goal

pub each-init : goal.each-init
each-init g c = record { on = on_none g.S.Store c.args.rows.now (Ok tt); passed = λ clean. passes_none g.S.Store (last_closed c.args.closed.now) c.args.rows.now.conn.now }

pub returns-in_err-advance-clause-read : goal.returns-in_err-advance-clause-read
returns-in_err-advance-clause-read g c =
    let moved = c.in_err-advance.ensures in
    on_then g.S.Store c.args.rows.now c.each.rows c.advance.new.self tt c.from_residual.result c.each.invariant.on
    (read_no_more g.S.Store c.each.rows c.advance.new.self moved.same_reference moved.mode moved.survives c.in_err-advance.field-0.0 c.from_residual.result c.from_residual.ensures.0 moved.kept)

pub returns-in_err-may_stop-clause-read : goal.returns-in_err-may_stop-clause-read
returns-in_err-may_stop-clause-read g c =
    let moved = c.in_ok-advance.ensures in
    on_then g.S.Store c.args.rows.now c.each.rows c.advance.new.self tt c.from_residual-in_err-may_stop.result c.each.invariant.on
    (on_any g.S.Store c.each.rows c.advance.new.self tt c.from_residual-in_err-may_stop.result (read_one g.S.Store c.each.rows c.advance.new.self moved.same_reference moved.mode moved.survives moved.same))

pub returns-then-branch-clause-goes : goal.returns-then-branch-clause-goes
returns-then-branch-clause-goes g c clean =
    let moved = c.in_ok-advance.ensures in
    let before : HasCleanDisk (state g.S.Store c.each.rows.conn.now) = omega (arith, moved.survives.clean, clean) in
    let stops : stops_at (last_closed c.args.closed.now) (row_if c.advance.new.self.has_row c.advance.new.self.conn.now) ≡ true =
    ap (stops_at (last_closed c.args.closed.now)) (sym c.get.ensures) ∙ sym c.in_ok-may_stop.ensures ∙ c.if-branch.true in
    comes_to g.S.Store (last_closed c.args.closed.now) c.args.rows.now c.each.rows c.advance.new.self c.each.invariant.on before (c.each.invariant.passed before) _ (moved.ok clean) stops

pub returns-then-branch-clause-read : goal.returns-then-branch-clause-read
returns-then-branch-clause-read g c =
    let moved = c.in_ok-advance.ensures in
    on_then g.S.Store c.args.rows.now c.each.rows c.advance.new.self tt (Ok tt) c.each.invariant.on
    (read_one g.S.Store c.each.rows c.advance.new.self moved.same_reference moved.mode moved.survives moved.same)

pub each-preserved : goal.each-preserved
each-preserved g c =
    let moved = c.in_ok-advance.ensures in
    let goes_on : stops_at (last_closed c.args.closed.now) (row_if c.advance.new.self.has_row c.advance.new.self.conn.now) ≡ false =
    ap (stops_at (last_closed c.args.closed.now)) (sym c.get.ensures) ∙ sym c.in_ok-may_stop.ensures ∙ c.if-branch.false in
    record {
      on = on_then g.S.Store c.args.rows.now c.each.rows c.advance.new.self tt (Ok tt) c.each.invariant.on
          (read_one g.S.Store c.each.rows c.advance.new.self moved.same_reference moved.mode moved.survives moved.same);
      passed = λ clean.
          let before : HasCleanDisk (state g.S.Store c.each.rows.conn.now) = omega (arith, moved.survives.clean, clean) in
          passes_more g.S.Store (last_closed c.args.closed.now) c.args.rows.now c.each.rows c.advance.new.self c.each.invariant.on before (c.each.invariant.passed before) _ (moved.ok clean) goes_on;
    }

pub returns-clause-read : goal.returns-clause-read
returns-clause-read g c = on_any g.S.Store c.args.rows.now c.each.rows tt _ c.each.invariant.on
