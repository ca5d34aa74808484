use Rattle.std.proofs.Common.{Ok}
use Rattle.sqlite.specs.{Held.state, State.HasCleanDisk, declared.error.Error.Error}
use Rattle.office_loading.specs.Closed.{last_closed}
use Rattle.office_closing.{specs.Arriving.IsReadOn, proofs.ArrivingLemmas.HasPassed}
use Rattle.office_closing.proofs.arriving.advance_beyond.Given as goal

abbrev pub invariant-each : goal.invariant-each
invariant-each g l =
    record {
      on : IsReadOn {T = Unit {0}} {E = Error} g.S.Store l.fn.rows l.rows (Ok tt);
      passed : HasCleanDisk (state g.S.Store l.rows.conn.now) → HasPassed g.S.Store (last_closed l.closed) l.fn.rows.conn.now l.rows.conn.now;
    }
