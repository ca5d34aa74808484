use Rattle.std.proofs.Common.{Ok}
use Rattle.sqlite.specs.{Held.state, State.HasCleanDisk, declared.error.Error.Error}
use Rattle.office_loading.specs.Closed.{last_closed}
use Rattle.office_closing.{specs.Arriving.IsReadOn, proofs.ArrivingLemmas.HaveShownSame}
use Rattle.office_closing.proofs.arriving.likeness_of_queries.Given as goal

abbrev pub invariant-each : goal.invariant-each
invariant-each g l =
    record {
      own : IsReadOn {T = Unit {0}} {E = Error} g.S.Store l.fn.own l.own (Ok tt);
      copy : IsReadOn {T = Unit {0}} {E = Error} g.A.Store l.fn.copy l.copy (Ok tt);
      same : HasCleanDisk (state g.S.Store l.own.conn.now) → HasCleanDisk (state g.A.Store l.copy.conn.now)
          → HaveShownSame g.S.Store g.A.Store (last_closed l.closed) l.fn.own.conn.now l.own.conn.now l.fn.copy.conn.now l.copy.conn.now;
    }
