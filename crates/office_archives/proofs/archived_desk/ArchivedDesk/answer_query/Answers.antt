use Rattle.std.proofs.Common.{IsTrue, arith, subst}
use Rattle.sqlite.specs.{Held.{Held, state}, State.HasCleanDisk}
use Rattle.office_reports.specs.Looking.{report}
use Rattle.office_archives.proofs.{Alone.alone_looks, Beside.none_there, Together.looks_noted}
use Rattle.office_archives.proofs.archived_desk.ArchivedDesk.answer_query.Goals as goal

-- there is no archive
pub returns-then-count-eq0 : goal.returns-then-count-eq0
returns-then-count-eq0 g c =
    let self = c.args.self.now in
    record {
      looks = alone_looks g.S.Store g.A.Archives.are self.desk self.archives (λ list these. none_there list c.count.result (c.count.ensures list these) c.if-count-eq0.true)
          g.A.Archives.is_sound (report c.args.query.now) _ c.report.new.self (λ sound db left. g.met.S.Store.settled self.desk.conn.store db sound.1 left) c.report.ensures;
    }

pub returns-in-Ok : goal.returns-in-Ok
returns-in-Ok g c = record {
  looks = record {
    told = λ sound whole. c.in-Ok.ensures.told sound whole;
    looks = c.find_beside.ensures.looks;
    noted = c.find_beside.ensures.last_fault;
    cause = λ sound here rows terminal holds. tt;
    is_open = c.in-Ok.ensures.is_open;
    alone = λ none. absurd (omega (arith, c.if-count-eq0.false, c.count.ensures _ none));
  };
}

pub returns-in-Err : goal.returns-in-Err
returns-in-Err g c =
    let old = c.args.self.now in
    let mid = c.find_beside.new.self in
    let noted = c.note.ensures in
    record {
      looks = record {
        told = λ sound whole. tt;
        looks = looks_noted g.S.Store g.A.Archives.are old.desk mid.desk c.note.new.self old.archives mid.archives c.find_beside.ensures.looks noted.conn noted.setup noted.closed noted.beside;
        noted = (c.in-Err.fault, noted.fault);
        cause = λ sound here rows terminal holds. (c.in-Err.fault, noted.fault, c.in-Err.ensures.fault (subst (λ (k : Held _). HasCleanDisk (state g.S.Store k) × IsTrue (state g.S.Store k).is_open) noted.conn sound) here rows terminal holds);
        is_open = λ clean. tt;
        alone = λ none. absurd (omega (arith, c.if-count-eq0.false, c.count.ensures _ none));
      };
    }
