use Rattle.std.proofs.Common.{arith, refl}
use Rattle.office_reports.specs.Looking.{of_archive}
use Rattle.office_desk.proofs.LookLemmas.{looks_nowhere}
use Rattle.office_archives.proofs.{Alone.alone_looks, Beside.none_there, Together.{looks_noted, looks_on}}
use Rattle.office_archives.proofs.archived_desk.ArchivedDesk.answer_archive.Goals as goal

-- there is no archive
pub returns-then-count-eq0 : goal.returns-then-count-eq0
returns-then-count-eq0 g c =
    let self = c.args.self.now in
    record {
      looks = alone_looks g.S.Store g.A.Archives.are self.desk self.archives (λ list these. none_there list c.count.result (c.count.ensures list these) c.if-count-eq0.true)
          g.A.Archives.is_sound (of_archive c.args.place c.args.query.now) _ c.archive_report.new.self (λ sound db left. g.met.S.Store.settled self.desk.conn.store db sound.1 left) c.archive_report.ensures;
    }

pub returns-in-Ok : goal.returns-in-Ok
returns-in-Ok g c =
    let old = c.args.self.now in
    record {
      looks = record {
        told = λ sound whole. c.in-Ok.ensures.told whole;
        looks = looks_on g.S.Store g.A.Archives.are old.desk old.desk old.archives c.tell_of_archive.new.archives (λ sound db left. g.met.S.Store.settled old.desk.conn.store db sound.1 left) (looks_nowhere g.S.Store old.desk) c.tell_of_archive.ensures.same;
        noted = refl;
        cause = λ sound here. absurd here;
        is_open = λ clean. tt;
        alone = λ none. absurd (omega (arith, c.if-count-eq0.false, c.count.ensures _ none));
      };
    }

pub returns-in-Err : goal.returns-in-Err
returns-in-Err g c =
    let old = c.args.self.now in
    let asked = c.tell_of_archive.new in
    let noted = c.note.ensures in
    let looks = looks_on g.S.Store g.A.Archives.are old.desk old.desk old.archives asked.archives (λ sound db left. g.met.S.Store.settled old.desk.conn.store db sound.1 left) (looks_nowhere g.S.Store old.desk) c.tell_of_archive.ensures.same in
    record {
      looks = record {
        told = λ sound whole. tt;
        looks = looks_noted g.S.Store g.A.Archives.are old.desk old.desk c.note.new.self old.archives asked.archives looks noted.conn noted.setup noted.closed noted.beside;
        noted = (c.in-Err.fault, noted.fault);
        cause = λ sound here. absurd here;
        is_open = λ clean. tt;
        alone = λ none. absurd (omega (arith, c.if-count-eq0.false, c.count.ensures _ none));
      };
    }
