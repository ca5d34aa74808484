use Rattle.std.proofs.Common.{arith}
use Rattle.office_reports.specs.Looking.{texts_after}
use Rattle.office_desk.proofs.LookLemmas.{looks_nowhere}
use Rattle.office_archives.proofs.{Alone.alone_looks, Beside.none_there, Together.{looks_noted, looks_on}}
use Rattle.office_archives.proofs.archived_desk.ArchivedDesk.answer_texts.Goals as goal

-- there is no archive
pub returns-then-count-eq0 : goal.returns-then-count-eq0
returns-then-count-eq0 g c =
    let self = c.args.self.now in
    record {
      looks = alone_looks g.S.Store g.A.Archives.are self.desk self.archives (λ list these. none_there list c.count.result (c.count.ensures list these) c.if-count-eq0.true)
          g.A.Archives.is_sound (texts_after c.args.from) _ c.texts.new.self (λ sound db left. g.met.S.Store.settled self.desk.conn.store db sound.1 left) c.texts.ensures;
      put_away = λ list these some. absurd (some (none_there list c.count.result (c.count.ensures list these) c.if-count-eq0.true));
    }

pub returns : goal.returns
returns g c =
    let self = c.args.self.now in
    let noted = c.note.ensures in
    let looks = looks_on g.S.Store g.A.Archives.are self.desk self.desk self.archives self.archives (λ sound db left. g.met.S.Store.settled self.desk.conn.store db sound.1 left) (looks_nowhere g.S.Store self.desk) (λ list are. are) in
    record {
      looks = record {
        told = λ sound whole. tt;
        looks = looks_noted g.S.Store g.A.Archives.are self.desk self.desk c.note.new.self self.archives self.archives looks noted.conn noted.setup noted.closed noted.beside;
        noted = (_, noted.fault);
        cause = λ sound here. absurd here;
        is_open = λ clean. tt;
        alone = λ none. absurd (omega (arith, c.if-count-eq0.false, c.count.ensures _ none));
      };
      put_away = λ list these some. noted.fault;
    }
