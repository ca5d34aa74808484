use Rattle.std.proofs.{Common.{◌≡◌, List, [], arith, option_map, string_bytes}, lemmas.Result.IfErr-weaker}
use Rattle.office_rows.proofs.Creating.{if_ok}
use Rattle.office_parts.specs.Archives.{Archive}
use Rattle.office_archives.proofs.{Alone.alone_tells, Beside.none_there, Together.looks_on}
use Rattle.office_archives.proofs.archived_desk.ArchivedDesk.find_report.Goals as goal

-- there is no archive
pub returns-then-count-eq0 : goal.returns-then-count-eq0
returns-then-count-eq0 g c =
    let self = c.args.self.now in
    let told = c.find_report.ensures in
    let empty : (list : List Archive) → g.A.Archives.are list self.archives → list ≡ [] = λ list these. none_there list c.count.result (c.count.ensures list these) c.if-count-eq0.true in
    record {
      told = λ sound whole. if_ok c.find_report.result (λ found here. alone_tells g.S.Store g.A.Archives.are self.desk self.archives empty c.args.query.now (option_map string_bytes found) (told.looks.stays sound) here) (told.told sound);
      looks = looks_on g.S.Store g.A.Archives.are self.desk c.find_report.new.self self.archives self.archives (λ sound db left. g.met.S.Store.settled self.desk.conn.store db sound.1 left) told.looks (λ list they. they);
      fault = λ sound. IfErr-weaker c.find_report.result _ _ (λ fault deserved here. deserved) (told.fault sound);
      last_fault = told.last_fault;
      alone = λ none sound. told.told sound;
      alone_looks = λ none. told.looks;
      alone_fault = λ none sound. told.fault sound;
    }

pub returns : goal.returns
returns g c =
    let told = c.find_beside.ensures in
    record {
      told = told.told;
      looks = told.looks;
      fault = told.fault;
      last_fault = told.last_fault;
      alone = λ none. absurd (omega (arith, c.if-count-eq0.false, c.count.ensures _ none));
      alone_looks = λ none. absurd (omega (arith, c.if-count-eq0.false, c.count.ensures _ none));
      alone_fault = λ none. absurd (omega (arith, c.if-count-eq0.false, c.count.ensures _ none));
    }
