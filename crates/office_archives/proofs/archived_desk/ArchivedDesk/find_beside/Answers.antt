use Rattle.std.proofs.{Common.{option_map, string_bytes}, lemmas.Result.IfErr-weaker}
use Rattle.office_rows.proofs.Creating.{if_ok}
use Rattle.office_archives.{specs.Telling.IsOfNeither, proofs.{Beside.{is_neither, neither_beside}, Together.looks_on}}
use Rattle.office_archives.proofs.archived_desk.ArchivedDesk.find_beside.Goals as goal

pub returns-in_default : goal.returns-in_default
returns-in_default g c =
    let self = c.args.self.now in
    let query = c.args.query.now in
    let told = c.find_report.ensures in
    let is : IsOfNeither query.about = is_neither query.about c.in_default.not-Visits c.in_default.not-Container c.in_default.not-Expected c.in_default.not-Calls c.in_default.not-List c.in_default.not-Work c.in_default.not-Reply c.in_default.not-Contrl c.in_default.not-Ticket c.in_default.not-Find c.in_default.not-Start in
    record {
      told = λ sound whole. if_ok c.find_report.result (λ found here. neither_beside g.S.Store g.A.Archives.are self.desk self.archives query (option_map string_bytes found) is here) (told.told sound);
      looks = looks_on g.S.Store g.A.Archives.are self.desk c.find_report.new.self self.archives self.archives (λ sound db left. g.met.S.Store.settled self.desk.conn.store db sound.1 left) told.looks (λ list are. are);
      is_open = told.is_open;
      fault = λ sound. IfErr-weaker c.find_report.result _ _ (λ fault deserved here. deserved) (told.fault sound);
      last_fault = told.last_fault;
    }
