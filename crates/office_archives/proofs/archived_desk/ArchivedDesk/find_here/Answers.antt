use Rattle.std.proofs.{Common.{option_map, string_bytes}, lemmas.Result.IfErr-weaker}
use Rattle.office_rows.proofs.Creating.{if_ok}
use Rattle.office_archives.proofs.{Beside.here_beside, Together.looks_on}
use Rattle.office_archives.proofs.archived_desk.ArchivedDesk.find_here.Goals as goal

pub returns : goal.returns
returns g c =
    let self = c.args.self.now in
    let query = c.args.query.now in
    let told = c.find_report.ensures in
    record {
      told = λ sound whole. if_ok c.find_report.result (λ found here. here_beside g.S.Store g.A.Archives.are self.desk self.archives query (option_map string_bytes found) c.requires here) (told.told sound);
      looks = looks_on g.S.Store g.A.Archives.are self.desk c.find_report.new.self self.archives self.archives (λ sound db left. g.met.S.Store.settled self.desk.conn.store db sound.1 left) told.looks (λ list are. are);
      is_open = told.is_open;
      fault = λ sound. IfErr-weaker c.find_report.result _ _ (λ fault deserved here. deserved) (told.fault sound);
      last_fault = told.last_fault;
    }
