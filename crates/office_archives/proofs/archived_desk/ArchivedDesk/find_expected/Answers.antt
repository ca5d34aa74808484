use Rattle.std.proofs.{Common.{option_map, string_bytes}, lemmas.Result.err_from_is_err_and}
use Rattle.office_archives.proofs.{Beside.expected_beside, Together.looks_on}
use Rattle.office_archives.proofs.archived_desk.ArchivedDesk.find_expected.Goals as goal

pub returns-clause-told : goal.returns-clause-told
returns-clause-told g c = λ sound whole.
    let self = c.args.self.now in
    expected_beside g.S.Store g.A.Archives.are self.desk self.archives c.args.query.now (option_map string_bytes c.in_ok-told.told) (option_map string_bytes c.in_ok-with_note.field-0) c.count.result c.requires c.count.ensures
    (c.in_ok-told.ensures.told sound) c.in_ok-with_note.ensures

pub returns-clause-looks : goal.returns-clause-looks
returns-clause-looks g c =
    let self = c.args.self.now in
    looks_on g.S.Store g.A.Archives.are self.desk c.find_report.new.self self.archives self.archives (λ sound db left. g.met.S.Store.settled self.desk.conn.store db sound.1 left) c.find_report.ensures.looks (λ list are. are)

pub returns-in_err-told-clause-looks : goal.returns-in_err-told-clause-looks
returns-in_err-told-clause-looks g c =
    let self = c.args.self.now in
    looks_on g.S.Store g.A.Archives.are self.desk c.find_report.new.self self.archives self.archives (λ sound db left. g.met.S.Store.settled self.desk.conn.store db sound.1 left) c.find_report.ensures.looks (λ list are. are)

pub returns-in_err-with_note-clause-looks : goal.returns-in_err-with_note-clause-looks
returns-in_err-with_note-clause-looks g c =
    let self = c.args.self.now in
    looks_on g.S.Store g.A.Archives.are self.desk c.find_report.new.self self.archives self.archives (λ sound db left. g.met.S.Store.settled self.desk.conn.store db sound.1 left) c.find_report.ensures.looks (λ list are. are)

-- ---- why it can't be reported

pub returns-in_err-told-clause-fault : goal.returns-in_err-told-clause-fault
returns-in_err-told-clause-fault g c =
    let p = err_from_is_err_and c.from_residual.result c.from_residual.ensures.1 in
    λ sound. rw (p.1, p.2) (λ here. c.in_err-told.ensures.fault sound)
