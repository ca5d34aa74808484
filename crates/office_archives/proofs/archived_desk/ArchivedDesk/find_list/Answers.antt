use Rattle.std.proofs.Common.{map, option_map, string_bytes, subst}
use Rattle.edi_messages.specs.Owned.{call_content}
use Rattle.office_rows.{specs.Rows.listing_content, proofs.Creating.if_ok}
use Rattle.office_parts.specs.OwnLists.{list_name}
use Rattle.office_archives.{specs.{ListsAway.FindsIfAway, Causes.IsDeservedHere}, proofs.{Beside.{away_beside, list_beside}, Together.{looks_more, looks_on}}}
use Rattle.office_archives.proofs.Causing.{err_all, list_not_here}
use Rattle.office_archives.proofs.archived_desk.ArchivedDesk.find_list.Goals as goal

pub returns-in_err-lines-clause-looks : goal.returns-in_err-lines-clause-looks
returns-in_err-lines-clause-looks g c =
    let self = c.args.self.now in
    looks_on g.S.Store g.A.Archives.are self.desk c.lines_if_away.new.desk self.archives self.archives (λ sound db left. g.met.S.Store.settled self.desk.conn.store db sound.1 left) c.lines_if_away.ensures.looks (λ list are. are)

-- ---- a list that is away

pub returns-in-Some-clause-told : goal.returns-in-Some-clause-told
returns-in-Some-clause-told g c = λ sound whole.
    let self = c.args.self.now in
    let call = call_content c.args.call.now in
    let away = subst (λ o. FindsIfAway g.S.Store g.A.Archives.are self.desk self.archives (list_name call c.args.side) (option_map (λ lines. map listing_content lines.items) o)) c.in-Some.is (c.in_ok-lines.ensures.away sound) in
    if_ok c.report_by_lines.result (λ found told. away_beside g.S.Store g.A.Archives.are self.desk self.archives c.args.query.now call c.args.side (map listing_content c.in-Some.lines.items) (option_map string_bytes found) c.requires away told) c.report_by_lines.ensures

pub returns-in-Some-clause-looks : goal.returns-in-Some-clause-looks
returns-in-Some-clause-looks g c =
    let self = c.args.self.now in
    looks_on g.S.Store g.A.Archives.are self.desk c.lines_if_away.new.desk self.archives self.archives (λ sound db left. g.met.S.Store.settled self.desk.conn.store db sound.1 left) c.lines_if_away.ensures.looks (λ list are. are)

-- ---- one that is here

pub returns-in-None-clause-told : goal.returns-in-None-clause-told
returns-in-None-clause-told g c = λ sound whole.
    let self = c.args.self.now in
    let call = call_content c.args.call.now in
    let sound_mid = c.find_report.ensures.looks.stays sound in
    let here = subst (λ o. FindsIfAway g.S.Store g.A.Archives.are self.desk self.archives (list_name call c.args.side) (option_map (λ lines. map listing_content lines.items) o)) c.in-None.is (c.in_ok-lines.ensures.away sound_mid) in
    if_ok c.find_report.result (λ found told.
    list_beside g.S.Store g.A.Archives.are self.desk self.archives c.lines_if_away.new.desk c.args.query.now call c.args.side (option_map string_bytes found) c.requires sound_mid c.lines_if_away.ensures.looks here told)
    (c.find_report.ensures.told sound)

pub returns-in-None-clause-looks : goal.returns-in-None-clause-looks
returns-in-None-clause-looks g c =
    let self = c.args.self.now in
    let looks = looks_more g.S.Store self.desk c.lines_if_away.new.desk c.find_report.new.self c.in_ok-lines.ensures.stays_open c.lines_if_away.ensures.looks c.find_report.ensures.looks in
    looks_on g.S.Store g.A.Archives.are self.desk c.find_report.new.self self.archives self.archives (λ sound db left. g.met.S.Store.settled self.desk.conn.store db sound.1 left) looks (λ list are. are)

-- ---- it may be away

pub returns-in_err-lines-clause-fault : goal.returns-in_err-lines-clause-fault
returns-in_err-lines-clause-fault g c = λ sound.
    let desk = c.args.self.now.desk in
    let query = c.args.query.now in
    err_all c.from_residual.result (IsDeservedHere g.S.Store desk query.about) (λ fault here. absurd (list_not_here desk query.about (call_content c.args.call.now) c.args.side c.requires here))

pub returns-in-Some-clause-fault : goal.returns-in-Some-clause-fault
returns-in-Some-clause-fault g c = λ sound.
    let desk = c.args.self.now.desk in
    let query = c.args.query.now in
    err_all c.report_by_lines.result (IsDeservedHere g.S.Store desk query.about) (λ fault here. absurd (list_not_here desk query.about (call_content c.args.call.now) c.args.side c.requires here))

pub returns-in-None-clause-fault : goal.returns-in-None-clause-fault
returns-in-None-clause-fault g c = λ sound.
    let desk = c.args.self.now.desk in
    let query = c.args.query.now in
    err_all c.find_report.result (IsDeservedHere g.S.Store desk query.about) (λ fault here. absurd (list_not_here desk query.about (call_content c.args.call.now) c.args.side c.requires here))
