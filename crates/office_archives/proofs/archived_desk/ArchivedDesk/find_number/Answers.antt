use Rattle.std.proofs.{Common.{◌≡◌, None, Some, option_map, string_bytes, refl, sym, ◌∙◌}, lemmas.Result.IfErr-weaker}
use Rattle.office_admission.specs.Setups.{setup_content}
use Rattle.office_rows.proofs.Creating.{if_ok}
use Rattle.office_desk.{specs.Reports.partner_called, proofs.LookLemmas.looks_nowhere}
use Rattle.office_archives.{specs.Causes.IsDeservedHere, proofs.{Beside.{closed_beside, nobody_beside, number_beside}, Together.looks_on}}
use Rattle.office_archives.proofs.Causing.{err_all, number_not_here}
use Rattle.office_archives.proofs.archived_desk.ArchivedDesk.find_number.Goals as goal

-- ---- nobody has the code

pub returns-in_default-clause-told : goal.returns-in_default-clause-told
returns-in_default-clause-told g c = λ sound whole.
    let self = c.args.self.now in
    nobody_beside g.S.Store g.A.Archives.are self.desk self.archives c.args.query.now c.args.code.now c.args.number None c.requires refl (λ rows terminal holds. sym c.partner_called.ensures ∙ c.in_default.is)

pub returns-in_default-clause-looks : goal.returns-in_default-clause-looks
returns-in_default-clause-looks g c =
    let self = c.args.self.now in
    looks_on g.S.Store g.A.Archives.are self.desk self.desk self.archives self.archives (λ sound db left. g.met.S.Store.settled self.desk.conn.store db sound.1 left) (looks_nowhere g.S.Store self.desk) (λ list are. are)

-- ---- a number that is not closed

pub returns-then-not-is_closed-clause-told : goal.returns-then-not-is_closed-clause-told
returns-then-not-is_closed-clause-told g c = λ sound whole.
    let self = c.args.self.now in
    let code = c.args.code.now in
    let called : partner_called (setup_content self.desk.setup) code ≡ Some c.in-Some.partner = sym c.partner_called.ensures ∙ c.in-Some.is in
    if_ok c.find_report.result (λ found told.
    number_beside g.S.Store g.A.Archives.are self.desk self.archives c.args.query.now code c.args.number c.in-Some.partner (option_map string_bytes found) c.requires called (sym c.is_closed.ensures ∙ c.if-not-is_closed.true) told)
    (c.find_report.ensures.told sound)

pub returns-then-not-is_closed-clause-looks : goal.returns-then-not-is_closed-clause-looks
returns-then-not-is_closed-clause-looks g c =
    let self = c.args.self.now in
    looks_on g.S.Store g.A.Archives.are self.desk c.find_report.new.self self.archives self.archives (λ sound db left. g.met.S.Store.settled self.desk.conn.store db sound.1 left) c.find_report.ensures.looks (λ list are. are)

-- ---- one that is closed

pub returns-clause-told : goal.returns-clause-told
returns-clause-told g c = λ sound whole.
    let self = c.args.self.now in
    let code = c.args.code.now in
    let called : partner_called (setup_content self.desk.setup) code ≡ Some c.in-Some.partner = sym c.partner_called.ensures ∙ c.in-Some.is in
    if_ok c.tell_closed.result (λ found told.
    closed_beside g.S.Store g.A.Archives.are self.desk self.archives c.args.query.now code c.args.number c.in-Some.partner (option_map string_bytes found) c.requires called (sym c.is_closed.ensures ∙ c.if-not-is_closed.false) told)
    (c.tell_closed.ensures.told whole)

pub returns-clause-looks : goal.returns-clause-looks
returns-clause-looks g c =
    let self = c.args.self.now in
    looks_on g.S.Store g.A.Archives.are self.desk self.desk self.archives c.tell_closed.new.archives (λ sound db left. g.met.S.Store.settled self.desk.conn.store db sound.1 left) (looks_nowhere g.S.Store self.desk) c.tell_closed.ensures.same

-- ---- why it can't be reported

pub returns-then-not-is_closed-clause-fault : goal.returns-then-not-is_closed-clause-fault
returns-then-not-is_closed-clause-fault g c = λ sound. IfErr-weaker c.find_report.result _ _ (λ fault deserved here. deserved) (c.find_report.ensures.fault sound)

pub returns-clause-fault : goal.returns-clause-fault
returns-clause-fault g c = λ sound.
    let desk = c.args.self.now.desk in
    let query = c.args.query.now in
    err_all c.tell_closed.result (IsDeservedHere g.S.Store desk query.about) (λ fault here.
    absurd (number_not_here desk query.about c.args.code.now c.args.number c.in-Some.partner c.requires (sym c.partner_called.ensures ∙ c.in-Some.is) (sym c.is_closed.ensures ∙ c.if-not-is_closed.false) here))
