use Rattle.std.proofs.{Common.{◌≡◌, Bool, List, arith, length, option_map, string_bytes, sym, subst}, lemmas.List.take_all, lemmas.Result.err_from_is_err_and}
use Rattle.office_parts.specs.Archives.{Archive}
use Rattle.office_desk.specs.Reports.{DeskTells}
use Rattle.office_archives.{specs.{Telling.{SaysIfAway, archives_with_lists}, Together.TellsBeside}, proofs.{Beside.calls_beside, Together.looks_on}}
use Rattle.office_archives.proofs.archived_desk.ArchivedDesk.find_calls.Goals as goal

pub returns-clause-told : goal.returns-clause-told
returns-clause-told g c = λ sound whole.
    let self = c.args.self.now in
    let told = option_map string_bytes c.in_ok-told.told in
    let found = option_map string_bytes c.in_ok-with_archives.field-0 in
    let counted : (list : List Archive) → g.A.Archives.are list self.archives → (put_away : Bool) × SaysIfAway list put_away × (c.archives_with_lists-count.result ≡ archives_with_lists list put_away) =
    λ list these.
    let many : c.count.result ≡ length list = c.count.ensures list these in
    let there = c.archives_with_lists-count.ensures list these (omega (arith, many)) in
    subst (λ first. (put_away : Bool) × SaysIfAway first put_away × (c.archives_with_lists-count.result ≡ archives_with_lists first put_away)) (take_all c.count.result list (omega (arith, many))) there
    in
    let view = c.args.query.now.view in
    subst (λ q. TellsBeside g.S.Store g.A.Archives.are self.desk self.archives (record { about = q; view = view }) found) (sym c.requires)
    (calls_beside g.S.Store g.A.Archives.are self.desk self.archives view told found c.archives_with_lists-count.result counted
    (subst (λ q. DeskTells g.S.Store self.desk (record { about = q; view = view }) told) c.requires (c.in_ok-told.ensures.told sound)) c.in_ok-with_archives.ensures)

pub returns-clause-looks : goal.returns-clause-looks
returns-clause-looks g c =
    let self = c.args.self.now in
    looks_on g.S.Store g.A.Archives.are self.desk c.find_report.new.self self.archives self.archives (λ sound db left. g.met.S.Store.settled self.desk.conn.store db sound.1 left) c.find_report.ensures.looks (λ list are. are)

pub returns-in_err-told-clause-looks : goal.returns-in_err-told-clause-looks
returns-in_err-told-clause-looks g c =
    let self = c.args.self.now in
    looks_on g.S.Store g.A.Archives.are self.desk c.find_report.new.self self.archives self.archives (λ sound db left. g.met.S.Store.settled self.desk.conn.store db sound.1 left) c.find_report.ensures.looks (λ list are. are)

pub returns-in_err-with_archives-clause-looks : goal.returns-in_err-with_archives-clause-looks
returns-in_err-with_archives-clause-looks g c =
    let self = c.args.self.now in
    looks_on g.S.Store g.A.Archives.are self.desk c.find_report.new.self self.archives self.archives (λ sound db left. g.met.S.Store.settled self.desk.conn.store db sound.1 left) c.find_report.ensures.looks (λ list are. are)

-- ---- why it can't be reported

pub returns-in_err-told-clause-fault : goal.returns-in_err-told-clause-fault
returns-in_err-told-clause-fault g c =
    let p = err_from_is_err_and c.from_residual.result c.from_residual.ensures.1 in
    λ sound. rw (p.1, p.2) (λ here. c.in_err-told.ensures.fault sound)
