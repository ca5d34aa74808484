use Rattle.std.proofs.Common.{option_map, string_bytes}
use Rattle.office_rows.proofs.Creating.{if_ok}
use Rattle.office_history.specs.After.{content_after}
use Rattle.office_archives.proofs.OfArchive.{neither_as, told_there}
use Rattle.office_archives.proofs.of_archive.tell_of_archive.Goals as goal

pub returns-in-Visits-clause-told : goal.returns-in-Visits-clause-told
returns-in-Visits-clause-told g c = λ whole.
    if_ok c.tell_container.result (λ found told. told_there g.S.Store g.A.Archives.are c.args.desk.now c.args.archives.now c.args.place c.args.query.now (option_map string_bytes found) (λ list are. (c.has_place.ensures list are).0 c.if-not-has_place.false) (λ content es stand. told (content_after content es) stand.list stand.these))
    (c.tell_container.ensures.told whole)

pub returns-in-Calls-clause-told : goal.returns-in-Calls-clause-told
returns-in-Calls-clause-told g c = λ whole.
    if_ok c.tell_calls.result (λ found told. told_there g.S.Store g.A.Archives.are c.args.desk.now c.args.archives.now c.args.place c.args.query.now (option_map string_bytes found) (λ list are. (c.has_place.ensures list are).0 c.if-not-has_place.false)
    (λ content es stand. told (content_after content es) stand.list stand.these ((c.has_place.ensures stand.list stand.these).0 c.if-not-has_place.false)))
    (c.tell_calls.ensures.told whole)

pub returns-in-Reply-clause-told : goal.returns-in-Reply-clause-told
returns-in-Reply-clause-told g c = λ whole.
    if_ok c.tell_number.result (λ found told. told_there g.S.Store g.A.Archives.are c.args.desk.now c.args.archives.now c.args.place c.args.query.now (option_map string_bytes found) (λ list are. (c.has_place.ensures list are).0 c.if-not-has_place.false) told)
    (c.tell_number.ensures.told whole)

pub returns-in-Contrl-clause-told : goal.returns-in-Contrl-clause-told
returns-in-Contrl-clause-told g c = λ whole.
    if_ok c.tell_number-in-Contrl.result (λ found told. told_there g.S.Store g.A.Archives.are c.args.desk.now c.args.archives.now c.args.place c.args.query.now (option_map string_bytes found) (λ list are. (c.has_place.ensures list are).0 c.if-not-has_place.false) told)
    (c.tell_number-in-Contrl.ensures.told whole)

pub returns-in-Ticket-clause-told : goal.returns-in-Ticket-clause-told
returns-in-Ticket-clause-told g c = λ whole.
    if_ok c.tell_number-in-Ticket.result (λ found told. told_there g.S.Store g.A.Archives.are c.args.desk.now c.args.archives.now c.args.place c.args.query.now (option_map string_bytes found) (λ list are. (c.has_place.ensures list are).0 c.if-not-has_place.false) told)
    (c.tell_number-in-Ticket.ensures.told whole)

pub returns-in_default : goal.returns-in_default
returns-in_default g c =
    let query = c.args.query.now in
    record {
      told = λ whole. if_ok c.report.result (λ found told. told_there g.S.Store g.A.Archives.are c.args.desk.now c.args.archives.now c.args.place query (option_map string_bytes found) (λ list are. (c.has_place.ensures list are).0 c.if-not-has_place.false) (λ content es stand. neither_as (content_after content es) stand.list c.args.place query (option_map string_bytes found)
          c.in_default.not-Visits c.in_default.not-Container c.in_default.not-Calls c.in_default.not-Reply c.in_default.not-Contrl c.in_default.not-Ticket (told stand.list stand.these)))
          (c.report.ensures.report whole);
      same = c.report.ensures.same;
    }
