use Rattle.std.proofs.Common.{◌≡◌, None, Some, inl, inr, option_map, string_bytes, sym, ◌∙◌}
use Rattle.office_rows.proofs.Creating.{if_ok}
use Rattle.office_admission.specs.Setups.{setup_content}
use Rattle.office_history.specs.After.{content_after}
use Rattle.office_desk.specs.Reports.{partner_called}
use Rattle.office_archives.proofs.{Beside.{called_here, nobody_here}, OfArchive.number_as}
use Rattle.office_archives.proofs.of_archive.tell_number.Goals as goal

pub returns-in_default-clause-told : goal.returns-in_default-clause-told
returns-in_default-clause-told g c = λ whole.
    let desk = c.args.desk.now in
    let archives = c.args.archives.now in
    let code = c.args.code.now in
    if_ok c.report.result (λ found told content es stand.
    number_as (content_after content es) stand.list c.args.place c.args.query.now code c.args.number None (option_map string_bytes found) c.requires
    (nobody_here g.S.Store g.A.Archives.are desk archives content es stand code (λ rows terminal holds. sym c.partner_called.ensures ∙ c.in_default.is))
    (told stand.list stand.these))
    (c.report.ensures.report whole)

-- an archive before it keeps the number
pub returns-then-closed_before-clause-told : goal.returns-then-closed_before-clause-told
returns-then-closed_before-clause-told g c = λ whole.
    let desk = c.args.desk.now in
    let archives = c.args.archives.now in
    let code = c.args.code.now in
    let called : partner_called (setup_content desk.setup) code ≡ Some c.in-Some.partner = sym c.partner_called.ensures ∙ c.in-Some.is in
    if_ok c.tell_closed.result (λ found told content es stand.
    let is = c.closed_before.ensures.before c.if-closed_before.true code called content es stand in
    number_as (content_after content es) stand.list c.args.place c.args.query.now code c.args.number (Some c.in-Some.partner) (option_map string_bytes found) c.requires
    (called_here g.S.Store g.A.Archives.are desk archives content es stand code c.in-Some.partner called)
    (inr (is, told stand.list stand.these is.closed)))
    (c.tell_closed.ensures.told whole)

pub returns-else-closed_before-clause-told : goal.returns-else-closed_before-clause-told
returns-else-closed_before-clause-told g c = λ whole.
    let desk = c.args.desk.now in
    let archives = c.args.archives.now in
    let code = c.args.code.now in
    let called : partner_called (setup_content desk.setup) code ≡ Some c.in-Some.partner = sym c.partner_called.ensures ∙ c.in-Some.is in
    if_ok c.report-else-closed_before.result (λ found told content es stand.
    number_as (content_after content es) stand.list c.args.place c.args.query.now code c.args.number (Some c.in-Some.partner) (option_map string_bytes found) c.requires
    (called_here g.S.Store g.A.Archives.are desk archives content es stand code c.in-Some.partner called)
    (inl (told stand.list stand.these, λ low. c.closed_before.ensures.not_before c.if-closed_before.false low code called content es stand)))
    (c.report-else-closed_before.ensures.report whole)
