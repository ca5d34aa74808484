use Rattle.std.proofs.Common.{Some, string_bytes, refl, ap}
use Rattle.office_rows.proofs.Creating.{if_ok}
use Rattle.office_report_data.specs.Told as value
use Rattle.office_desk.proofs.in_memory.tell_picture.Goals as goal

pub returns : goal.returns
returns c =
    let page = string_bytes c.in_ok-page.page in
    if_ok c.show_picture.result (λ text is. (Some (value.picture page), (page, refl, c.in_ok-page.ensures), ap Some is)) c.show_picture.ensures
