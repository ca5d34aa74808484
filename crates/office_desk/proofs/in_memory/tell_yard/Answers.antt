use Rattle.std.proofs.Common.{Some, refl, ap}
use Rattle.office_rows.proofs.Creating.{if_ok}
use Rattle.office_report_data.specs.Told as value
use Rattle.office_desk.proofs.in_memory.tell_yard.Goals as goal

pub returns : goal.returns
returns c =
    let yard = c.in_ok-yard.yard.entries in
    if_ok c.show_yard.result (λ text is. (Some (value.yard yard), (yard, c.in_ok-yard.ensures, refl), ap Some is)) c.show_yard.ensures
