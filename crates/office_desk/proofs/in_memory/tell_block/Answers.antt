use Rattle.std.proofs.Common.{Some, refl, ap}
use Rattle.office_rows.proofs.Creating.{if_ok}
use Rattle.office_report_data.specs.Told.{shown}
use Rattle.office_report_data.specs.Told as value
use Rattle.office_desk.proofs.in_memory.tell_block.Goals as goal

pub returns : goal.returns
unfolding shown
returns c view =
    let yard = c.in_ok-yard.yard.entries in
    if_ok c.yard_page.result (λ text is. (Some (value.block c.args.letter yard), (yard, c.in_ok-yard.ensures, refl), ap Some is)) c.yard_page.ensures
