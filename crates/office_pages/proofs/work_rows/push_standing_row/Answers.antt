use Rattle.std.proofs.{Common.{◌++◌, ◌∙◌, string_bytes}, lemmas.Result.on_ok_weaker}
use Rattle.office_pages.specs.Work.{standing_row}
use Rattle.office_pages.proofs.work_rows.push_standing_row.Goals as goal

pub returns : goal.returns
returns c =
    let job = c.args.job.now in
    on_ok_weaker c.push_pieces.result
    (λ e. e ∙ (λ i. string_bytes c.args.page.now ++ standing_row
    (record { container = job.container; port = c.as_str.ensures.value i; standing = job.standing; blocker = job.blocker })
    c.args.standing))
    c.push_pieces.ensures
