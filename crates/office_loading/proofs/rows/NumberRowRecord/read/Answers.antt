use Rattle.std.proofs.Common.{◌≡◌, [], ◌∷◌, not, ap}
use Rattle.office_rows.specs.{Rows.Interchange, Opened.reply_values, Shown.columns_at}
use Rattle.office_loading.specs.Contents.{number_content}
use Rattle.office_loading.proofs.rows.NumberRowRecord.read.Goals as goal

pub returns : goal.returns
returns c =
    let partner = c.in_ok-partner.ensures in
    let number = c.in_ok-number.ensures in
    let reply = c.in_ok-reply.ensures in
    let partner_is = partner.0 in
    let number_is = number.0 in
    let i : Interchange = record { partner = c.in_ok-partner.partner; number = c.in_ok-number.number; body = []; reply = c.in_ok-reply.reply.now } in
    let same : columns_at (0 ∷ 1 ∷ 2 ∷ []) c.args.row.now ≡ reply_values i = cc in
    (i, same, ap (λ is_empty. number_content (record { partner = c.in_ok-partner.partner; number = c.in_ok-number.number; is_taken = not is_empty })) c.is_empty.ensures, record { partner = partner.1; number = number.1 })
