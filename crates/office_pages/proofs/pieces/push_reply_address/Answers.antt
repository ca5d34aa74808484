use Rattle.std.proofs.{Common.{◌++◌, ap, ◌∙◌, codes, decimal, string_bytes}, lemmas.Result.on_ok_weaker}
use Rattle.office_pages.specs.{Addresses.part, Pieces.reply_address}
use Rattle.office_reports.proofs.Markup.{onto}
use Rattle.office_pages.proofs.pieces.push_reply_address.Goals as goal

pub returns : goal.returns
unfolding reply_address
returns c =
    let front = string_bytes c.args.page.now in
    let partner = c.args.partner.now in
    let route = codes "/pages/replies/" in
    let one = string_bytes c.push_str.new.self in
    let two = string_bytes c.push_part.new.text in
    let three = string_bytes c.push_str-2.new.self in
    let b = onto front route (part partner) one two c.in_ok-push_str.ensures.bytes (c.in_ok-push_part.ensures ∙ ap (λ w. one ++ part w) c.as_bytes.ensures.value) in
    let d = onto front (route ++ part partner) (codes "/") two three b c.in_ok-push_str-2.ensures.bytes in
    on_ok_weaker c.push_digits.result
    (λ last. onto front (route ++ part partner ++ codes "/") (decimal c.args.number) three (string_bytes c.push_digits.new.page) d (last ∙ ap (λ n. three ++ decimal n) c.from.ensures))
    c.push_digits.ensures
