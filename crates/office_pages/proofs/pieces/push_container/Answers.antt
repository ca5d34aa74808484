use Rattle.std.proofs.{Common.{◌++◌, ap, ◌∙◌, codes, string_bytes}, lemmas.Result.on_ok_weaker}
use Rattle.office_reports.{specs.Fields.field_text, proofs.Markup.onto}
use Rattle.office_pages.{specs.{Addresses.part, Pieces.container_link}, proofs.Growing.if_pushed}
use Rattle.office_pages.proofs.pieces.push_container.Goals as goal

pub returns : goal.returns
unfolding container_link
returns c =
    let front = string_bytes c.args.page.now in
    let number = c.args.number in
    let opens = codes "<a class='m' href='/pages/containers/" in
    let one = string_bytes c.push_str.new.self in
    let two = string_bytes c.push_part.new.text in
    let three = string_bytes c.push_str-2.new.self in
    let four = string_bytes c.push_field.new.page in
    let five = string_bytes c.push_str-3.new.self in
    let b = onto front opens (part number) one two c.in_ok-push_str.ensures.bytes (c.in_ok-push_part.ensures ∙ ap (λ w. one ++ part w) c.text.ensures.same) in
    let d = onto front (opens ++ part number) (codes "'>") two three b c.in_ok-push_str-2.ensures.bytes in
    let e = onto front (opens ++ part number ++ codes "'>") (field_text number) three four d (c.in_ok-push_field.ensures ∙ ap (λ w. three ++ field_text w) c.text-2.ensures.same) in
    on_ok_weaker c.push_str-3.result
    (λ last. onto front (opens ++ part number ++ codes "'>" ++ field_text number) (codes "</a>") four five e last)
    (if_pushed c.push_str-3.result five (four ++ codes "</a>") four c.push_str-3.ensures.bytes)
