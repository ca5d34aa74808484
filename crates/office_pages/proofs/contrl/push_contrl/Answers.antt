use Rattle.std.proofs.{Common.{◌≡◌, ◌++◌, ◌∷◌, [], ap, ◌∙◌, codes, false, string_bytes}, lemmas.Result.on_ok_weaker}
use Rattle.office_reports.{specs.Fields.field_text, proofs.Markup.onto}
use Rattle.office_pages.specs.{Contrl.segment_lines, Pieces.{Markup, pieces_text}}
use Rattle.office_pages.proofs.contrl.push_contrl.Goals as goal

pub returns : goal.returns
returns c =
    let front = string_bytes c.args.page.now in
    let contrl = c.args.contrl.now in
    let opens = pieces_text (Markup (codes "<section>\n<h2>CONTRL</h2>\n<pre>\n") ∷ []) in
    let lines : c.deref.result.now ≡ segment_lines false contrl = cc (c.in_ok-lines.ensures, c.as_bytes.ensures.value, c.deref.ensures.value) in
    let one = string_bytes c.push_pieces.new.page in
    let two = string_bytes c.push_field.new.page in
    let b = onto front opens (field_text (segment_lines false contrl)) one two c.in_ok-push_pieces.ensures
    (c.in_ok-push_field.ensures ∙ ap (λ t. one ++ field_text t) lines) in
    on_ok_weaker c.push_pieces-2.result
    (λ last. onto front (opens ++ field_text (segment_lines false contrl)) _ two (string_bytes c.push_pieces-2.new.page) b last)
    c.push_pieces-2.ensures
