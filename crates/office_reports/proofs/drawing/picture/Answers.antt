use Rattle.std.proofs.Common.{◌++◌, ap, ◌∙◌}
use Rattle.office_reports.specs.Picture.{page_text}
use Rattle.office_reports.proofs.drawing.picture.Goals as goal

pub returns : goal.returns
returns c = record {
  yard = c.in_ok-yard.yard.entries;
  listed = c.in_ok-yard.ensures;
  is = c.in_ok-push_page.ensures ∙ ap (λ text. text ++ page_text c.args.name.now c.args.blocks.now c.deref.result.now) c.new-page.ensures.bytes
      ∙ ap (page_text c.args.name.now c.args.blocks.now) (c.deref.ensures.value ∙ c.in_ok-standings.ensures);
}
