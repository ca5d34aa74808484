use Rattle.std.proofs.{Common.{◌≡◌, ◌++◌, None, codes, lit<, rules, string_bytes}, lemmas.Result.on_ok_weaker, lemmas.Str.Pattern.split_parts}
use Rattle.office_pages.{specs.Drawn.{drawn_line, picture_view}, proofs.Splitting.{pieces_end, pieces_more}}
use Rattle.office_pages.proofs.drawn.push_picture.Goals as goal

pub lines-preserved : goal.lines-preserved
lines-preserved c =
    let split = rw c.in-Some.is at (split_parts 10 c.lines.rest.now c.split_once.result c.split_once.ensures.cases (lit< tt)) in (
      search rules,
      pieces_more 10 drawn_line (codes "\n") c.lines.rest.now c.in-Some.line.now c.in-Some.behind.now
          (string_bytes c.args.page.now ++ picture_view c.args.text.now)
          (string_bytes c.lines.page) (string_bytes c.push_drawn_line.new.page) (string_bytes c.push_str.new.self)
          split.0 split.1 c.lines.invariant.1 c.in_ok-push_drawn_line.ensures c.in_ok-push_str.ensures.bytes,
    )

pub returns : goal.returns
returns c =
    let last : c.split_once.result ≡ None = c.in_default.is in
    let none = rw last at (split_parts 10 c.lines.rest.now c.split_once.result c.split_once.ensures.cases (lit< tt)) in
    on_ok_weaker c.push_drawn_line-2.result
    (λ e. pieces_end 10 drawn_line (codes "\n") c.lines.rest.now (string_bytes c.args.page.now ++ picture_view c.args.text.now)
    (string_bytes c.lines.page) (string_bytes c.push_drawn_line-2.new.page) none c.lines.invariant.1 e)
    c.push_drawn_line-2.ensures
