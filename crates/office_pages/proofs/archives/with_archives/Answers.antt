use Rattle.std.proofs.{Common.{◌++◌, ap, ◌∙◌}, lemmas.Result.IfOk-weaker}
use Rattle.office_pages.{specs.{Archives.archives_note, Fixed.foot}, proofs.Ends.same_front}
use Rattle.office_pages.proofs.archives.with_archives.Goals as goal

pub returns-in-Some : goal.returns-in-Some
returns-in-Some c =
    let page = c.args.page.now in
    let own = rw c.in-Some.is at c.body_of.ensures in
    IfOk-weaker c.noted.result _ _
    (λ text is body ends. is ∙ ap (λ t. t ++ archives_note c.args.count ++ foot) (same_front page c.in-Some.body.now body foot own ends))
    c.noted.ensures

pub returns-in-None : goal.returns-in-None
returns-in-None c =
    let none = rw c.in-None.is at c.body_of.ensures in
    IfOk-weaker c.from_str.result _ _ (λ text is body ends. absurd (none body ends)) c.from_str.ensures.ok
