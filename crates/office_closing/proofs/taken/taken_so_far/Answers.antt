use Rattle.std.proofs.{Common.{ap, ◌∙◌}, lemmas.Result.IfOk-weaker}
use Rattle.office_loading.specs.Closed.{ClosedContent}
use Rattle.office_closing.specs.Copies.{numbers_from, segments_of}
use Rattle.office_closing.proofs.taken.taken_so_far.Goals as goal

pub returns : goal.returns
returns c =
    let none = ap (λ (k : ClosedContent). k.last_closed) c.nothing-nothing.ensures in
    let numbers = c.deref.ensures.value ∙ c.in_ok-numbers.ensures ∙ ap (λ last. numbers_from last 1 c.args.nexts.now) none in
    IfOk-weaker c.segments_of.result _ _ (λ taken are. are ∙ ap (segments_of c.args.archive) numbers) c.segments_of.ensures
