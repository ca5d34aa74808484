use Rattle.std.proofs.{Common.{◌≡◌, refl, sym, ◌∙◌, vec_len}, lemmas.List.length-map}
use Rattle.office_closing.specs.Lists.{list_content}
use Rattle.office_closing.proofs.planning.put_away.Goals as goal

-- A list in the register is one of the plan.
pub returns : goal.returns
returns c =
    let visits : c.len.result ≡ vec_len c.args.plan.visits = c.len.ensures in
    let lists : c.len-2.result ≡ vec_len c.args.plan.gone = c.len-2.ensures in
    record { numbers = refl; visits = visits ∙ c.args.plan.visits.ok.0; lists = lists ∙ c.args.plan.gone.ok.0 ∙ sym (length-map c.args.plan.gone.items list_content) }
