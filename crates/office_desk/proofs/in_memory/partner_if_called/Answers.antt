use Rattle.std.proofs.Common.{◌+◌, option_map, sym, ap, ◌∙◌}
use Rattle.office_desk.proofs.AccountLemmas.{found_by_code}
use Rattle.office_desk.proofs.in_memory.partner_if_called.Goals as goal

pub returns-in-Some : goal.returns-in-Some
returns-in-Some c =
    let code = c.args.code.now in
    sym (ap (option_map (λ id. code))
    (found_by_code c.args.setup.now.partners.items code c.index_called.result c.index_called.ensures.index ∙ ap (option_map (λ index. index + 1)) c.in-Some.is))

pub returns-in-None : goal.returns-in-None
returns-in-None c =
    let code = c.args.code.now in
    sym (ap (option_map (λ id. code))
    (found_by_code c.args.setup.now.partners.items code c.index_called.result c.index_called.ensures.index ∙ ap (option_map (λ index. index + 1)) c.in-None.is))
