use Rattle.std.proofs.{Common.{map, ap, subst, ◌∙◌}, lemmas.Result.IfErr-weaker}
use Rattle.sqlite.specs.Order.{column}
use Rattle.office_rows.proofs.Creating.{if_ok}
use Rattle.office_loading.{specs.Decoded.FailsOne, proofs.OlderOffice.{IsRead, high_waiting, numbers_shown}}
use Rattle.office_loading.proofs.rows.waiting_numbers.Goals as goal

pub returns-clause-answer : goal.returns-clause-answer
returns-clause-answer g c clean =
    let answer = c.in_ok-rows.rows.items in
    if_ok c.read_numbers.result (λ numbers read. λ rows has.
    numbers_shown c.args.partner c.args.next rows answer (rw (c.from.ensures) at (c.in_ok-rows.ensures.shown clean rows has)) numbers.items (read ∙ ap (map (λ row. column row 0)) c.deref.ensures.value)) c.read_numbers.ensures.ok

pub returns-clause-fault : goal.returns-clause-fault
returns-clause-fault g c clean =
    let answer = c.in_ok-rows.rows.items in
    IfErr-weaker c.read_numbers.result _ _ (λ fault failed. λ rows has.
    high_waiting c.args.partner c.args.next rows answer (rw (c.from.ensures) at (c.in_ok-rows.ensures.shown clean rows has)) fault (subst (λ l. FailsOne IsRead l fault) c.deref.ensures.value failed)) c.read_numbers.ensures.err
