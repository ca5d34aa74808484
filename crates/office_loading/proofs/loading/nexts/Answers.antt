use Rattle.std.proofs.{Common.{map, ap, subst, ◌∙◌}, lemmas.Result.IfErr-weaker}
use Rattle.sqlite.specs.{Order.column, Held.state}
use Rattle.office_rows.{specs.Layouts.weighed, proofs.{Listed.nexts_listed, Creating.if_ok}}
use Rattle.office_loading.{specs.Decoded.FailsOne, proofs.VersionLemmas.{IsRead, high_next, high_shown}}
use Rattle.office_loading.proofs.loading.nexts.Goals as goal

pub returns-clause-answer : goal.returns-clause-answer
returns-clause-answer g c clean =
    let old = state g.S.Store c.args.conn.now in
    let answer = c.in_ok-rows.rows.items in
    if_ok c.read_nexts.result (λ nexts read. λ rows has.
    nexts_listed rows old.now answer nexts.items has (c.in_ok-rows.ensures.shown clean weighed has.schema) (read ∙ ap (map (λ row. column row 3)) c.deref.ensures.value)) c.read_nexts.ensures.ok

pub returns-clause-fault : goal.returns-clause-fault
returns-clause-fault g c clean =
    let old = state g.S.Store c.args.conn.now in
    let answer = c.in_ok-rows.rows.items in
    IfErr-weaker c.read_nexts.result _ _ (λ fault failed. λ rows has.
    high_next rows old.now answer has (c.in_ok-rows.ensures.shown clean weighed has.schema) fault (subst (λ l. FailsOne IsRead l fault) c.deref.ensures.value failed)) c.read_nexts.ensures.err

pub returns-clause-shown : goal.returns-clause-shown
returns-clause-shown g c clean schema =
    let old = state g.S.Store c.args.conn.now in
    let answer = c.in_ok-rows.rows.items in
    IfErr-weaker c.read_nexts.result _ _ (λ fault failed. λ partners shows.
    high_shown partners old.now answer shows (c.in_ok-rows.ensures.shown clean weighed schema) fault (subst (λ l. FailsOne IsRead l fault) c.deref.ensures.value failed)) c.read_nexts.ensures.err
