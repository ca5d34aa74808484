use Rattle.std.proofs.{Common.{◌≡◌, sym, inl, inr, filter}, lemmas.Result.IfErr-weaker}
use Rattle.office_rows.{specs.Values.next_values, proofs.Creating.{none_first, some_first, if_ok}}
use Rattle.office_tables.{specs.Answers.has_id, proofs.WritesLemmas.of_store_weaker}
use Rattle.office_tables.proofs.finding.next_of.Goals as goal

pub returns-clause-answer : goal.returns-clause-answer
returns-clause-answer g c clean =
    if_ok c.read_number.result (λ next read. λ rows has.
    let found = some_first next_values (filter (has_id c.args.partner) rows.partners) c.in_ok-rows.rows.items c.in-Some.row.now (c.in_ok-rows.ensures.shown clean rows has) (sym (rw c.deref.ensures.value at c.in-Some.ensures.value)) in
    let is : found.0.next ≡ next = let e = rw found.2 at read in cc in
    (found.0, found.1, is)) c.read_number.ensures.ok

pub returns-in-None-clause-fault : goal.returns-in-None-clause-fault
returns-in-None-clause-fault g c clean rows has =
    inl (none_first next_values (filter (has_id c.args.partner) rows.partners) c.in_ok-rows.rows.items (c.in_ok-rows.ensures.shown clean rows has) (sym (rw c.deref.ensures.value at c.in-None.ensures.value)))

pub returns-clause-fault : goal.returns-clause-fault
returns-clause-fault g c clean =
    IfErr-weaker c.read_number.result _ _ (λ fault failed. λ rows has.
    let found = some_first next_values (filter (has_id c.args.partner) rows.partners) c.in_ok-rows.rows.items c.in-Some.row.now (c.in_ok-rows.ensures.shown clean rows has) (sym (rw c.deref.ensures.value at c.in-Some.ensures.value)) in
    of_store_weaker _ _ (λ none. inr (found.0, found.1, λ fits. none found.0 fits found.2)) fault failed) c.read_number.ensures.err
