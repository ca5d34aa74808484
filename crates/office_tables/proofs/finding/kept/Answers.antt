use Rattle.std.proofs.Common.{◌≡◌, sym, subst}
use Rattle.office_rows.{specs.{Values.kept_values, Layouts.weighed}, proofs.Creating.{none_first, some_first}}
use Rattle.office_tables.{specs.Answers.{pair_of, RepliesAs}, proofs.WritesLemmas.of_store_weaker}
use Rattle.office_tables.proofs.finding.kept.Goals as goal

pub returns-in-None-clause-answer : goal.returns-in-None-clause-answer
returns-in-None-clause-answer g c clean rows has =
    none_first kept_values (pair_of c.args.partner c.args.number rows) c.in_ok-rows.rows.items (rw c.from.ensures at (c.in_ok-rows.ensures.shown clean (weighed, has.schema) rows.interchanges has.rows_are.interchanges)) (sym (rw c.deref.ensures.value at c.in-None.ensures.value))

pub returns-in-Ok-clause-answer : goal.returns-in-Ok-clause-answer
returns-in-Ok-clause-answer g c clean rows has =
    let found = some_first kept_values (pair_of c.args.partner c.args.number rows) c.in_ok-rows.rows.items c.in-Some.row.now (rw c.from.ensures at (c.in_ok-rows.ensures.shown clean (weighed, has.schema) rows.interchanges has.rows_are.interchanges)) (sym (rw c.deref.ensures.value at c.in-Some.ensures.value)) in
    let kept = c.in-Ok.kept in
    let read = rw found.2 at c.in-Ok.ensures.ok in
    let body : kept.text.items ≡ found.0.body = let e = read.0 in cc in
    let reply : read.1.0 ≡ found.0.reply = let e = read.1.1 in cc in
    (found.0, found.1, body, subst (RepliesAs kept.reply) reply read.1.2)

pub returns-clause-fault : goal.returns-clause-fault
returns-clause-fault g c clean rows has =
    let found = some_first kept_values (pair_of c.args.partner c.args.number rows) c.in_ok-rows.rows.items c.in-Some.row.now (rw c.from.ensures at (c.in_ok-rows.ensures.shown clean (weighed, has.schema) rows.interchanges has.rows_are.interchanges)) (sym (rw c.deref.ensures.value at c.in-Some.ensures.value)) in
    of_store_weaker _ _ (λ read. (found.0, found.1, λ utf8. c.in-Err.ensures.err read found.0 utf8 found.2)) c.column_fault.result c.column_fault.ensures
