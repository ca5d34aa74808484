use Rattle.std.proofs.Common.{ap, ◌∙◌, arith}
use Rattle.terminal_core.specs.Listings.{key_of}
use Rattle.office_reports.{specs.Calls.{list_of, lists_content}, proofs.CallLemmas.{all_listed, count_put, count_read, few_on, none_listed}}
use Rattle.office_reports.proofs.calls.lists_in.Goals as goal

pub loop-row-init : goal.loop-row-init
loop-row-init c = ap lists_content c.new-lists.ensures.empty ∙ none_listed

pub count_with-requires-clause-pending : goal.count_with-requires-clause-pending
count_with-requires-clause-pending c =
    let row = c.row-item.result in
    let i = c.loop-row.row-index in
    let is = count_read c.args.rows.now i c.key_of-key.result row c.loop-row.lists.entries c.key_of-key.ensures c.loop-row.invariant c.copied.result c.unwrap_or-count.result (c.copied.ensures ∙ c.get.ensures.value) c.unwrap_or-count.ensures in
    omega (arith, ap (λ count. count.pending) is, (few_on c.args.rows.now i (list_of (key_of row))).0)

pub count_with-requires-clause-done : goal.count_with-requires-clause-done
count_with-requires-clause-done c =
    let row = c.row-item.result in
    let i = c.loop-row.row-index in
    let is = count_read c.args.rows.now i c.key_of-key.result row c.loop-row.lists.entries c.key_of-key.ensures c.loop-row.invariant c.copied.result c.unwrap_or-count.result (c.copied.ensures ∙ c.get.ensures.value) c.unwrap_or-count.ensures in
    omega (arith, ap (λ count. count.done) is, (few_on c.args.rows.now i (list_of (key_of row))).1)

pub loop-row-preserved : goal.loop-row-preserved
loop-row-preserved c =
    let row = c.row-item.result in
    let i = c.loop-row.row-index in
    let is = count_read c.args.rows.now i c.key_of-key.result row c.loop-row.lists.entries c.key_of-key.ensures c.loop-row.invariant c.copied.result c.unwrap_or-count.result (c.copied.ensures ∙ c.get.ensures.value) c.unwrap_or-count.ensures in
    count_put c.args.rows.now i c.key_of-key.result row c.loop-row.lists.entries c.key_of-key.ensures c.loop-row.invariant c.insert.new.self.entries c.unwrap_or-count.result c.count_with.result c.loop-row-test.true c.row-item.is is c.count_with.ensures c.in_ok-insert.ensures.entries

pub returns : goal.returns
returns c = all_listed c.args.rows.now c.loop-row.row-index c.loop-row.lists.entries c.requires c.loop-row-test.false c.loop-row.invariant
