use Rattle.std.{specs.Str.bytes_eq, proofs.Common.{ap, ◌∙◌}}
use Rattle.sqlite.specs.Order.{column}
use Rattle.office_loading.proofs.LackingLemmas.{moment_read, moment_refused}
use Rattle.office_loading.proofs.columns.moment_at.Goals as goal

pub returns-then-eq : goal.returns-then-eq
returns-then-eq c =
    let text = c.in_ok-text.text.now in
    moment_read (column c.args.row.now c.args.at) text c.digits.result c.in-Some.moment c.in_ok-text.ensures c.digits.ensures.written c.digits.ensures.read
    (c.if-eq.ensures ∙ ap (λ d. bytes_eq d text) c.as_slice.ensures)

pub returns-else-eq : goal.returns-else-eq
returns-else-eq c =
    let text = c.in_ok-text.text.now in
    moment_refused (column c.args.row.now c.args.at) text c.digits.result c.in-Some.moment c.in_ok-text.ensures c.digits.ensures.written c.in-Some.ensures
    (c.if-eq.ensures ∙ ap (λ d. bytes_eq d text) c.as_slice.ensures)
