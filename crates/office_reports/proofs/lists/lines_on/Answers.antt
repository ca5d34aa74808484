use Rattle.std.{specs.BTreeMap.BTreeMap, proofs.Common.{ℕ, ◌+◌, List, take, sym, ◌∙◌, subst}}
use Rattle.edi_messages.specs.Owned.{call_content}
use Rattle.office_reports.{specs.declared.lists.ListedLine.ListedLine, proofs.Listing.{Lists, lists_none, row_off, row_on, are_lines}}
use Rattle.office_reports.proofs.lists.lines_on.Goals.{then-is_on+in_ok-listed_line+in_ok-insert+in-Some-1, then-is_on+in_ok-listed_line+in_ok-insert+in-None-1, else-is_on}
use Rattle.office_reports.proofs.lists.lines_on.Goals as goal

pub loop-line-init : goal.loop-line-init
loop-line-init c = lists_none (call_content c.args.call.now) c.args.side c.new-list.result.entries c.new-list.ensures.empty c.new-list.ensures.ordered

pub loop-line-preserved : goal.loop-line-preserved
loop-line-preserved c =
    let call = call_content c.args.call.now in
    let all = c.lines-line-items.result.now in
    let i = c.loop-line.line-index in
    let row = c.line-item.result in
    elim c.if-is_on.branch [
      | then-is_on+in_ok-listed_line+in_ok-insert+in-Some-1 w ↦ subst (λ (m : BTreeMap (List ℕ) ListedLine). Lists call c.args.side (take (i + 1) all) m.entries) (sym w.list-is)
          (row_on call c.args.side all c.lines-line-items.ensures.once i row c.loop-line-test.true c.line-item.is w.in_ok-listed_line.field-0 c.loop-line.list w.insert.new.self
          (sym c.is_on.ensures ∙ w.if-is_on.true) w.in_ok-listed_line.ensures w.insert.ensures.ordered w.in_ok-insert.ensures.updates.0 c.loop-line.invariant)
      | then-is_on+in_ok-listed_line+in_ok-insert+in-None-1 w ↦ subst (λ (m : BTreeMap (List ℕ) ListedLine). Lists call c.args.side (take (i + 1) all) m.entries) (sym w.list-is)
          (row_on call c.args.side all c.lines-line-items.ensures.once i row c.loop-line-test.true c.line-item.is w.in_ok-listed_line.field-0 c.loop-line.list w.insert.new.self
          (sym c.is_on.ensures ∙ w.if-is_on.true) w.in_ok-listed_line.ensures w.insert.ensures.ordered w.in_ok-insert.ensures.updates.0 c.loop-line.invariant)
      | else-is_on w ↦ subst (λ (m : BTreeMap (List ℕ) ListedLine). Lists call c.args.side (take (i + 1) all) m.entries) (sym w.list-is)
          (row_off call c.args.side all c.lines-line-items.ensures.once i row c.loop-line-test.true c.line-item.is c.loop-line.list.entries (sym c.is_on.ensures ∙ w.if-is_on.false) c.loop-line.invariant)
    ]

pub returns : goal.returns
returns c =
    are_lines c.args.terminal.now (call_content c.args.call.now) c.args.side c.lines-line-items.result.now c.loop-line.line-index c.loop-line.list.entries c.lines-line-items.ensures.told c.loop-line-test.false c.loop-line.invariant
