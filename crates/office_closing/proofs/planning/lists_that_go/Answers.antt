use Rattle.std.proofs.{Common.{◌≡◌, ◌==◌, true, List, [], length, map, ap, sym, subst, ◌∙◌, rules}, lemmas.Result.IfOk-weaker}
use Rattle.office_parts.specs.Named.{named_list_content}
use Rattle.office_rows.specs.Rows.{listing_content}
use Rattle.office_closing.{specs.{declared.register.Segment.Segment, Copies.GoWith, Lists.list_content}, proofs.ClearLemmas.{done_in, go_with, none_is_empty}}
use Rattle.office_closing.proofs.planning.lists_that_go.Goals as goal

-- With no segment there are none.
pub returns-then-is_empty : goal.returns-then-is_empty
returns-then-is_empty c =
    let named = map named_list_content c.args.named.now in
    let lines = c.lines-lines.result.now in
    let none = none_is_empty c.args.segments.now (sym c.is_empty.ensures ∙ c.if-is_empty.true) in
    let empty : map list_content c.new.result.items ≡ [] = search rules in
    done_in c.args.own.now.terminal named c.args.segments.now c.args.archive lines (map list_content c.new.result.items) c.lines-lines.ensures.told c.lines-lines.ensures.once
    (subst (λ (s : List Segment). GoWith s (map listing_content lines) named c.args.archive (map list_content c.new.result.items)) (sym none) empty)

-- With some, those go that are done.
pub returns : goal.returns
returns c =
    let named = map named_list_content c.args.named.now in
    let lines = c.lines-lines.result.now in
    let some : c.args.segments.now ≡ [] → ⊥ = λ none.
    let empty : (length c.args.segments.now == 0) ≡ true = ap (λ (s : List Segment). length s == 0) none in
    let is = c.is_empty.ensures in
    let full = c.if-is_empty.false in
    cc in
    IfOk-weaker c.done_lists.result _ _ (λ done are. done_in c.args.own.now.terminal named c.args.segments.now c.args.archive lines (map list_content done.items) c.lines-lines.ensures.told c.lines-lines.ensures.once
    (go_with c.args.segments.now (map listing_content lines) named c.args.archive (map list_content done.items) some are)) c.done_lists.ensures
