use Rattle.std.proofs.{Common.{◌++◌, [], ◌∷◌, map, take, sym, ap, ◌∙◌}, lemmas.List.map_more}
use Rattle.office_closing.{specs.Lists.list_content, proofs.NumberLemmas.content_pushed}
use Rattle.office_closing.proofs.lists.copied_lists.Goals as goal

pub loop-list-preserved : goal.loop-list-preserved
loop-list-preserved c =
    let i = c.loop-list.list-index in
    content_pushed c.loop-list.copies.items _ _ c.in_ok-append.ensures
    ∙ ap (λ l. l ++ list_content c.in_ok-copied_list.field-0 ∷ []) c.loop-list.invariant
    ∙ ap (λ x. map list_content (take i c.args.lists.now) ++ x ∷ []) (c.in_ok-copied_list.ensures ∙ ap list_content c.list-item.is)
    ∙ sym (map_more list_content c.args.lists.now i _ c.loop-list-test.true)
