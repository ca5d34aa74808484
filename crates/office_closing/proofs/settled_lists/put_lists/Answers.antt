use Rattle.std.proofs.{Common.{◌≡◌, ◌+◌, ◌++◌, [], ◌∷◌, map, take, get_or, sym, ap, ◌∙◌}, lemmas.List.{take_more, map-append}}
use Rattle.office_closing.{specs.Lists.{list_content, put_list, put_lists}, proofs.Committing.put_more}
use Rattle.office_closing.proofs.settled_lists.put_lists.Goals as goal

pub loop-list-preserved : goal.loop-list-preserved
loop-list-preserved c =
    let i = c.loop-list.list-index in
    let more = c.args.more.now in
    let item = c.list-item.result in
    let before = map list_content (take i more) in
    let start = map list_content c.args.lists.now.items in
    let pushed : map list_content (take (i + 1) more) ≡ before ++ list_content item ∷ [] =
    ap (map list_content) (take_more more i item c.loop-list-test.true) ∙ map-append list_content (take i more) (get_or more i item ∷ []) ∙ ap (λ l. before ++ list_content l ∷ []) (sym c.list-item.is) in
    c.in_ok-put_list.ensures
    ∙ ap (λ a. put_list a (map list_content c.loop-list.lists.items)) c.in_ok-copied_list.ensures
    ∙ ap (put_list (list_content item)) c.loop-list.invariant
    ∙ sym (put_more before (list_content item) start)
    ∙ ap (λ l. put_lists l start) (sym pushed)
