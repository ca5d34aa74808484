use Rattle.std.proofs.{Common.{◌≡◌, ◌+◌, ◌++◌, [], ◌∷◌, map, take, get_or, refl, sym, ap, ◌∙◌, rules}, lemmas.List.{take_more, map-append}}
use Rattle.sqlite.specs.Held.{state}
use Rattle.office_closing.{specs.{Changes.with_lists, Lists.list_content}, proofs.Committing.{none_written, one_more_written, one_more_list}}
use Rattle.office_closing.proofs.register_closing.insert_lists.Goals as goal

pub loop-list-init : goal.loop-list-init
loop-list-init g c = (refl, none_written with_lists (λ content. refl) (state g.S.Store c.args.tx.now.conn.now))

pub loop-list-preserved : goal.loop-list-preserved
loop-list-preserved g c =
    let i = c.loop-list.list-index in
    let lists = c.args.lists.now in
    let item = c.list-item.result in
    let before = map list_content (take i lists) in
    let after = map list_content (take (i + 1) lists) in
    let pushed : after ≡ before ++ list_content item ∷ [] =
    ap (map list_content) (take_more lists i item c.loop-list-test.true) ∙ map-append list_content (take i lists) (get_or lists i item ∷ []) ∙ ap (λ l. before ++ list_content l ∷ []) (sym c.list-item.is) in
    (search rules, one_more_written with_lists before after (list_content item) (one_more_list before after (list_content item) pushed) _ _ _ c.loop-list.invariant.1 c.in_ok-insert_list.ensures.writes)
