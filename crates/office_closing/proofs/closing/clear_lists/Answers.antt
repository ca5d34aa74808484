use Rattle.std.proofs.{Common.{◌+◌, ◌++◌, [], ◌∷◌, not, map, take, drop, ap, sym, refl, ◌∙◌}, lemmas.List.take-append-drop, lemmas.Result.err_from_is_err_and}
use Rattle.office_parts.specs.OwnLists.{rows_without_lists}
use Rattle.office_closing.{specs.{Lists.list_content, Clearing.IsWithoutSomeLists, Deleting.is_one_of}, proofs.ClearLemmas.clears_none}
use Rattle.office_closing.proofs.NumberLemmas.{list_cleared, list_failed, lists_none, one_more}
use Rattle.office_closing.proofs.closing.clear_lists.Goals as goal

pub loop-list-init : goal.loop-list-init
loop-list-init g c =
    let old = c.args.conn.now in
    clears_none (IsWithoutSomeLists (is_one_of (map list_content c.args.lists.now))) g.S.Store (rows_without_lists (is_one_of [])) old c.requires.idle (c.is_autocommit-is_idle.ensures.settled (c.is_autocommit-is_idle.ensures.value ∙ ap not c.requires.idle))
    (λ is_open db left. g.met.S.Store.settled old.store db is_open left) (lists_none (is_one_of []) (λ l. refl))

pub returns-in_err-clear_list : goal.returns-in_err-clear_list
returns-in_err-clear_list g c =
    let p = err_from_is_err_and c.from_residual.result c.from_residual.ensures.1 in
    let i = c.loop-list.list-index in
    let all = map list_content c.args.lists.now in
    rw (p.1, p.2) (record {
      clears = list_failed (take i all) _ (take (i + 1) all) all (drop (i + 1) all) (one_more c.args.lists.now i c.list-item.result c.loop-list-test.true ∙ ap (λ l. take i all ++ list_content l ∷ []) (sym c.list-item.is)) (sym (take-append-drop (i + 1) all)) _ _ _ _ _ c.loop-list.invariant c.in_err-clear_list.ensures.clears;
    })

pub loop-list-preserved : goal.loop-list-preserved
loop-list-preserved g c =
    let i = c.loop-list.list-index in
    let all = map list_content c.args.lists.now in
    list_cleared (take i all) _ (take (i + 1) all) all (drop (i + 1) all) (one_more c.args.lists.now i c.list-item.result c.loop-list-test.true ∙ ap (λ l. take i all ++ list_content l ∷ []) (sym c.list-item.is)) (sym (take-append-drop (i + 1) all)) _ _ _ _ _ c.loop-list.invariant c.in_ok-clear_list.ensures.clears
