use Rattle.std.proofs.{Common.{◌≡◌, ◌+◌, ◌++◌, [], ◌∷◌, map, take, get_or, refl, sym, ap, ◌∙◌, rules}, lemmas.List.{take_more, map-append}}
use Rattle.sqlite.specs.Held.{state}
use Rattle.office_closing.specs.{Changes.with_sealed, Register.sealed_content}
use Rattle.office_closing.proofs.Committing.{none_written, one_more_written, none_sealed, one_more_sealed}
use Rattle.office_closing.proofs.register_closing.insert_all_sealed.Goals as goal

pub loop-one-init : goal.loop-one-init
loop-one-init g c = (refl, none_written with_sealed none_sealed (state g.S.Store c.args.tx.now.conn.now))

pub loop-one-preserved : goal.loop-one-preserved
loop-one-preserved g c =
    let i = c.loop-one.one-index in
    let all = c.args.sealed.now in
    let item = c.one-item.result in
    let before = map sealed_content (take i all) in
    let after = map sealed_content (take (i + 1) all) in
    let pushed : after ≡ before ++ sealed_content item ∷ [] =
    ap (map sealed_content) (take_more all i item c.loop-one-test.true) ∙ map-append sealed_content (take i all) (get_or all i item ∷ []) ∙ ap (λ l. before ++ sealed_content l ∷ []) (sym c.one-item.is) in
    (search rules, one_more_written with_sealed before after (sealed_content item) (one_more_sealed before after (sealed_content item) pushed) _ _ _ c.loop-one.invariant.1 c.in_ok-insert_sealed.ensures.writes)
