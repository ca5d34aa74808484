use Rattle.std.{specs.Prelude.Contains, proofs.Common.{◌≡◌, ◌+◌, ◌++◌, [], ◌∷◌, true, false, map, take, sym, ap, subst, ◌∙◌, arith, rules}}
use Rattle.std.proofs.lemmas.List.{map_more, take_all}
use Rattle.office_closing.{specs.{Lists.list_content, Planning.AreInBoth}, proofs.{FileLemmas.{both_passed, both_pushed}, NumberLemmas.content_pushed}}
use Rattle.office_closing.proofs.lists.lists_in_both.Goals.{else-is_among, then-is_among+in_ok-copied_list+in_ok-append}
use Rattle.office_closing.proofs.lists.lists_in_both.Goals as goal

pub loop-list-preserved : goal.loop-list-preserved
loop-list-preserved c =
    let i = c.loop-list.list-index in
    let lists = c.args.lists.now in
    let item = c.list-item.result in
    let ones = map list_content (take i lists) in
    let others = map list_content c.args.others.now in
    let both = map list_content c.loop-list.both.items in
    let one = list_content item in
    let seen : map list_content (take (i + 1) lists) ≡ ones ++ one ∷ [] = map_more list_content lists i item c.loop-list-test.true ∙ ap (λ l. ones ++ list_content l ∷ []) (sym c.list-item.is) in
    elim c.if-is_among.branch [
      | then-is_among+in_ok-copied_list+in_ok-append w ↦
          let after : map list_content c.if-is_among.both.items ≡ both ++ one ∷ [] =
          ap (λ b. map list_content b.items) w.both-is ∙ content_pushed c.loop-list.both.items _ _ w.in_ok-append.ensures ∙ ap (λ x. both ++ x ∷ []) w.in_ok-copied_list.ensures in
          subst (λ l. AreInBoth l others (map list_content c.if-is_among.both.items)) (sym seen)
          (subst (λ b. AreInBoth (ones ++ one ∷ []) others b) (sym after) (both_pushed ones others both one c.loop-list.invariant (c.is_among.ensures.0 w.if-is_among.true)))
      | else-is_among w ↦
          let same : map list_content c.if-is_among.both.items ≡ both = ap (λ b. map list_content b.items) w.both-is in
          let none : ¬ Contains others one = λ inside. (let yes : c.is_among.result ≡ true = c.is_among.ensures.1 inside in let no : c.is_among.result ≡ false = search rules in cc) in
          subst (λ l. AreInBoth l others (map list_content c.if-is_among.both.items)) (sym seen)
          (subst (λ b. AreInBoth (ones ++ one ∷ []) others b) (sym same) (both_passed ones others both one c.loop-list.invariant none))
    ]

pub returns : goal.returns
returns c =
    subst (λ l. AreInBoth (map list_content l) (map list_content c.args.others.now) (map list_content c.loop-list.both.items)) (take_all c.loop-list.list-index c.args.lists.now (omega (arith, c.loop-list-test.false))) c.loop-list.invariant
