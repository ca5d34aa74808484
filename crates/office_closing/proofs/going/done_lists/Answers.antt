use Rattle.std.proofs.{Common.{◌≡◌, ◌+◌, inl, inr, [], ◌∷◌, ◌++◌, map, take, sym, ap, subst, ◌∙◌}, lemmas.List.{map_more, take_all}}
use Rattle.office_parts.specs.Named.{named_list_content}
use Rattle.office_closing.specs.{Lists.list_content, Found.list_on, Going.IsAmong}
use Rattle.office_closing.proofs.FoundLemmas.{AreFoundOf, content_in, found_all, found_already, found_before, found_step}
use Rattle.office_closing.proofs.going.done_lists.Goals.{then-not-is_looked_at+in_ok-list+in_ok-push_if_any, else-not-is_looked_at}
use Rattle.office_rows.specs.Rows.{listing_content}
use Rattle.office_closing.proofs.going.done_lists.Goals as goal

pub loop-index-preserved : goal.loop-index-preserved
loop-index-preserved c =
    let lines = c.args.lines.now in
    let all = map listing_content lines in
    let named = map named_list_content c.args.named.now in
    let archive = c.args.archive in
    let i = c.loop-index.index in
    let line = c.index-lines-index.result in
    let seen = map listing_content (take i lines) in
    let found = map list_content c.loop-index.found.items in
    let more : map listing_content (take (i + 1) lines) ≡ seen ++ listing_content line ∷ [] =
    map_more listing_content lines i line c.loop-index-test.true ∙ ap (λ l. seen ++ listing_content l ∷ []) (sym c.index-lines-index.is) in
    subst (λ l. AreFoundOf all named archive l (map list_content c.if-not-is_looked_at.found.items)) (sym more)
    (elim c.if-not-is_looked_at.branch [
      | then-not-is_looked_at+in_ok-list+in_ok-push_if_any w ↦
          found_step all named archive seen (listing_content line) found (map list_content c.if-not-is_looked_at.found.items) w.in_ok-list.list
          (content_in lines i line c.loop-index-test.true c.index-lines-index.is)
          w.in_ok-list.ensures.found w.in_ok-list.ensures.none
          (ap (λ v. map list_content v.items) w.found-is ∙ w.in_ok-push_if_any.ensures)
          (λ among. c.is_looked_at.ensures.no w.if-not-is_looked_at.true (subst (λ l. IsAmong (map list_content l) (list_on (listing_content line))) (sym c.deref.ensures.value) among))
          c.loop-index.invariant
      | else-not-is_looked_at w ↦
          subst (AreFoundOf all named archive (seen ++ listing_content line ∷ [])) (sym (ap (λ v. map list_content v.items) w.found-is))
          (elim (c.is_looked_at.ensures.yes w.if-not-is_looked_at.false) [
            | inl before ↦ found_before all named archive seen (listing_content line) found before c.loop-index.invariant
            | inr among ↦ found_already all named archive seen (listing_content line) found (subst (λ l. IsAmong (map list_content l) (list_on (listing_content line))) c.deref.ensures.value among) c.loop-index.invariant
          ])
    ])

pub returns : goal.returns
returns c =
    let lines = c.args.lines.now in
    let all = map listing_content lines in
    let named = map named_list_content c.args.named.now in
    let found = map list_content c.loop-index.found.items in
    found_all all named c.args.archive found
    (subst (λ l. AreFoundOf all named c.args.archive (map listing_content l) found) (take_all c.loop-index.index lines c.loop-index-test.false) c.loop-index.invariant)
