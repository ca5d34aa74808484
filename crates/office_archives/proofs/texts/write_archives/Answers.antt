use Rattle.std.proofs.Common.{◌≡◌, ◌+◌, ◌<◌, ◌≤◌, [], ◌∷◌, length, drop, map, get_or, Some, refl, rules, sym, ap, subst, ◌∙◌}
use Rattle.std.proofs.lemmas.List.{drop_all, drop_more}
use Rattle.office_closing.specs.Register.{archive_content, register_content}
use Rattle.office_archives.{specs.Texts.{AreAdded, FailsIfNone, IsAdded, OpensOn}, proofs.Journal.added_still}
use Rattle.office_archives.proofs.texts.write_archives.Goals as goal

pub loop-archive-preserved : goal.loop-archive-preserved
loop-archive-preserved g c =
    let i = c.loop-archive.archive-index in
    let all = c.args.register.now.archives.items in
    let item = c.archive-item.result in
    let within : i < length all = search rules in
    let at : get_or all i item ≡ item = search rules in
    let step : drop i all ≡ item ∷ drop (i + 1) all = drop_more all i item within ∙ ap (λ x. x ∷ drop (i + 1) all) at in
    let names = register_content c.args.register.now in
    let opens = OpensOn g.T.Store g.F.Shelf.is_known g.F.Shelf.holds c.args.shelf.now in
    let now_opens = OpensOn g.T.Store g.F.Shelf.is_known g.F.Shelf.holds c.loop-archive.shelf in
    let was = g.W.Write.contents c.loop-archive.writer.inner in
    let is = g.W.Write.contents c.write_archive.new.writer.inner in
    let one : IsAdded g.T.Store now_opens names item.place c.loop-archive.rest was is c.in-Some.left = rw c.in-Some.is at c.in_ok-left.ensures.added in
    let port : FailsIfNone c.loop-archive.writer.failed c.write_archive.new.writer.failed (Some c.in-Some.left) = rw c.in-Some.is at c.in_ok-left.ensures.port in (
      λ list holds. c.write_archive.ensures.shelf list (c.loop-archive.invariant.0 list holds),
      port ∙ c.loop-archive.invariant.1,
      λ new left added. c.loop-archive.invariant.2 new left
          (subst (λ later. AreAdded g.T.Store opens names (map archive_content later) c.loop-archive.rest was new left) (sym step)
          (c.in-Some.left, is, added_still g.T.Store now_opens opens (λ place conn opens_it known list holds. opens_it known list (c.loop-archive.invariant.0 list holds)) names item.place c.loop-archive.rest was is c.in-Some.left one, added)),
    )

pub returns-clause-added : goal.returns-clause-added
returns-clause-added g c =
    let all = c.args.register.now.archives.items in
    let past : length all ≤ c.loop-archive.archive-index = search rules in
    let none : drop c.loop-archive.archive-index all ≡ [] = drop_all c.loop-archive.archive-index all past in
    let told = g.W.Write.contents c.loop-archive.writer.inner in
    c.loop-archive.invariant.2 told c.loop-archive.rest
    (subst (λ later. AreAdded g.T.Store (OpensOn g.T.Store g.F.Shelf.is_known g.F.Shelf.holds c.args.shelf.now) (register_content c.args.register.now) (map archive_content later) c.loop-archive.rest told told c.loop-archive.rest) (sym none) (refl, refl))
