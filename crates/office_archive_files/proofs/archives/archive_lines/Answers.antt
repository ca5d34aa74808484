use Rattle.std.proofs.{Common.{◌≡◌, ◌+◌, ◌<◌, ◌∷◌, length, drop, map, get_or, string_bytes, rules, sym, ap, subst, ◌∙◌}, lemmas.List.drop_more}
use Rattle.office_closing.specs.Register.{archive_content, register_content}
use Rattle.office_archive_files.specs.Listing.{FollowIn}
use Rattle.office_archive_files.proofs.archives.archive_lines.Goals as goal

pub loop-archive-preserved : goal.loop-archive-preserved
loop-archive-preserved g c = λ text follows.
    let follow = FollowIn (g.F.Finds.is_found c.args.shelf.now (register_content c.args.register.now)) in
    let i = c.loop-archive.archive-index in
    let all = c.args.register.now.archives.items in
    let item = c.archive-item.result in
    let within : i < length all = search rules in
    let at : get_or all i item ≡ item = search rules in
    let step : drop i all ≡ item ∷ drop (i + 1) all = drop_more all i item within ∙ ap (λ x. x ∷ drop (i + 1) all) at in
    c.loop-archive.invariant text (subst (λ left. follow (map archive_content left) (string_bytes c.loop-archive.lines) text) (sym step)
    (c.in_ok-found.found, c.in_ok-found.ensures, subst (λ before. follow (map archive_content (drop (i + 1) all)) before text) c.in_ok-push_archive.ensures follows))
