use Rattle.std.proofs.Common.{◌≡◌, ◌-◌, option_map, string_bytes, rules, ap, ◌∙◌}
use Rattle.office_archives.{specs.Telling.shown_beside, proofs.OfArchive.container_as}
use Rattle.office_archives.proofs.of_archive.tell_container.Goals as goal

pub returns-clause-told : goal.returns-clause-told
returns-clause-told g c = λ whole content list are.
    let own = option_map string_bytes c.in_ok-told.told in
    let count : c.saturating_sub-before.result ≡ c.args.place - 1 = search rules in
    container_as content list c.args.place c.args.query.now own (option_map string_bytes c.in_ok-with_archives.field-0) c.requires (c.in_ok-told.ensures.report whole list are)
    (λ what asks is. c.in_ok-with_archives.ensures what asks is ∙ ap (λ n. shown_beside n c.args.query.now.view what) count)
