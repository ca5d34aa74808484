use Rattle.std.proofs.Common.{◌≡◌, ◌-◌, ◌≤◌, arith, length, take, option_map, string_bytes, rules, subst}
use Rattle.office_archives.{specs.Telling.{SaysIfAway, archives_with_lists}, proofs.OfArchive.calls_as}
use Rattle.office_archives.proofs.of_archive.tell_calls.Goals as goal

pub returns-clause-told : goal.returns-clause-told
returns-clause-told g c = λ whole content list are place.
    let own = option_map string_bytes c.in_ok-told.told in
    let before : c.saturating_sub.result ≡ c.args.place - 1 = search rules in
    let low : c.saturating_sub.result ≤ length list = let within = place.1 in omega (arith, before, within) in
    let there = c.archives_with_lists-count.ensures list (c.report.ensures.same list are) low in
    calls_as content list c.args.place c.archives_with_lists-count.result c.args.query.now own (option_map string_bytes c.in_ok-with_archives.field-0) there.0 c.requires
    (subst (λ n. SaysIfAway (take n list) there.0) before there.1)
    (subst (λ n. c.archives_with_lists-count.result ≡ archives_with_lists (take n list) there.0) before there.2)
    (c.in_ok-told.ensures.report whole list are) c.in_ok-with_archives.ensures
