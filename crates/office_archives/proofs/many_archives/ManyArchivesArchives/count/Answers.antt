use Rattle.std.proofs.{Common.{◌≡◌, length, rules, sym, ◌∙◌}, lemmas.List.length-map}
use Rattle.office_closing.specs.Register.{archive_content}
use Rattle.office_archives.proofs.many_archives.ManyArchivesArchives.count.Goals as goal

-- The register names as many.
pub returns : goal.returns
returns g c list are =
    let archives = c.args.self.now.register.archives.items in
    let many : c.len.result ≡ length archives = search rules in
    many ∙ sym (are.are_named.counted ∙ length-map archives archive_content)
