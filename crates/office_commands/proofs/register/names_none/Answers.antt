use Rattle.std.proofs.{Common.{◌≡◌, ◌==◌, length, rules, sym, ap, ◌∙◌}, lemmas.List.length-map}
use Rattle.office_closing.specs.Register.{archive_content}
use Rattle.office_commands.proofs.register.names_none.Goals as goal

pub returns : goal.returns
returns c =
    let archives = c.args.register.now.archives.items in
    let many : c.len.result ≡ length archives = search rules in
    ap (λ n. n == 0) (many ∙ sym (length-map archives archive_content))
