use Rattle.std.proofs.Common.{ap, ◌∙◌}
use Rattle.office_closing.specs.Register.{is_newer_than, register_content}
use Rattle.office_commands.proofs.loaded.Loaded.is_older.Goals as goal

pub returns : goal.returns
returns c =
    let names = register_content c.args.self.now.register in
    c.is_newer_than.ensures ∙ ap (λ nexts. is_newer_than nexts names) c.deref.ensures.value
