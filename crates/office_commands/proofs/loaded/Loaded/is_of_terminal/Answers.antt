use Rattle.std.proofs.Common.{ap, ◌∙◌}
use Rattle.office_closing.specs.Register.{is_of_terminal, register_content}
use Rattle.office_commands.proofs.loaded.Loaded.is_of_terminal.Goals as goal

pub returns : goal.returns
returns c =
    let names = register_content c.args.self.now.register in
    c.is_of_terminal.ensures ∙ ap (λ code. is_of_terminal code names) c.as_str.ensures.value
