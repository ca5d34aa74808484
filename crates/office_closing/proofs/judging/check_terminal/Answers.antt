use Rattle.std.proofs.Common.{refl, sym, ap, ◌∙◌}
use Rattle.office_closing.specs.Register.{is_of_terminal, register_content}
use Rattle.office_closing.proofs.judging.check_terminal.Goals as goal

pub returns-then-is_of_terminal-clause-ok : goal.returns-then-is_of_terminal-clause-ok
returns-then-is_of_terminal-clause-ok c =
    ap (λ code. is_of_terminal code (register_content c.args.told.now)) (sym c.as_str.ensures.value) ∙ sym c.is_of_terminal.ensures ∙ c.if-is_of_terminal.true

pub returns-clause-err : goal.returns-clause-err
returns-clause-err c =
    (refl, (refl, ap (λ code. is_of_terminal code (register_content c.args.told.now)) (sym c.as_str.ensures.value) ∙ sym c.is_of_terminal.ensures ∙ c.if-is_of_terminal.false))
