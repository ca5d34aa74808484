use Rattle.std.proofs.Common.{false, sym, ◌∙◌}
use Rattle.edi_syntax.{specs.Characters.is_printable, proofs.AdviceLemmas.value_all}
use Rattle.edi_syntax.proofs.component.Component.is_printable.Goals as goal

pub returns-then-are_printable : goal.returns-then-are_printable
returns-then-are_printable c =
    let printable = c.if-are_printable.true in
    printable ∙ sym (value_all is_printable c.args.self.now.service false c.args.self.now.text.now (sym c.are_printable.ensures ∙ printable))
