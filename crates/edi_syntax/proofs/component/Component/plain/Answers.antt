-- A value is its text, where no release character stands.
use Rattle.std.proofs.Common.{sym, ◌∙◌}
use Rattle.edi_syntax.proofs.AdviceLemmas.{plain_value}
use Rattle.edi_syntax.proofs.component.Component.plain.Goals as goal

pub returns-else-has_release-clause-some : goal.returns-else-has_release-clause-some
returns-else-has_release-clause-some c =
    sym (plain_value c.args.self.now.service c.args.self.now.text.now (sym c.has_release.ensures ∙ c.if-has_release.false))
