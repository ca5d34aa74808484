use Rattle.std.{specs.List.list_any, proofs.Common.{ℕ, Option, sym, ap, ◌∙◌}}
use Rattle.edi_syntax.{specs.Characters.is_release, proofs.AdviceLemmas.releases_one}
use Rattle.edi_syntax.proofs.component.has_release.Goals as goal

pub returns-in-Some : goal.returns-in-Some
returns-in-Some c =
    c.has_byte.ensures ∙ sym (releases_one c.in-Some.release c.args.text.now)
    ∙ ap (λ (o : Option ℕ). list_any (is_release o) c.args.text.now) (sym c.in-Some.is)
