use Rattle.std.{specs.Option.option_map, proofs.Common.{sym, ◌∙◌, refl, ap}}
use Rattle.office_explain.{specs.{Entries.entry_content, Said.partner_said}, proofs.Givens.none_said}
use Rattle.office_explain.proofs.files.accounts_of.Goals as goal

pub returns-in_default : goal.returns-in_default
returns-in_default c = none_said entry_content partner_said c.args.entries.now c.loop-entry.entry-index _ _ c.loop-entry-test.true refl (sym c.kind_in.ensures ∙ ap (option_map (λ kind. _)) c.in_default.is)
