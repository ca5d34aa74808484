use Rattle.std.proofs.Common.{sym, subst, ◌∙◌}
use Rattle.office_closing.specs.Register.{register_content}
use Rattle.office_commands.proofs.OpenLemmas.{empty_if, none_named, some_if}
use Rattle.office_commands.proofs.offices.archives_of.Goals as goal

-- It names none.
pub returns-then-names_none-clause-these : goal.returns-then-names_none-clause-these
returns-then-names_none-clause-these g c list hold named =
    let names = register_content c.args.register in
    let none = empty_if names.archives (sym c.names_none.ensures ∙ c.if-names_none.true) in
    subst (λ l. g.A.Archives.are l c.none.result) (sym (none_named names list none named)) c.none.ensures

-- It names some.
pub returns-clause-none : goal.returns-clause-none
returns-clause-none g c none = absurd (some_if (register_content c.args.register).archives (sym c.names_none.ensures ∙ c.if-names_none.false) none)
