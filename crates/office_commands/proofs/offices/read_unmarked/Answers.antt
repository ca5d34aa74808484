use Rattle.std.{specs.declared.alloc.Global.Global, proofs.Common.{◌≡◌, true, string_bytes, String, Option, None, Some, is_some, option_map, sym, ap, ◌∙◌}}
use Rattle.partner_core.proofs.Orders.{none_of}
use Rattle.office_closing.specs.Register.{register_content}
use Rattle.office_commands.proofs.offices.read_unmarked.Goals as goal

some_mark : (o : Option (String Global)) → is_some o ≡ true → option_map string_bytes o ≡ None → ⊥
some_mark None is none = absurd cc
some_mark (Some mark) is none = absurd cc

pub returns-clause-unmarked : goal.returns-clause-unmarked
returns-clause-unmarked c = ap (option_map string_bytes) (none_of c.in_ok-register.register.closed_for (sym c.is_some.ensures ∙ c.if-is_some.false))

-- It has a mark.
pub returns-then-is_some-clause-refused : goal.returns-then-is_some-clause-refused
returns-then-is_some-clause-refused c =
    (register_content c.in_ok-register.register, c.in_ok-register.ensures.sound, some_mark c.in_ok-register.register.closed_for (sym c.is_some.ensures ∙ c.if-is_some.true))
