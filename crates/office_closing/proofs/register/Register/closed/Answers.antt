use Rattle.std.{specs.List.AllByRecursion, proofs.Common.{subst, sym}}
use Rattle.office_closing.{specs.{Register.register_content, Sound.IsOfAccount}, proofs.Inserted.sound_accounts}
use Rattle.office_closing.proofs.register.Register.closed.Goals as goal

pub last_numbers-requires : goal.last_numbers-requires
last_numbers-requires c = subst (AllByRecursion IsOfAccount) (sym c.deref.ensures.value) (sound_accounts (register_content c.args.self.now) c.requires)
