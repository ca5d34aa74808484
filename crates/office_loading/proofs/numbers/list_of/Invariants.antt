use Rattle.std.proofs.Common.{◌≡◌}
use Rattle.office_admission.specs.Setups.{account_contents}
use Rattle.office_loading.specs.Accounts.{accounts_in}
use Rattle.office_loading.proofs.numbers.list_of.Given as goal

abbrev pub invariant-loop-partner : goal.invariant-loop-partner
invariant-loop-partner l = account_contents l.accounts.items ≡ accounts_in l.yielded
