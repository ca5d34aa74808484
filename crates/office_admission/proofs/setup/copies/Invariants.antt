use Rattle.std.proofs.Common.{◌≡◌, take}
use Rattle.office_admission.specs.SetupAccounts.{account_contents}
use Rattle.office_admission.proofs.setup.copies.Given as goal

abbrev pub invariant-loop-account : goal.invariant-loop-account
invariant-loop-account l = account_contents l.copies.items ≡ account_contents (take l.account-index l.accounts)
