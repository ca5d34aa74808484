use Rattle.std.proofs.Common.{◌≡◌, take}
use Rattle.office_admission.specs.SetupAccounts.{account_contents}
use Rattle.office_closing.proofs.planning.are_first_accounts.Given as goal

abbrev pub invariant-loop-index : goal.invariant-loop-index
invariant-loop-index l = account_contents (take l.index l.accounts) ≡ account_contents (take l.index l.others)
