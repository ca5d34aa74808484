use Rattle.std.proofs.Common.{◌≡◌, map, take, Some}
use Rattle.office_admission.specs.Setups.{account_contents}
use Rattle.office_explain.specs.{Entries.entry_content, Said.partner_said}
use Rattle.office_explain.proofs.files.accounts_of.Given as goal

abbrev pub invariant-loop-entry : goal.invariant-loop-entry
invariant-loop-entry l = map partner_said (map entry_content (take l.entry-index l.entries)) ≡ map Some (account_contents l.accounts.items)
