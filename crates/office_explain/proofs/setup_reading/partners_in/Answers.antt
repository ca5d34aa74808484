use Rattle.std.proofs.Common.{MatchOption, Option, Vec, Global, map, subst}
use Rattle.office_admission.specs.{SetupAccounts.account_contents, declared.setup.Account.Account}
use Rattle.office_explain.{specs.{Entries.entry_content, Said.{ArePartners, AreNoPartners}}, proofs.Givens.all_coded}
use Rattle.office_explain.proofs.setup_reading.partners_in.Goals as goal

pub of-requires : goal.of-requires
of-requires c =
    let entries = map entry_content c.deref.result.now in
    let P : Option (Vec Account Global) → Type 0 = λ answer. MatchOption answer (AreNoPartners entries) (λ list. ArePartners entries (account_contents list.items)) in
    let are : ArePartners entries (account_contents c.in-Some.list.items) = subst P c.in-Some.is c.in_ok-list.ensures in
    all_coded entries (account_contents c.in-Some.list.items) are.said
