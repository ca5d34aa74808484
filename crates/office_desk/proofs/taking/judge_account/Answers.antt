use Rattle.std.{specs.Prelude.nat_lt, proofs.{Common.{◌≡◌, ◌+◌, ◌<◌, cond, Some, None, length, sym, ap, ◌∙◌}, lemmas.List.length-map}}
use Rattle.office_admission.specs.{Accounts.{added_as, by_number, by_own_kind, refused_for}, Setups.setup_content}
use Rattle.office_replies.specs.declared.accounts.AccountFault.TheVariants.{Accounts}
use Rattle.office_desk.proofs.AccountLemmas.{found_by_code, kind_at}
use Rattle.office_desk.proofs.taking.judge_account.Goals as goal

pub returns-in-Some : goal.returns-in-Some
returns-in-Some c =
    let items = c.args.setup.now.partners.items in
    let accounts = (setup_content c.args.setup.now).partners in
    let index = c.in-Some.index in
    let low : index < length items = rw c.in-Some.is at c.index_called.ensures.within in
    let found = found_by_code items c.args.code.now (Some index) (sym c.in-Some.is ∙ c.index_called.ensures.index) in
    rw c.as_slice-accounts.ensures at c.judge_known.ensures ∙ sym (ap (by_number accounts c.args.kind) found ∙ ap (by_own_kind (index + 1) c.args.kind) (kind_at items index _ low))

pub returns-in-None : goal.returns-in-None
returns-in-None c =
    let items = c.args.setup.now.partners.items in
    let accounts = (setup_content c.args.setup.now).partners in
    let found = found_by_code items c.args.code.now None (sym c.in-None.is ∙ c.index_called.ensures.index) in
    let many : length c.as_slice-accounts.result.now ≡ length accounts = ap length c.as_slice-accounts.ensures ∙ sym (length-map items _) in
    c.judge_new.ensures ∙ ap (λ n. cond (nat_lt n 999) (added_as (n + 1)) (refused_for Accounts)) many ∙ sym (ap (by_number accounts c.args.kind) found)
