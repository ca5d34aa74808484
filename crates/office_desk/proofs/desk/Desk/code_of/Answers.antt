use Rattle.std.proofs.{Common.{◌≡◌, ◌-◌, get_or, string_bytes, sym, ◌∙◌, arith}, lemmas.Option.slice_get-get_or}
use Rattle.office_desk.proofs.OwnNumbers.{code_at}
use Rattle.office_desk.proofs.desk.Desk.code_of.Goals as goal

pub returns : goal.returns
returns g c =
    let partner = c.args.partner in
    let accounts = c.args.self.now.setup.partners.items in
    let account = get_or accounts (partner - 1) c.index-accounts-place.result in
    let found = slice_get-get_or accounts (partner - 1) c.index-accounts-place.result (omega (arith, c.requires.from_one, c.requires.known)) in
    let named : c.as_str.result.now ≡ string_bytes account.code = rw c.as_slice-accounts.ensures at c.as_str.ensures.value in
    named ∙ sym (code_at accounts partner account c.requires.from_one found)
