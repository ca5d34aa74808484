use Rattle.std.{specs.Str.bytes_eq, proofs.Common.{◌≡◌, ◌-◌, ◌+◌, ap, sym, ◌∙◌, drop, arith, string_bytes, Some, cond}}
use Rattle.office_admission.specs.{declared.setup.Account.Account, SetupAccounts.{index_in, partner_codes, partner_from}}
use Rattle.office_admission.proofs.Named.{found_after, one_earlier}
use Rattle.office_admission.proofs.setup.indexes_of.Goals as goal

pub loop-index-preserved : goal.loop-index-preserved
loop-index-preserved c =
    let at = c.loop-index.index - 1 in
    let here : Account = c.index-accounts-index.result in
    let further : c.loop-index.index ≡ at + 1 = omega (arith, c.loop-index-test.true) in
    let key : c.in_ok-code.code.items ≡ string_bytes here.code =
    c.in_ok-code.ensures.items_if_clones_equal (λ x y is. is) ∙ c.as_bytes.ensures.value
    ∙ sym (ap (λ (account : Account). string_bytes account.code) c.index-accounts-index.is) in
    record {
      within = omega (arith, c.loop-index.invariant.within);
      later = λ code.
          (let after = found_after c.loop-index.indexes c.insert.new.self c.in_ok-code.code (Some at) c.in_ok-insert.ensures.updates code in
          let behind : index_in c.loop-index.indexes code ≡ partner_from (at + 1) code (partner_codes (drop (at + 1) c.args.accounts.now)) =
          c.loop-index.invariant.later code ∙ ap (λ n. partner_from n code (partner_codes (drop n c.args.accounts.now))) further in
          after ∙ ap (λ k. cond (bytes_eq code k) (Some at) (index_in c.loop-index.indexes code)) key
          ∙ ap (λ o. cond (bytes_eq code (string_bytes here.code)) (Some at) o) behind
          ∙ one_earlier c.args.accounts.now at here (omega (arith, c.loop-index.invariant.within, c.loop-index-test.true)) c.index-accounts-index.is code);
    }
