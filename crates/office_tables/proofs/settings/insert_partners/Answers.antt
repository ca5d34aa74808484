use Rattle.std.proofs.Common.{◌≡◌, sym, ap, ◌∙◌, ◌+◌, Ok, refl, append_assoc, arith, rules, take, [], ◌∷◌, ◌++◌, string_bytes, length, length-take}
use Rattle.std.proofs.lemmas.List.{append-nil, length-map, map-append, take_more}
use Rattle.sqlite.specs.Held.{state}
use Rattle.office_admission.specs.Setups.{account_contents}
use Rattle.office_rows.{specs.{Rows.Partner, Opening.{partners_from, with_partners}}, proofs.Creating.partners_then}
use Rattle.office_tables.{specs.Writes.Writes, proofs.WritesLemmas.{none_written, one_more_written}}
use Rattle.office_tables.proofs.settings.insert_partners.Goals as goal

pub loop-account-init : goal.loop-account-init
loop-account-init g c = record {
  same = refl;
  id = refl;
  writes = none_written (with_partners []) (state g.S.Store c.args.tx.now.conn.now) (λ rows. ap (λ l. record rows { partners = l }) (append-nil rows.partners));
}

pub loop-account-preserved : goal.loop-account-preserved
loop-account-preserved g c =
    let mid = state g.S.Store c.loop-account.tx.conn.now in
    let new = state g.S.Store c.add_partner.new.tx.conn.now in
    let i = c.loop-account.account-index in
    let all = c.args.accounts.now in
    let item = c.account-item.result in
    let one : Partner = record { id = c.loop-account.id; code = string_bytes item.code; kind = item.kind; next = 1 } in
    let taken : take (i + 1) all ≡ take i all ++ item ∷ [] = take_more all i item c.loop-account-test.true ∙ ap (λ x. take i all ++ x ∷ []) (sym c.account-item.is) in
    let contents : account_contents (take (i + 1) all) ≡ account_contents (take i all) ++ (string_bytes item.code, item.kind) ∷ [] = ap account_contents taken ∙ map-append _ (take i all) (item ∷ []) in
    let count : 1 + length (account_contents (take i all)) ≡ c.loop-account.id = simp (length-map, length-take) (omega (arith, c.loop-account.invariant.id, c.loop-account-test.true)) in
    let more : partners_from 1 (account_contents (take (i + 1) all)) ≡ partners_from 1 (account_contents (take i all)) ++ one ∷ [] =
    ap (partners_from 1) contents ∙ rw count at (partners_then 1 (account_contents (take i all)) (string_bytes item.code, item.kind)) in
    let added : Writes {T = Unit {0}} (with_partners (one ∷ [])) mid new (Ok tt) = rw c.as_str.ensures.value at c.in_ok-add_partner.ensures.writes in
    record {
      same = search rules;
      id = omega (arith, c.loop-account.invariant.id);
      writes = one_more_written with_partners (λ done more rows. ap (λ l. record rows { partners = l }) (append_assoc rows.partners done more)) _ _ one more _ _ _ c.loop-account.invariant.writes added;
    }
