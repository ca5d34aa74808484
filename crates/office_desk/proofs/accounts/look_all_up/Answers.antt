use Rattle.std.proofs.{Common.{◌+◌, List, [], Ok, map, length, refl, sym, ap, subst, ◌∙◌, arith}, lemmas.List.take_all, lemmas.Result.err_from_is_err_and}
use Rattle.sqlite.specs.{Held.state, State.HasCleanDisk}
use Rattle.office_rows.specs.{Rows.Rows, Stored.HasRows}
use Rattle.office_admission.specs.{Setups.account_contents, declared.setup.Account.Account}
use Rattle.office_tables.{specs.DeliveryReading.IsSame, proofs.{WritesLemmas.of_store_weaker, MadeLemmas.{clean_first, reads_on, reads_stopped}}}
use Rattle.office_tables.proofs.WriteLemmas.{nothing_read, one_read, only_on, only_then}
use Rattle.office_reports.specs.{Partners.partner_content, declared.partners.Partner.Partner}
use Rattle.office_desk.{specs.{Causes.{LacksNumbers, LacksSome}, Reports.{AreLookedUp, IsLookedUp}}, proofs.PageLemmas.{said, looked_up_more}}
use Rattle.office_desk.proofs.accounts.look_all_up.Goals as goal

pub loop-account-init : goal.loop-account-init
loop-account-init g c =
    let old = state g.S.Store c.args.conn.now in
    record {
      id = refl;
      reads = nothing_read old (Ok 0);
      are = λ rows clean has. subst (λ (l : List Partner). AreLookedUp rows 1 [] (map partner_content l)) (sym c.new-partners.ensures.items) tt;
    }

pub returns-in_err-partner-clause-reads : goal.returns-in_err-partner-clause-reads
returns-in_err-partner-clause-reads g c = only_then c.loop-account.invariant.reads (one_read (reads_stopped _ c.from_residual.ensures.0 c.look_up.ensures.reads))

pub returns-in_err-append-clause-reads : goal.returns-in_err-append-clause-reads
returns-in_err-append-clause-reads g c = only_then c.loop-account.invariant.reads (one_read (reads_on _ c.in_ok-partner.ensures.reads))

pub returns-clause-reads : goal.returns-clause-reads
returns-clause-reads g c = only_on _ c.loop-account.invariant.reads

pub loop-account-preserved : goal.loop-account-preserved
loop-account-preserved g c =
    let old = state g.S.Store c.args.conn.now in
    let mid = state g.S.Store c.loop-account.conn in
    let new = state g.S.Store c.look_up.new.conn in
    let before = c.loop-account.invariant in
    let i = c.loop-account.account-index in
    let account = c.account-item.result in
    let partner = c.in_ok-partner.partner in
    record {
      id = ap (λ n. n + 1) before.id;
      reads = only_then before.reads (one_read (reads_on _ c.in_ok-partner.ensures.reads));
      are = λ rows clean has.
          let was : HasCleanDisk mid = clean_first c.look_up.ensures.reads clean in
          let first : IsSame old mid = before.reads.same was in
          let one = c.in_ok-partner.ensures.is clean rows (subst (HasRows rows) (sym first.now) has) in
          looked_up_more rows c.args.accounts.now i account c.loop-account.partners.items c.append.new.partners.items partner c.loop-account-test.true c.account-item.is c.in_ok-append.ensures
          (before.are rows was has) (subst (λ n. IsLookedUp rows (n + 1) (said account) (partner_content partner)) before.id one);
    }

pub returns-clause-are : goal.returns-clause-are
returns-clause-are g c clean rows has =
    subst (λ (accounts : List Account). AreLookedUp rows 1 (account_contents accounts) (map partner_content c.loop-account.partners.items))
    (take_all c.loop-account.account-index c.args.accounts.now (omega arith)) (c.loop-account.invariant.are rows clean has)

-- ---- why one can't be looked up

pub returns-in_err-partner-clause-fault : goal.returns-in_err-partner-clause-fault
returns-in_err-partner-clause-fault g c clean =
    let old = state g.S.Store c.args.conn.now in
    let mid = state g.S.Store c.loop-account.conn in
    let p = err_from_is_err_and c.from_residual.result c.from_residual.ensures.1 in
    let before = c.loop-account.invariant in
    let same : IsSame old mid = before.reads.same (clean_first c.look_up.ensures.reads clean) in
    let some : (rows : Rows) → LacksNumbers rows (c.loop-account.id + 1) → LacksSome rows (length c.args.accounts.now) =
    λ rows lacks. (c.loop-account.id + 1, omega arith, omega (arith, before.id, c.loop-account-test.true), lacks) in
    rw (p.1, p.2) (λ rows has.
    of_store_weaker _ _ (some rows) _ (c.in_err-partner.ensures.fault clean rows (subst (HasRows rows) (sym same.now) has)))
