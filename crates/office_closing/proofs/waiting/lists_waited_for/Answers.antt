use Rattle.std.{specs.{Prelude.IsPermutation, List.flat_map}, proofs.Common.{◌+◌, ◌≤◌, List, length, map, take, get_or, sym, subst, arith}}
use Rattle.std.proofs.{lemmas.List.take_all, lemmas.Result.err_from_is_err_and}
use Rattle.sqlite.specs.Held.{state}
use Rattle.office_rows.specs.{Rows.Partner, Stored.HasRows}
use Rattle.office_admission.specs.Setups.{setup_content}
use Rattle.office_tables.{specs.DeliveryReading.IsSame, proofs.MadeLemmas.clean_first}
use Rattle.office_parts.specs.Named.{named_list_content}
use Rattle.office_closing.proofs.FileLemmas.{fault_of_more}
use Rattle.office_closing.proofs.WaitingLemmas.{accounts_by_id, account_at, has_waiting, as_many, account_lists, lists_more, one_more, waited_for}
use Rattle.office_closing.proofs.waiting.lists_waited_for.Goals as goal

pub loop-index-preserved : goal.loop-index-preserved
loop-index-preserved g c =
    let before = c.loop-index.invariant in
    let call = c.in_ok-more.ensures in
    let nexts = c.args.nexts.now in
    let i = c.loop-index.index in
    record {
      reads = one_more tt before.reads call.reads;
      named = λ clean rows by_id has once are.
          let earlier = clean_first call.reads clean in
          let same : IsSame (state g.S.Store c.args.conn.now) (state g.S.Store c.loop-index.conn) = before.reads.same earlier in
          let one = account_at rows nexts by_id i are c.loop-index-test.true in
          lists_more (setup_content c.args.setup.now) rows (take i by_id) (take (i + 1) by_id) one.account (i + 1) (get_or nexts i 0)
          (map named_list_content c.loop-index.lists.items) (map named_list_content c.in_ok-more.more.items) (map named_list_content c.append.new.lists.items)
          one.more one.has_id one.has_next (before.named earlier rows by_id has once are)
          (call.named clean rows (subst (HasRows rows) (sym same.now) has) once)
          c.in_ok-append.ensures;
    }

pub returns-clause-named : goal.returns-clause-named
returns-clause-named g c clean rows has have =
    let content = setup_content c.args.setup.now in
    let nexts = c.args.nexts.now in
    let lists = map named_list_content c.loop-index.lists.items in
    let by_id : List Partner = have.are.0 in
    let are = accounts_by_id rows nexts have.accounts have.are in
    let all : length by_id ≤ c.loop-index.index = omega (arith, as_many rows nexts by_id are, c.loop-index-test.false) in
    waited_for content rows nexts by_id lists are
    (subst (λ l. IsPermutation (flat_map (account_lists content rows) l) lists) (take_all c.loop-index.index by_id all) (c.loop-index.invariant.named clean rows by_id has have.kept_once are))

pub returns-in_err-more-clause-fault : goal.returns-in_err-more-clause-fault
returns-in_err-more-clause-fault g c clean =
    let p = err_from_is_err_and c.from_residual.result c.from_residual.ensures.1 in
    let call = c.in_err-more.ensures in
    let nexts = c.args.nexts.now in
    let i = c.loop-index.index in
    let earlier = clean_first call.reads clean in
    let same : IsSame (state g.S.Store c.args.conn.now) (state g.S.Store c.loop-index.conn) = c.loop-index.invariant.reads.same earlier in
    rw (p.1, p.2) (λ rows has have.
    let are = accounts_by_id rows nexts have.accounts have.are in
    let one = account_at rows nexts have.are.0 i are c.loop-index-test.true in
    fault_of_more (has_waiting rows nexts have.are.0 are i (get_or nexts i 0) one) _ (call.fault clean rows (subst (HasRows rows) (sym same.now) has)))
