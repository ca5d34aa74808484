use Rattle.std.proofs.{Common.{Err, Ok, map, subst}, lemmas.Result.err_from_is_err_and}
use Rattle.sqlite.specs.Held.{state}
use Rattle.office_parts.specs.{OwnLists.rows_without_lists, LeftOver.rows_without}
use Rattle.office_closing.specs.{Lists.list_content, Clearing.{Clears, IsWithoutSome, IsWithoutSomeLists, IsWithoutSomeVisits}, Closes.closing_content}
use Rattle.office_closing.{specs.Deleting.{all_but, goes, is_one_of, without_visits}, proofs.FileLemmas.{cleared_all, cleared_more, cleared_some}}
use Rattle.office_closing.proofs.closing.clear_all.Goals as goal

pub returns-in_err-clear : goal.returns-in_err-clear
returns-in_err-clear g c =
    let p = err_from_is_err_and c.from_residual.result c.from_residual.ensures.1 in
    rw (p.1, p.2) (record {
      clears = cleared_some (closing_content c.args.plan.now) (state g.S.Store c.args.conn.now) (state g.S.Store c.clear.new.conn) c.in_err-clear.field-0.0
          (subst (λ l. Clears {T = Unit {0}} (rows_without (goes l)) (IsWithoutSome (goes l)) (state g.S.Store c.args.conn.now) (state g.S.Store c.clear.new.conn) (Err c.in_err-clear.field-0.0)) c.deref.ensures.value c.in_err-clear.ensures.clears);
    })

pub returns-in_err-clear_visits : goal.returns-in_err-clear_visits
returns-in_err-clear_visits g c =
    let p = err_from_is_err_and c.from_residual-in_err-clear_visits.result c.from_residual-in_err-clear_visits.ensures.1 in
    rw (p.1, p.2) (record {
      clears = cleared_more (closing_content c.args.plan.now) (state g.S.Store c.args.conn.now) (state g.S.Store c.clear.new.conn) (state g.S.Store c.clear_visits.new.conn) tt c.in_err-clear_visits.field-0.0
          (subst (λ l. Clears {T = Unit {0}} (rows_without (goes l)) (IsWithoutSome (goes l)) (state g.S.Store c.args.conn.now) (state g.S.Store c.clear.new.conn) (Ok tt)) c.deref.ensures.value c.in_ok-clear.ensures.clears)
          (subst (λ l. Clears {T = Unit {0}} (without_visits l) (IsWithoutSomeVisits (all_but l)) (state g.S.Store c.clear.new.conn) (state g.S.Store c.clear_visits.new.conn) (Err c.in_err-clear_visits.field-0.0)) c.deref-2.ensures.value c.in_err-clear_visits.ensures.clears);
    })

pub returns : goal.returns
returns g c = record {
  clears = cleared_all (closing_content c.args.plan.now) (state g.S.Store c.args.conn.now) (state g.S.Store c.clear.new.conn) (state g.S.Store c.clear_visits.new.conn) (state g.S.Store c.clear_lists.new.conn) tt tt c.clear_lists.result
      (subst (λ l. Clears {T = Unit {0}} (rows_without (goes l)) (IsWithoutSome (goes l)) (state g.S.Store c.args.conn.now) (state g.S.Store c.clear.new.conn) (Ok tt)) c.deref.ensures.value c.in_ok-clear.ensures.clears)
      (subst (λ l. Clears {T = Unit {0}} (without_visits l) (IsWithoutSomeVisits (all_but l)) (state g.S.Store c.clear.new.conn) (state g.S.Store c.clear_visits.new.conn) (Ok tt)) c.deref-2.ensures.value c.in_ok-clear_visits.ensures.clears)
      (subst (λ l. Clears (rows_without_lists (is_one_of (map list_content l))) (IsWithoutSomeLists (is_one_of (map list_content l))) (state g.S.Store c.clear_visits.new.conn) (state g.S.Store c.clear_lists.new.conn) c.clear_lists.result) c.deref-3.ensures.value c.clear_lists.ensures.clears);
}
