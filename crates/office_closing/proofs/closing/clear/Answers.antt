use Rattle.std.proofs.{Common.{◌+◌, [], not, take, drop, ap, sym, refl, ◌∙◌}, lemmas.List.{take_more, take-append-drop}, lemmas.Result.err_from_is_err_and}
use Rattle.office_parts.specs.LeftOver.{rows_without}
use Rattle.office_closing.{specs.{Clearing.IsWithoutSome, Deleting.goes}, proofs.ClearLemmas.clears_none}
use Rattle.office_closing.proofs.NumberLemmas.{more_cleared, more_failed, deleted_none}
use Rattle.office_closing.proofs.closing.clear.Goals as goal

pub loop-numbers-init : goal.loop-numbers-init
loop-numbers-init g c =
    let old = c.args.conn.now in
    clears_none (IsWithoutSome (goes c.args.closing.now)) g.S.Store (rows_without (goes [])) old c.requires.idle (c.is_autocommit-is_idle.ensures.settled (c.is_autocommit-is_idle.ensures.value ∙ ap not c.requires.idle))
    (λ is_open db left. g.met.S.Store.settled old.store db is_open left) (deleted_none (goes []) (λ i. refl))

pub returns-in_err-clear_numbers : goal.returns-in_err-clear_numbers
returns-in_err-clear_numbers g c =
    let p = err_from_is_err_and c.from_residual.result c.from_residual.ensures.1 in
    let i = c.loop-numbers.numbers-index in
    let all = c.args.closing.now in
    rw (p.1, p.2) (record {
      clears = more_failed (take i all) _ (take (i + 1) all) all (drop (i + 1) all) (take_more all i _ c.loop-numbers-test.true) (sym (take-append-drop (i + 1) all)) _ _ _ _ _ c.loop-numbers.invariant c.in_err-clear_numbers.ensures.clears;
    })

pub loop-numbers-preserved : goal.loop-numbers-preserved
loop-numbers-preserved g c =
    let i = c.loop-numbers.numbers-index in
    let all = c.args.closing.now in
    more_cleared (take i all) _ (take (i + 1) all) all (drop (i + 1) all) (take_more all i _ c.loop-numbers-test.true) (sym (take-append-drop (i + 1) all)) _ _ _ _ _ c.loop-numbers.invariant c.in_ok-clear_numbers.ensures.clears
