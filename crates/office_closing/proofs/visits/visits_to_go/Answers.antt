use Rattle.std.{specs.Prelude.{Contains, slice_get}, proofs.Common.{◌≡◌, ◌+◌, true, false, length, map, take, Some, refl, sym, subst, ◌∙◌}}
use Rattle.std.proofs.{lemmas.List.take_all, lemmas.Option.slice_get_read, lemmas.Result.err_from_is_err_and}
use Rattle.terminal_core.{specs.Rows.visit_content, proofs.Whole.{contained, content_at, one_row_more}}
use Rattle.office_closing.{specs.Visits.{AreAlike, GoesBelow}, proofs.visits.visits_to_go.Goals.{then-branch+in_ok-append, else-branch}}
use Rattle.office_closing.proofs.ClearLemmas.{AreGone, differs_told, none_differs, none_gone, one_alike, one_goes, one_stays}
use Rattle.office_closing.proofs.visits.visits_to_go.Goals as goal

pub returns-in_err-goes-clause-err : goal.returns-in_err-goes-clause-err
returns-in_err-goes-clause-err c =
    let p = err_from_is_err_and c.from_residual-in_err-goes.result c.from_residual-in_err-goes.ensures.1 in
    let i = c.loop-visit.visit-index in
    let own = c.args.own.now in
    let item = c.visit-item.result in
    let at : slice_get own i ≡ Some item = slice_get_read own (length own) _ item refl c.loop-visit-test.true c.visit-item.is in
    let here : Contains (map visit_content own) (visit_content item) = contained (map visit_content own) i (visit_content item) (content_at own i item at) in
    rw (p.1, p.2) (differs_told (map visit_content own) (map visit_content c.args.copy.now) (visit_content item) c.in_err-goes.field-0.0 c.in_err-goes.ensures.err.0 here c.in_err-goes.ensures.err.1)

pub loop-visit-init : goal.loop-visit-init
loop-visit-init c =
    let copy = map visit_content c.args.copy.now in
    rw c.new-gone.ensures.items (none_gone c.newest_number-newest.result copy, none_differs copy)

pub loop-visit-preserved : goal.loop-visit-preserved
loop-visit-preserved c =
    let i = c.loop-visit.visit-index in
    let own = c.args.own.now in
    let v = visit_content c.visit-item.result in
    let copy = map visit_content c.args.copy.now in
    let newest = c.newest_number-newest.result in
    let done = map visit_content (take i own) in
    let after = map visit_content (take (i + 1) own) in
    let more = one_row_more own i c.visit-item.result c.loop-visit-test.true c.visit-item.is in
    let before = c.loop-visit.gone.items in
    let alike = one_alike newest copy done after v more c.in_ok-goes.ensures.alike c.loop-visit.invariant.1 in
    elim c.if-branch.branch [
      | then-branch+in_ok-append w ↦
          rw w.gone-is (one_goes newest copy done after v more before w.append.new.records.items (c.in_ok-goes.ensures.ok.0 w.if-branch.true) w.in_ok-append.ensures c.loop-visit.invariant.0, alike)
      | else-branch w ↦
          let stays : ¬ GoesBelow newest copy v = λ it. (let e : true ≡ false = sym (c.in_ok-goes.ensures.ok.1 it) ∙ w.if-branch.false in absurd cc) in
          rw w.gone-is (one_stays newest copy done after v more before stays c.loop-visit.invariant.0, alike)
    ]

pub returns-clause-ok : goal.returns-clause-ok
returns-clause-ok c =
    let own = c.args.own.now in
    let copy = map visit_content c.args.copy.now in
    let all = take_all c.loop-visit.visit-index own c.loop-visit-test.false in
    let so_far : AreGone c.newest_number-newest.result copy (map visit_content own) c.loop-visit.gone.items = subst (λ l. AreGone c.newest_number-newest.result copy (map visit_content l) c.loop-visit.gone.items) all c.loop-visit.invariant.0 in
    subst (λ n. AreGone n copy (map visit_content own) c.loop-visit.gone.items) c.newest_number-newest.ensures so_far

pub returns-clause-alike : goal.returns-clause-alike
returns-clause-alike c =
    subst (λ l. AreAlike (map visit_content l) (map visit_content c.args.copy.now)) (take_all c.loop-visit.visit-index c.args.own.now c.loop-visit-test.false) c.loop-visit.invariant.1
