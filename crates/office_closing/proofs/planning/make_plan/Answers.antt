use Rattle.std.proofs.{Common.{◌≡◌, List, map, refl, sym, ap, subst, ◌∙◌}, lemmas.Result.err_from_is_err_and}
use Rattle.office_parts.specs.Named.{named_list_content}
use Rattle.office_closing.specs.{Lists.list_content, Register.{ArchiveContent, sealed_content}, declared.sealed_archives.SealedArchive.SealedArchive}
use Rattle.office_closing.specs.{Copies.{AreDoneIn, ComesOn, FileNames, archive_in, office_content}, Planning.{AreClosingLists, IsSealedFor, IsTakenFor}}
use Rattle.office_closing.proofs.ClearLemmas.{plan_from, refused_with, registers_for}
use Rattle.office_closing.proofs.planning.make_plan.Goals as goal

pub returns-in_err-check_office-clause-err : goal.returns-in_err-check_office-clause-err
returns-in_err-check_office-clause-err c =
    let p = err_from_is_err_and c.from_residual.result c.from_residual.ensures.1 in
    rw (p.1, p.2) (c.in_err-check_office.ensures.err (record { store = c.args.store_file.now; archive = c.args.archive_file.now }))

pub returns-in_err-history-clause-err : goal.returns-in_err-history-clause-err
returns-in_err-history-clause-err c =
    let p = err_from_is_err_and c.from_residual-in_err-history.result c.from_residual-in_err-history.ensures.1 in
    rw (p.1, p.2) (c.in_err-history.ensures.err (record { store = c.args.store_file.now; archive = c.args.archive_file.now }))

pub returns-in_err-lists-clause-err : goal.returns-in_err-lists-clause-err
returns-in_err-lists-clause-err c =
    let p = err_from_is_err_and c.from_residual-in_err-lists.result c.from_residual-in_err-lists.ensures.1 in
    rw (p.1, p.2) tt

pub returns-in_err-stage-clause-err : goal.returns-in_err-stage-clause-err
returns-in_err-stage-clause-err c =
    let p = err_from_is_err_and c.from_residual-in_err-stage.result c.from_residual-in_err-stage.ensures.1 in
    let own = office_content c.args.own.now in
    let copy = office_content c.args.copy in
    let names : FileNames = record { store = c.args.store_file.now; archive = c.args.archive_file.now } in
    let history = c.in_ok-history.ensures.ok in
    let lists = c.in_ok-lists.ensures in
    let named = ap (λ (a : ArchiveContent). a.file) (sym history.archive) in
    let place = ap (λ (a : ArchiveContent). a.place) history.archive in
    let all = map list_content c.in_ok-lists.lists.all.items in
    let at = c.in_ok-history.history.archive.place in
    let for = registers_for own copy at lists.done all lists.done (map list_content c.deref-3.result.now) refl (ap (map list_content) c.deref-3.ensures.value) lists.all in
    let segments = c.deref.ensures.value ∙ history.segments in
    let are = subst (λ s. AreDoneIn own.terminal (map named_list_content c.args.named.now) s (archive_in names.archive copy).place lists.done) segments
    (subst (λ n. AreDoneIn own.terminal (map named_list_content c.args.named.now) c.deref.result.now n lists.done) place lists.are_done) in
    rw (p.1, p.2) (refused_with own copy names (map named_list_content c.args.named.now) lists.done are _ (c.in_err-stage.ensures.err names lists.done refl named for))

pub stage_of-requires-clause-taken : goal.stage_of-requires-clause-taken
stage_of-requires-clause-taken c =
    let own = office_content c.args.own.now in
    let copy = office_content c.args.copy in
    let history = c.in_ok-history.ensures.ok in
    let place = ap (λ (a : ArchiveContent). a.place) history.archive in
    subst (IsTakenFor own copy c.in_ok-history.history.archive.place) (sym c.deref-4.ensures.value)
    (subst (λ n. IsTakenFor own copy n c.in_ok-history.history.taken.items) (sym place) history.taken)

pub stage_of-requires-clause-sealed : goal.stage_of-requires-clause-sealed
stage_of-requires-clause-sealed c =
    let own = office_content c.args.own.now in
    let copy = office_content c.args.copy in
    let history = c.in_ok-history.ensures.ok in
    let place = ap (λ (a : ArchiveContent). a.place) history.archive in
    subst (λ (l : List SealedArchive). IsSealedFor own copy c.in_ok-history.history.archive.place (map sealed_content l)) (sym c.deref-5.ensures.value)
    (subst (λ n. IsSealedFor own copy n (map sealed_content c.in_ok-history.history.sealed.items)) (sym place) history.sealed)

pub returns-clause-ok : goal.returns-clause-ok
returns-clause-ok c =
    let own = office_content c.args.own.now in
    let copy = office_content c.args.copy in
    let names : FileNames = record { store = c.args.store_file.now; archive = c.args.archive_file.now } in
    let history = c.in_ok-history.ensures.ok in
    let named = ap (λ (a : ArchiveContent). a.file) (sym history.archive) in
    let place = ap (λ (a : ArchiveContent). a.place) history.archive in
    let come = c.in_ok-stage.stage in
    let comes = subst (λ l. ComesOn own copy names (map list_content l) come) c.deref-3.ensures.value (c.in_ok-stage.ensures.ok names refl named) in
    let segments = c.deref.ensures.value ∙ history.segments in
    let lists = subst (λ s. AreClosingLists own copy (map named_list_content c.args.named.now) s (archive_in names.archive copy).place c.in_ok-lists.lists) segments
    (subst (λ n. AreClosingLists own copy (map named_list_content c.args.named.now) c.deref.result.now n c.in_ok-lists.lists) place c.in_ok-lists.ensures) in
    plan_from own copy names (map named_list_content c.args.named.now) c.in_ok-history.history c.in_ok-lists.lists come c.plan_of.result c.in_ok-check_office.ensures.ok history lists comes c.plan_of.ensures
