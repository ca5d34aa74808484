use Rattle.std.proofs.{Common.{◌≡◌, ap, map, subst, ◌∙◌}, lemmas.Result.err_from_is_err_and}
use Rattle.office_loading.specs.Closed.{ClosedContent}
use Rattle.office_closing.specs.{Register.{ArchiveContent, last_closed, sealed_content}, Planning.{IsSealedFor, IsTakenFor}}
use Rattle.office_closing.specs.Copies.{numbers_from, numbers_of, office_content, segments_of}
use Rattle.office_loading.specs.Closed as closed
use Rattle.office_closing.proofs.planning.history_to_close.Goals as goal

pub returns-in_err-visits-clause-err : goal.returns-in_err-visits-clause-err
returns-in_err-visits-clause-err c =
    let p = err_from_is_err_and c.from_residual.result c.from_residual.ensures.1 in
    rw (p.1, p.2) c.in_err-visits.ensures.err

pub returns-clause-ok : goal.returns-clause-ok
returns-clause-ok c =
    let copy = office_content c.args.copy.now in
    let archive = c.in_ok-archive.ensures in
    let last : closed.last_closed c.in_ok-closed.closed ≡ last_closed copy.register.segments = ap (λ (x : ClosedContent). x.last_closed) c.in_ok-closed.ensures in
    let numbers : c.in_ok-numbers.numbers.items ≡ numbers_of copy = c.in_ok-numbers.ensures ∙ (λ i. numbers_from (last i) 1 (c.deref.ensures.value i)) in
    record {
      numbers = numbers;
      archive = archive;
      segments = c.in_ok-segments.ensures ∙ (λ i. segments_of (archive i).place ((c.deref-2.ensures.value ∙ numbers) i));
      visits = c.in_ok-visits.ensures.ok;
      taken = subst (λ n. IsTakenFor (office_content c.args.own.now) copy n c.in_ok-taken.taken.items) (ap (λ (a : ArchiveContent). a.place) archive) c.in_ok-taken.ensures;
      sealed = subst (λ n. IsSealedFor (office_content c.args.own.now) copy n (map sealed_content c.in_ok-sealed.sealed.items)) (ap (λ (a : ArchiveContent). a.place) archive) c.in_ok-sealed.ensures;
    }
