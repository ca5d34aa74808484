use Rattle.std.proofs.{Common.{◌≡◌, true, false, refl, ap, subst, rules}, lemmas.Result.err_from_is_err_and}
use Rattle.sqlite.specs.Held.{state}
use Rattle.office_closing.specs.Seals.{HoldsSealing, add_any}
use Rattle.office_closing.proofs.{FileLemmas.{either_more, kept_same, of_copy, of_own, told_alike}, JudgeLemmas.{failed, passed, untouched_err}, SealLemmas.{kept_is, on_ok_is}}
use Rattle.office_closing.proofs.comparing.is_kept_alike.Goals as goal

pub returns-then-not-is_same-clause-alike : goal.returns-then-not-is_same-clause-alike
returns-then-not-is_same-clause-alike g c here there own copy own_has copy_has own_once copy_once =
    let own_is = c.in_ok-own.ensures.answer here own own_has in
    let copy_is = c.in_ok-copy.ensures.answer there copy copy_has in
    let no : c.is_same.result ≡ false = search rules in (
      λ e. absurd cc,
      λ alike.
          let yes = c.is_same.ensures.1 (kept_same c.args.partner c.args.number own copy c.in_ok-own.own c.in_ok-copy.copy own_once copy_once own_is copy_is alike) in
          absurd cc,
    )

pub returns-then-not-is_same-clause-store_reads : goal.returns-then-not-is_same-clause-store_reads
returns-then-not-is_same-clause-store_reads g c = passed _ c.in_ok-own.ensures.reads

pub returns-then-not-is_same-clause-archive_reads : goal.returns-then-not-is_same-clause-archive_reads
returns-then-not-is_same-clause-archive_reads g c = passed _ c.in_ok-copy.ensures.reads

pub returns-clause-alike : goal.returns-clause-alike
returns-clause-alike g c here there own copy own_has copy_has own_once copy_once =
    let own_is = c.in_ok-own.ensures.answer here own own_has in
    let copy_is = c.in_ok-copy.ensures.answer there copy copy_has in
    let yes : c.is_same.result ≡ true = search rules in (
      λ e. told_alike c.args.partner c.args.number own copy c.in_ok-own.own c.in_ok-copy.copy own_once copy_once own_is copy_is (c.is_same.ensures.0 yes),
      λ alike. refl,
    )

pub returns-clause-sealed : goal.returns-clause-sealed
returns-clause-sealed g c here there e copy copy_has copy_once sealed holds =
    let added = on_ok_is c.add.result c.add.ensures c.in_ok-sealed_in_memory.ensures.ok in
    subst (HoldsSealing c.add.new.self) (ap (add_any sealed) (kept_is c.args.partner c.args.number copy c.in_ok-copy.copy copy_once (c.in_ok-copy.ensures.answer there copy copy_has))) (added sealed holds)

pub returns-in_err-sealed_in_memory-clause-fault : goal.returns-in_err-sealed_in_memory-clause-fault
returns-in_err-sealed_in_memory-clause-fault g c here there =
    let p = err_from_is_err_and c.from_residual-in_err-sealed_in_memory.result c.from_residual-in_err-sealed_in_memory.ensures.1 in
    rw (p.1, p.2) (λ own copy own_has copy_has. either_more absurd absurd _ _ c.in_err-sealed_in_memory.ensures.fault)

pub returns-in_err-sealed_in_memory-clause-store_reads : goal.returns-in_err-sealed_in_memory-clause-store_reads
returns-in_err-sealed_in_memory-clause-store_reads g c =
    let p = err_from_is_err_and c.from_residual-in_err-sealed_in_memory.result c.from_residual-in_err-sealed_in_memory.ensures.1 in
    rw (p.1, p.2) (failed _ c.in_ok-own.ensures.reads)

pub returns-in_err-sealed_in_memory-clause-archive_reads : goal.returns-in_err-sealed_in_memory-clause-archive_reads
returns-in_err-sealed_in_memory-clause-archive_reads g c =
    let p = err_from_is_err_and c.from_residual-in_err-sealed_in_memory.result c.from_residual-in_err-sealed_in_memory.ensures.1 in
    rw (p.1, p.2) (failed _ c.in_ok-copy.ensures.reads)

pub returns-in_err-own-clause-fault : goal.returns-in_err-own-clause-fault
returns-in_err-own-clause-fault g c here there =
    let p = err_from_is_err_and c.from_residual.result c.from_residual.ensures.1 in
    let it = c.in_err-own.ensures.fault here in
    rw (p.1, p.2) (λ own copy own_has copy_has. of_own _ _ _ it.0 (it.1 own own_has))

pub returns-in_err-own-clause-store_reads : goal.returns-in_err-own-clause-store_reads
returns-in_err-own-clause-store_reads g c =
    let p = err_from_is_err_and c.from_residual.result c.from_residual.ensures.1 in
    rw (p.1, p.2) (failed _ c.in_err-own.ensures.reads)

pub returns-in_err-own-clause-archive_reads : goal.returns-in_err-own-clause-archive_reads
returns-in_err-own-clause-archive_reads g c =
    let p = err_from_is_err_and c.from_residual.result c.from_residual.ensures.1 in
    rw (p.1, p.2) (untouched_err (state g.A.Store c.args.archive.now) _)

pub returns-in_err-copy-clause-fault : goal.returns-in_err-copy-clause-fault
returns-in_err-copy-clause-fault g c here there =
    let p = err_from_is_err_and c.from_residual-in_err-copy.result c.from_residual-in_err-copy.ensures.1 in
    let it = c.in_err-copy.ensures.fault there in
    rw (p.1, p.2) (λ own copy own_has copy_has. of_copy _ _ _ it.0 (it.1 copy copy_has))

pub returns-in_err-copy-clause-store_reads : goal.returns-in_err-copy-clause-store_reads
returns-in_err-copy-clause-store_reads g c =
    let p = err_from_is_err_and c.from_residual-in_err-copy.result c.from_residual-in_err-copy.ensures.1 in
    rw (p.1, p.2) (failed _ c.in_ok-own.ensures.reads)

pub returns-in_err-copy-clause-archive_reads : goal.returns-in_err-copy-clause-archive_reads
returns-in_err-copy-clause-archive_reads g c =
    let p = err_from_is_err_and c.from_residual-in_err-copy.result c.from_residual-in_err-copy.ensures.1 in
    rw (p.1, p.2) (failed _ c.in_err-copy.ensures.reads)

pub returns-clause-store_reads : goal.returns-clause-store_reads
returns-clause-store_reads g c = passed _ c.in_ok-own.ensures.reads

pub returns-clause-archive_reads : goal.returns-clause-archive_reads
returns-clause-archive_reads g c = passed _ c.in_ok-copy.ensures.reads
