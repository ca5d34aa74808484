use Rattle.std.proofs.lemmas.Result.{err_from_is_err_and}
use Rattle.office_closing.specs.{Copies.{FileNames, OfficeContent, office_content}, Planning.IsRefused, Visits.{IsCauseOf, fault_of_visit}}
use Rattle.office_closing.specs.declared.visits.VisitFault.{VisitFault}
use Rattle.office_closing.specs.declared.visits.VisitFault.TheVariants.{Differs, Memory}
use Rattle.office_closing.proofs.planning.gone_visits.Goals as goal

-- the cause is a reason to refuse the archive, or memory was refused
refused : (own copy : OfficeContent) (names : FileNames) (why : VisitFault) → IsCauseOf own.terminal.visits copy.terminal.visits why → IsRefused own copy names (fault_of_visit why)
refused own copy names (Differs number) cause = cause
refused own copy names Memory cause = tt

pub returns-clause-ok : goal.returns-clause-ok
returns-clause-ok c = rw (← c.visits.ensures.told, ← c.visits-2.ensures.told) c.in_ok-numbers.ensures.ok

pub returns-in_err-numbers-clause-err : goal.returns-in_err-numbers-clause-err
returns-in_err-numbers-clause-err c =
    let p = err_from_is_err_and c.from_residual.result c.from_residual.ensures.1 in
    rw (p.1, p.2) (λ names. refused (office_content c.args.own.now) (office_content c.args.copy.now) names _ (rw (← c.visits.ensures.told, ← c.visits-2.ensures.told) c.in_err-numbers.ensures.err))
