use Rattle.std.proofs.{Common.{ap, subst}, lemmas.Result.err_from_is_err_and}
use Rattle.office_tables.proofs.WriteLemmas.{one_read, only_on, only_stopped}
use Rattle.office_closing.{specs.Seals.{HoldsSealing, add_any}, proofs.SealLemmas.kept_is}
use Rattle.office_closing.proofs.sealing.seal_number.Goals as goal

pub returns-clause-seals : goal.returns-clause-seals
returns-clause-seals g c clean rows has once sealed holds =
    subst (HoldsSealing c.add.new.self) (ap (add_any sealed) (kept_is c.args.partner c.args.number rows c.in_ok-kept.kept once (c.in_ok-kept.ensures.answer clean rows has)))
    (c.in_ok-add.ensures sealed holds)

pub returns-in_err-kept-clause-fault : goal.returns-in_err-kept-clause-fault
returns-in_err-kept-clause-fault g c clean =
    let p = err_from_is_err_and c.from_residual.result c.from_residual.ensures.1 in
    rw (p.1, p.2) (c.in_err-kept.ensures.fault clean)

pub returns-clause-reads : goal.returns-clause-reads
returns-clause-reads g c = only_on _ (one_read c.in_ok-kept.ensures.reads)

pub returns-in_err-kept-clause-reads : goal.returns-in_err-kept-clause-reads
returns-in_err-kept-clause-reads g c = only_stopped _ c.from_residual.ensures.0 (one_read c.in_err-kept.ensures.reads)

pub returns-in_err-add-clause-reads : goal.returns-in_err-add-clause-reads
returns-in_err-add-clause-reads g c = only_on _ (one_read c.in_ok-kept.ensures.reads)
