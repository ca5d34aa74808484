use Rattle.std.{specs.Prelude.{IfErr, IfOk}, proofs.Common.subst}
use Rattle.office_admission.specs.Setups.{setup_content}
use Rattle.office_loading.specs.{Contents.opened_rows, OwnOffice.IsOwnOffice, Refusals.RefusesTables}
use Rattle.office_loading.proofs.loading.restore_whole.Goals as goal

pub returns-clause-ok : goal.returns-clause-ok
returns-clause-ok c =
    subst (λ closed. IfOk c.restore.result (λ p. IsOwnOffice closed (opened_rows c.args.tables) (setup_content p.0) p.1)) c.nothing-closed.ensures c.restore.ensures.ok

pub returns-clause-refused : goal.returns-clause-refused
returns-clause-refused c = subst (λ closed. IfErr c.restore.result (RefusesTables closed (opened_rows c.args.tables))) c.nothing-closed.ensures c.restore.ensures.refused
