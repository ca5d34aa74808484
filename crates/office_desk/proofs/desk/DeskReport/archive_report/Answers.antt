use Rattle.std.proofs.Common.{refl}
use Rattle.office_desk.proofs.LookLemmas.{looks_nowhere}
use Rattle.office_desk.proofs.desk.DeskReport.archive_report.Goals as goal

-- It looks at nothing.
pub returns : goal.returns
returns g c = record {
  told = λ sound. refl;
  looks = looks_nowhere g.S.Store c.args.self.now;
  noted = refl;
  cause = λ sound rows terminal holds. tt;
  is_open = λ clean. tt;
}
