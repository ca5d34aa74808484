use Rattle.office_commands.proofs.{AccountLemmas.asked_over, Alike.{as_said, writer_by}}
use Rattle.office_commands.proofs.deliver.ask_desk.Goals as goal

-- The desk was opened for an opening set-up that says the same as that of the files, so it answers as the files' office.
pub returns : goal.returns
returns g c image opens =
    let outcome = c.answer_account-outcome.result in
    let said = c.answer_account-outcome.ensures in
    let old = c.args.writer.now in
    let new = c.answer_account-outcome.new.writer in
    let opened = c.args.office.now in
    let office = c.answer_account-outcome.new.desk in
    let code = c.args.code.now in
    let kind = c.args.kind.now in
    record {
      outcome = outcome;
      status_is = c.outcome_status.ensures;
      writer_is = writer_by old new outcome said.kept said.flushed said.err;
      left = as_said _ (g.W.Write.contents old.inner) (g.W.Write.contents new.inner) outcome said.ok said.added _
          (λ answer given. asked_over g.S.Store g.A.Archives.is_sound g.A.Archives.are image (opened.desk, opened.archives) (office.desk, office.archives) opens code kind answer given);
    }
