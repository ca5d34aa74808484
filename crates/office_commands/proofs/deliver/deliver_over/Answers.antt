use Rattle.sqlite.specs.WalFiles.{image_at}
use Rattle.office_commands.proofs.deliver.deliver_over.Goals as goal

pub returns-in-Ok-clause-ends : goal.returns-in-Ok-clause-ends
returns-in-Ok-clause-ends g c = record {
  names = c.in-Ok.ensures.opened.0;
  opened = (c.in-Ok.office.desk, c.in-Ok.office.archives);
  is = c.in-Ok.ensures.opened.1;
  came = c.deliver_desk-status.ensures.ends (image_at g.S.Start) c.in-Ok.ensures.opened.1.opens;
}
