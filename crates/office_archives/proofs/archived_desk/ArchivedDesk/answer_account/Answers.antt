use Rattle.office_archives.proofs.Accounts.{by_account}
use Rattle.office_archives.proofs.archived_desk.ArchivedDesk.answer_account.Goals as goal

pub returns : goal.returns
returns g c = record {
  enrols = by_account g.S.Store g.A.Archives.are c.args.self.now.desk c.args.self.now.archives c.args.code.now c.args.kind.now c.add_account.result c.add_account.new.self c.add_account.ensures;
}
