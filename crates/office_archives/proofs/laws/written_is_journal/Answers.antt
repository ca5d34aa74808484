use Rattle.office_archives.{specs.Texts.OpensOn, proofs.Journal.written_is_journal}
use Rattle.office_archives.proofs.laws.written_is_journal.Goals as goal

pub returns : goal.returns
returns g c shelf = written_is_journal g.T.Store g.S.Store (OpensOn g.T.Store g.F.Shelf.is_known g.F.Shelf.holds shelf)
