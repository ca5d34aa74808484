use Rattle.std.proofs.Common.{[], sym, subst}
use Rattle.office_closing.specs.Register.{RegisterContent}
use Rattle.office_archives.specs.Shelves.{NamesAll}
use Rattle.office_archive_files.proofs.ShelfLemmas.{none_held, none_named}
use Rattle.office_archive_files.proofs.in_files.InUnknownFilesArchivesBesideFileArchives.none.Goals as goal

pub returns : goal.returns
returns c = c.new.ensures [] (none_held _ 1) (subst (λ (r : RegisterContent). NamesAll r []) (sym c.no_archives.ensures) none_named)
