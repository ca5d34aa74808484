use Rattle.office_archive_files.proofs.NamingLemmas.{closings_are_named}
use Rattle.office_archive_files.proofs.laws.closings_are_named.Goals as goal

pub returns : goal.returns
returns c = closings_are_named
