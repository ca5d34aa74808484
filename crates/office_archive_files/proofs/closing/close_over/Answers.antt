use Rattle.office_archive_files.proofs.closing.close_over.Goals as goal

pub close_files-requires : goal.close_files-requires
close_files-requires g c = c.in_ok-files.ensures.idle

pub returns : goal.returns
returns g c = c.close_files.ensures _ c.in_ok-files.ensures
