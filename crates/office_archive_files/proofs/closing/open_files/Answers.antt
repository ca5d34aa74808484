use Rattle.office_archive_files.proofs.closing.open_files.Goals as goal

pub returns : goal.returns
returns g c = record {
  own_shows = c.in_ok-store_file.ensures.shows;
  own_settled = c.in_ok-store_file.ensures.settled;
  names_none = c.in_ok-register.names_none;
  register_shows = c.in_ok-register.ensures.shows;
  copy_shows = c.in_ok-archive_file.ensures.shows;
  copy_settled = c.in_ok-archive_file.ensures.settled;
  copied_none = _;
  copied_shows = c.in_ok-archive_register.ensures.shows;
  idle = record { store = c.in_ok-store_file.ensures.idle; register = c.in_ok-register.ensures.idle; archive = c.in_ok-archive_file.ensures.idle; archive_register = c.in_ok-archive_register.ensures.idle };
}
