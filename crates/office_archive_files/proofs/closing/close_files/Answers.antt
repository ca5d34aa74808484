use Rattle.std.proofs.Common.{option_map}
use Rattle.office_archive_files.proofs.closing.close_files.Goals as goal

pub returns : goal.returns
returns g c images are = record {
  names = record { store = c.place_of.result.name.now; archive = c.place_of-2.result.name.now };
  store_name = record { folder = option_map (λ folder. folder.now) c.place_of.result.folder; whole = c.place_of.ensures.whole; is_name = c.place_of.ensures.name };
  archive_name = record { folder = option_map (λ folder. folder.now) c.place_of-2.result.folder; whole = c.place_of-2.ensures.whole; is_name = c.place_of-2.ensures.name };
  found_own = c.args.opened.store;
  found_register = c.args.opened.register;
  found_copy = c.args.opened.archive;
  found_copied = c.args.opened.archive_register;
  opened = are;
  closes = c.close-closed.ensures.closes;
  put_away = c.close-closed.ensures.put_away;
}
