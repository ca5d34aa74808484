use Rattle.std.proofs.Common.{not, ap, ◌∙◌}
use Rattle.office_closing.proofs.closing.check_idle.Goals as goal

pub returns : goal.returns
returns g c = record {
  store = record {
    settled = c.is_autocommit-store_is.ensures.settled (c.is_autocommit-store_is.ensures.value ∙ ap not c.requires.store);
    alone = λ is_open db left. g.met.S.Store.settled c.args.store.now.store db is_open left;
  };
  register = record {
    settled = c.is_autocommit-register_is.ensures.settled (c.is_autocommit-register_is.ensures.value ∙ ap not c.requires.register);
    alone = λ is_open db left. g.met.R.Store.settled c.args.register.now.store db is_open left;
  };
  archive = record {
    settled = c.is_autocommit-archive_is.ensures.settled (c.is_autocommit-archive_is.ensures.value ∙ ap not c.requires.archive);
    alone = λ is_open db left. g.met.A.Store.settled c.args.archive.now.store db is_open left;
  };
  archive_register = record {
    settled = c.is_autocommit-archive_register_is.ensures.settled (c.is_autocommit-archive_register_is.ensures.value ∙ ap not c.requires.archive_register);
    alone = λ is_open db left. g.met.M.Store.settled c.args.archive_register.now.store db is_open left;
  };
}
