use Rattle.std.proofs.Common.{string_bytes}
use Rattle.sqlite.specs.{Files.over_files, WalFiles.image_at}
use Rattle.office_admission.specs.Setups.{setup_content}
use Rattle.office_closing.specs.Register.{register_content}
use Rattle.office_archive_files.proofs.ShelfLemmas.{sealed_at}
use Rattle.office_archive_files.proofs.shelf.FileShelf.is_sealed.Goals as goal

pub returns : goal.returns
returns g c =
    let self = c.args.self.now in
    sealed_at over_files (image_at g.B.Start) (string_bytes self.store) (setup_content self.setup) (register_content c.args.names.now) c.args.place c.in_ok-archive.archive.conn c.has_seals.new.self.conn c.in_ok-archive.ensures.passes c.has_seals.result c.has_seals.ensures.has
