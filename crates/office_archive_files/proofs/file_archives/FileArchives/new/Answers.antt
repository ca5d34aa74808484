use Rattle.std.proofs.Common.{sym, subst}
use Rattle.sqlite.specs.Files.{over_files}
use Rattle.office_closing.specs.{Register.register_content, declared.register.Register.Register}
use Rattle.office_archives.specs.Shelves.{NamesAll}
use Rattle.office_archive_files.proofs.ShelfLemmas.{none_opened}
use Rattle.office_archive_files.proofs.file_archives.FileArchives.new.Goals as goal

pub returns : goal.returns
returns c list hold named =
    none_opened over_files _ _ list c.new.result.shelf c.new.result.register c.new.result.opened.items hold
    (subst (λ (r : Register). NamesAll (register_content r) list) (sym c.new.ensures.register) named) c.new.ensures.opened
