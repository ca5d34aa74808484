use Rattle.std.{specs.Option.option_and_then, proofs.Common.{ap, sym, ◌∙◌}}
use Rattle.office_archives.specs.Shelves.{archive_at}
use Rattle.office_archives.proofs.many_archives.ManyArchivesArchives.place_of.Goals as goal

-- The register names it.
pub returns : goal.returns
returns g c list are closed = are.are_named.named c.args.partner c.args.number closed.0 ∙ ap (option_and_then (archive_at list)) (sym c.archive_of.ensures)
