use Rattle.std.proofs.Common.{◌≡◌, ◌++◌, nat_lt, filter, map, drop}
use Rattle.office_closing.specs.Register.{ArchiveContent, archive_content}
use Rattle.office_archives.proofs.former_store.archives_before.Given as goal

abbrev pub invariant-loop-archive : goal.invariant-loop-archive
invariant-loop-archive l =
    map archive_content l.earlier.items
    ++ filter (λ (archive : ArchiveContent). nat_lt archive.place l.place) (map archive_content (drop l.archive-index l.archives))
    ≡ filter (λ (archive : ArchiveContent). nat_lt archive.place l.place) (map archive_content l.archives)
