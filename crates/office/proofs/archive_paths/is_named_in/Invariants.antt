use Rattle.std.{specs.List.list_any, proofs.Common.{◌≡◌, map, drop}}
use Rattle.office_closing.specs.{Register.archive_content, Sound.is_in}
use Rattle.office.proofs.archive_paths.is_named_in.Given as goal

abbrev pub invariant-loop-archive : goal.invariant-loop-archive
invariant-loop-archive l =
    list_any (is_in l.name) (map archive_content l.archives) ≡ list_any (is_in l.name) (map archive_content (drop l.archive-index l.archives))
