use Rattle.std.{specs.Prelude.string_bytes, proofs.Common.{ℕ, List, [], drop, map}}
use Rattle.office_closing.specs.Register.{archive_content, register_content}
use Rattle.office_archive_files.specs.Listing.{FollowIn}
use Rattle.office_archive_files.proofs.archives.archive_lines.Given as goal

-- Whatever the lines that are left make of the text is what all lines make.
abbrev pub invariant-loop-archive : goal.invariant-loop-archive
invariant-loop-archive g l =
    let follow = FollowIn (g.F.Finds.is_found l.shelf (register_content l.register)) in
    (text : List ℕ) → follow (map archive_content (drop l.archive-index l.register.archives.items)) (string_bytes l.lines) text → follow (map archive_content l.register.archives.items) [] text
