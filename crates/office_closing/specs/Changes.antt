-- What the calls that write make of a register.
use Rattle.std.specs.Prelude.{ℕ, List, [], ◌∷◌, ◌++◌, None, Some}
use Rattle.office_closing.specs.{declared.register.Segment.Segment, Lists.{SettledListContent, put_lists}}
use Rattle.office_closing.specs.Register.{ArchiveContent, RegisterContent, SealedContent}

-- that of a store of which nothing was put away
abbrev pub empty_register : RegisterContent
empty_register = record { archives = []; segments = []; lists = []; taken = []; sealed = []; closed_for = None }

abbrev pub with_archive : ArchiveContent → RegisterContent → RegisterContent
with_archive archive content = record content { archives = content.archives ++ archive ∷ [] }

abbrev pub with_segments : List Segment → RegisterContent → RegisterContent
with_segments segments content = record content { segments = content.segments ++ segments }

abbrev pub with_lists : List SettledListContent → RegisterContent → RegisterContent
with_lists lists content = record content { lists = put_lists lists content.lists }

abbrev pub with_taken : List Segment → RegisterContent → RegisterContent
with_taken taken content = record content { taken = content.taken ++ taken }

abbrev pub with_sealed : List SealedContent → RegisterContent → RegisterContent
with_sealed sealed content = record content { sealed = content.sealed ++ sealed }

-- an archive is added, with the segments that it closes, the lists that were put away with it, what had been taken then, and
-- what was sealed with it
abbrev pub closed_with : ArchiveContent → List Segment → List SettledListContent → List Segment → List SealedContent →
    RegisterContent → RegisterContent
closed_with archive segments lists taken sealed content =
    with_sealed sealed (with_taken taken (with_lists lists (with_segments segments (with_archive archive content))))

-- as it is
abbrev pub unchanged : RegisterContent → RegisterContent
unchanged content = content

-- that of a store that goes on itself
abbrev pub unmarked : RegisterContent → RegisterContent
unmarked content = record content { closed_for = None }

-- that of an archive: the store in this file goes on
abbrev pub marked_for : List ℕ → RegisterContent → RegisterContent
marked_for file content = record content { closed_for = Some file }
