-- Which registers are sound.
use Rattle.std.specs.Prelude.{ℕ, ◌≤◌, ◌+◌, ◌==◌, ◌&&◌, ◌||◌, not, nat_le, nat_lt, Bool, true, List, [], ◌∷◌, ◌++◌, length, IsTrue, IfSome, IsUtf8, Option, None, Some}
use Rattle.std.specs.{List.{list_all, list_any, AllByRecursion}, Str.bytes_eq}
use Rattle.edi_messages.specs.Texts.{is_name}
use Rattle.edi_syntax.specs.Numbers.{last_number}
use Rattle.office_admission.specs.Limits.{most_partners, most_visits}
use Rattle.office_closing.specs.{declared.register.Segment.Segment, Lists.{SettledListContent, comes_before}}
use Rattle.office_closing.specs.Register.{ArchiveContent, RegisterContent, SealedContent, last_closed}

-- the most archives that a store may have
abbrev pub most_archives : ℕ
most_archives = 9999

-- ---- archives

-- neither a slash nor NUL
abbrev pub may_stand_in_name : ℕ → Bool
may_stand_in_name byte = not (byte == 47) && not (byte == 0)

-- the name of a file without a folder, of 1 to 255 bytes
abbrev pub is_file_name : List ℕ → Bool
is_file_name name = (nat_le 1 (length name) && nat_le (length name) 255) && list_all may_stand_in_name name

-- its file has a name that may be, and its newest visit a number that may be
abbrev pub may_be_archive : ArchiveContent → Bool
may_be_archive archive = is_file_name archive.file && nat_le archive.visits most_visits

-- The places go up one by one from this one, and each newest visit is at least this one or the one before it.
abbrev pub are_numbered : ℕ → ℕ → List ArchiveContent → Bool
are_numbered place visits [] = true
are_numbered place visits (archive ∷ archives) =
    ((archive.place == place) && nat_le visits archive.visits) && are_numbered (place + 1) archive.visits archives

abbrev pub is_in : List ℕ → ArchiveContent → Bool
is_in file archive = bytes_eq archive.file file

-- no file is that of two archives
abbrev pub have_own_files : List ArchiveContent → Bool
have_own_files [] = true
have_own_files (archive ∷ archives) = not (list_any (is_in archive.file) archives) && have_own_files archives

-- ---- segments

-- of an account that may be, of one of so many archives, up to a number that may be
abbrev pub is_within : ℕ → Segment → Bool
is_within archives segment =
    ((nat_le 1 segment.partner && nat_le segment.partner most_partners)
    && (nat_le 1 segment.archive && nat_le segment.archive archives))
    && (nat_le 1 segment.last && nat_le segment.last last_number)

-- of an account that may be
pub record IsOfAccount (segment : Segment) : Type 0 where
  pub from : 1 ≤ segment.partner
  pub to : segment.partner ≤ most_partners

-- by archive, and of one archive by partner
abbrev pub comes_later : ℕ → ℕ → Segment → Bool
comes_later archive partner segment =
    nat_lt archive segment.archive || ((segment.archive == archive) && nat_lt partner segment.partner)

-- each comes later than this archive and partner and those before it
abbrev pub are_in_order : ℕ → ℕ → List Segment → Bool
are_in_order archive partner [] = true
are_in_order archive partner (segment ∷ segments) =
    comes_later archive partner segment && are_in_order segment.archive segment.partner segments

-- each closes more of its partner than these and those before it
abbrev pub close_more : List Segment → List Segment → Bool
close_more before [] = true
close_more before (segment ∷ segments) =
    nat_lt (last_closed before segment.partner) segment.last && close_more (before ++ segment ∷ []) segments

-- ---- lists

-- of a call that may be, put away with one of so many archives
abbrev pub may_be_list : ℕ → SettledListContent → Bool
may_be_list archives list =
    (is_name list.call.vessel && is_name list.call.voyage) && (nat_le 1 list.archive && nat_le list.archive archives)

-- it comes after this one, if there is one
abbrev pub comes_after : Option SettledListContent → SettledListContent → Bool
comes_after None list = true
comes_after (Some before) list = comes_before before list

-- each comes after this one and the one before it
abbrev pub are_rising : Option SettledListContent → List SettledListContent → Bool
are_rising before [] = true
are_rising before (list ∷ lists) = comes_after before list && are_rising (Some list) lists

-- ---- seals

-- with one of so many archives, of a terminal that has a name
abbrev pub may_be_sealed : ℕ → SealedContent → Bool
may_be_sealed archives sealed =
    (nat_le 1 sealed.archive && nat_le sealed.archive archives) && is_name sealed.terminal

-- each with an archive after this one and those before it
abbrev pub are_sealed_in_turn : ℕ → List SealedContent → Bool
are_sealed_in_turn archive [] = true
are_sealed_in_turn archive (sealed ∷ others) =
    nat_lt archive sealed.archive && are_sealed_in_turn sealed.archive others

-- ---- all of it

abbrev pub are_sound_archives : List ArchiveContent → Bool
are_sound_archives archives =
    (nat_le (length archives) most_archives && list_all may_be_archive archives)
    && (are_numbered 1 0 archives && have_own_files archives)

abbrev pub are_sound_segments : ℕ → List Segment → Bool
are_sound_segments archives segments =
    list_all (is_within archives) segments && (are_in_order 0 0 segments && close_more [] segments)

abbrev pub are_sound_taken : ℕ → List Segment → Bool
are_sound_taken archives taken = list_all (is_within archives) taken && are_in_order 0 0 taken

abbrev pub are_sound_lists : ℕ → List SettledListContent → Bool
are_sound_lists archives lists = list_all (may_be_list archives) lists && are_rising None lists

abbrev pub are_sound_sealed : ℕ → List SealedContent → Bool
are_sound_sealed archives sealed = list_all (may_be_sealed archives) sealed && are_sealed_in_turn 0 sealed

abbrev pub is_sound_mark : Option (List ℕ) → Bool
is_sound_mark None = true
is_sound_mark (Some file) = is_file_name file

abbrev pub is_sound : RegisterContent → Bool
is_sound content =
    are_sound_archives content.archives
    && (are_sound_segments (length content.archives) content.segments
    && (are_sound_lists (length content.archives) content.lists
    && (are_sound_taken (length content.archives) content.taken
    && (are_sound_sealed (length content.archives) content.sealed && is_sound_mark content.closed_for))))

-- the names of its files are texts, and the lines of its lists
pub record HasTexts (content : RegisterContent) : Type 0 where
  pub files : AllByRecursion (λ (archive : ArchiveContent). IsUtf8 archive.file) content.archives
  pub lines : AllByRecursion (λ (list : SettledListContent). IsUtf8 list.lines) content.lists
  pub closed_for : IfSome content.closed_for IsUtf8

-- it is that of a store, or of an archive
pub record IsSound (content : RegisterContent) : Type 0 where
  pub tested : IsTrue (is_sound content)
  pub texts : HasTexts content
