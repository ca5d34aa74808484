-- What a register of archives says: which archives hold a store's history, and which numbers each of them closed.
use Rattle.std.specs.Prelude.{ℕ, ◌==◌, ◌&&◌, nat_le, max, Bool, List, [], ◌∷◌, map, find, fold, get_or, if◌then◌else◌, nat_lt, not, Option, string_bytes}
use Rattle.std.specs.{List.{list_all, list_any}, Option.option_map, Str.bytes_eq}
use Rattle.office_loading.specs.Closed.{ClosedContent}
use Rattle.office_closing.specs.{declared.register.Archive.Archive, declared.register.Register.Register, declared.register.Segment.Segment}
use Rattle.office_closing.specs.{declared.sealed_archives.SealedArchive.SealedArchive, Lists.{SettledListContent, list_content}}

-- an archive: its place in the order of closing, the name of its file, the number of its newest visit
pub record ArchiveContent : Type 0 where
  pub place : ℕ
  pub file : List ℕ
  pub visits : ℕ

-- what was sealed with an archive: the terminal's code, and the seals of what it closes
pub record SealedContent : Type 0 where
  pub archive : ℕ
  pub terminal : List ℕ
  pub seals : List ℕ

pub record RegisterContent : Type 0 where
  pub archives : List ArchiveContent
  -- a partner's numbers up to the last one of a segment are in the archives from the first to its own
  pub segments : List Segment
  -- the lists that were put away
  pub lists : List SettledListContent
  -- as an archive was closed, a partner's numbers had been taken up to the last one of its segment here
  pub taken : List Segment
  pub sealed : List SealedContent
  -- in an archive's own register: the file of the store that goes on
  pub closed_for : Option (List ℕ)

abbrev pub archive_content : Archive → ArchiveContent
archive_content archive =
    record { place = archive.place; file = string_bytes archive.file; visits = archive.visits }

abbrev pub sealed_content : SealedArchive → SealedContent
sealed_content sealed =
    record { archive = sealed.archive; terminal = string_bytes sealed.terminal; seals = sealed.seals.items }

abbrev pub register_content : Register → RegisterContent
register_content register =
    record {
      archives = map archive_content register.archives.items;
      segments = register.segments.items;
      lists = map list_content register.lists.items;
      taken = register.taken.items;
      sealed = map sealed_content register.sealed.items;
      closed_for = option_map string_bytes register.closed_for;
    }

-- ---- what it tells

abbrev pub is_of : ℕ → Segment → Bool
is_of partner segment = segment.partner == partner

-- the last number of a partner that is closed, 0 if none is
abbrev pub last_closed : List Segment → ℕ → ℕ
last_closed [] partner = 0
last_closed (segment ∷ segments) partner =
    max (if is_of partner segment then segment.last else 0) (last_closed segments partner)

abbrev pub reaches : ℕ → ℕ → Segment → Bool
reaches partner number segment = is_of partner segment && nat_le number segment.last

-- the place of the archive of a partner's number: of the first segment that reaches it
abbrev pub archive_of : List Segment → ℕ → ℕ → Option ℕ
archive_of segments partner number =
    option_map (λ (segment : Segment). segment.archive) (find (reaches partner number) segments)

-- the number of the newest visit as the last archive was closed, 0 if there is none
abbrev pub newest_visit : List ArchiveContent → ℕ
newest_visit archives = fold (λ _ archive. archive.visits) 0 archives

-- the next number of an account, of those in the order of the ids from 1
abbrev pub next_of : List ℕ → ℕ → ℕ
next_of nexts partner = get_or (0 ∷ nexts) partner 0

-- the next number of its account is above the last one of the segment
abbrev pub is_passed : List ℕ → Segment → Bool
is_passed nexts segment = nat_lt segment.last (next_of nexts segment.partner)

-- Of an account a number had been taken as an archive was closed that a store with these next numbers, in the order of the
-- accounts, still awaits: the store is of a day before that.
abbrev pub is_newer_than : List ℕ → RegisterContent → Bool
is_newer_than nexts content = list_any (λ segment. not (is_passed nexts segment)) content.taken

-- it is of a store of the terminal with this code: no archive was sealed with another
abbrev pub is_of_terminal : List ℕ → RegisterContent → Bool
is_of_terminal code content = list_all (λ (one : SealedContent). bytes_eq one.terminal code) content.sealed

-- what is closed of the store, as its opening asks for it
abbrev pub closed_by : RegisterContent → ClosedContent
closed_by content =
    record { last_closed = last_closed content.segments; newest_closed = newest_visit content.archives }
