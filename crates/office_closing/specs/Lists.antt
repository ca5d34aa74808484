-- Lists that were put away: with which archive, and their lines.
use Rattle.std.specs.{Prelude.{ℕ, ◌==◌, ◌&&◌, nat_le, Bool, List, [], ◌∷◌, filter, fold, if◌then◌else◌, Option, None, Some, string_bytes}, Str.bytes_eq}
use Rattle.std.specs.{declared.cmp.Ordering.Ordering, Ordering.{is_lt, nat_cmp, ordering_then}, Cmp.Lexicographic.slice_cmp}
use Rattle.edi_messages.specs.{Owned.call_content, Purposes.CallContent}
use Rattle.terminal_core.specs.{State.side_code, declared.lines.Side.Side}
use Rattle.office_closing.specs.declared.settled_lists.SettledList.{SettledList}

-- these lines of this list of the call were put away with that archive
pub record SettledListContent : Type 0 where
  pub call : CallContent
  pub side : Side
  pub archive : ℕ
  pub lines : List ℕ

abbrev pub list_content : SettledList → SettledListContent
list_content list =
    record { call = call_content list.call; side = list.side; archive = list.archive; lines = string_bytes list.lines }

-- ---- their lines

-- it is of this list of the call
abbrev pub is_of_list : CallContent → Side → SettledListContent → Bool
is_of_list call side list =
    bytes_eq list.call.vessel call.vessel
    && (bytes_eq list.call.voyage call.voyage && (side_code list.side == side_code side))

-- the lines of the last row of the list: of lists in order, those of its newest archive
abbrev pub lines_of_list : List SettledListContent → CallContent → Side → Option (List ℕ)
lines_of_list lists call side =
    fold (λ found list. if is_of_list call side list then Some list.lines else found) None lists

-- it was put away with one of the first so many archives
abbrev pub is_among : (count : ℕ) → SettledListContent → Bool
is_among count list = nat_le list.archive count

abbrev pub lists_among : (count : ℕ) → List SettledListContent → List SettledListContent
lists_among count lists = filter (is_among count) lists

-- ---- their order

-- by vessel, voyage, side and archive
abbrev pub list_cmp : SettledListContent → SettledListContent → Ordering
list_cmp list other =
    ordering_then (slice_cmp nat_cmp list.call.vessel other.call.vessel)
    (ordering_then (slice_cmp nat_cmp list.call.voyage other.call.voyage)
    (ordering_then (nat_cmp (side_code list.side) (side_code other.side)) (nat_cmp list.archive other.archive)))

abbrev pub comes_before : SettledListContent → SettledListContent → Bool
comes_before list other = is_lt (list_cmp list other)

-- one more, before the first that it comes before
abbrev pub put_list : SettledListContent → List SettledListContent → List SettledListContent
put_list list [] = list ∷ []
put_list list (other ∷ lists) = if comes_before list other then list ∷ other ∷ lists else other ∷ put_list list lists

-- these one after the other
abbrev pub put_lists : List SettledListContent → List SettledListContent → List SettledListContent
put_lists [] lists = lists
put_lists (list ∷ more) lists = put_lists more (put_list list lists)
