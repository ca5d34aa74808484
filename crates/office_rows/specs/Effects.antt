-- What the calls that write make of the rows.
use Rattle.std.specs.{Prelude.{ℕ, ◌+◌, ◌==◌, ◌&&◌, not, Bool, List, [], ◌∷◌, ◌++◌, map, filter, if◌then◌else◌}, Str.bytes_eq}
use Rattle.box6346.specs.declared.box_number.BoxNumber.{BoxNumber}
use Rattle.edi_messages.specs.{declared.codes.PartnerKind.PartnerKind, Purposes.CallContent}
use Rattle.terminal_core.specs.{declared.lines.LineState.TheVariants.{Pending, Done}, declared.lines.Side.Side, State.side_code, Changes.visit_with_departure}
use Rattle.terminal_core.specs.Rows.{ChangeContent, visit_opened, visit_closed, placed_at, moved_to, removed_from, listed_on, line_done, unlisted}
use Rattle.office_rows.specs.Rows.{Partner, Interchange, PlaceContent, ListingContent, Rows}

-- ---- interchanges

abbrev pub is_pair : ℕ → ℕ → Interchange → Bool
is_pair partner number i = (i.partner == partner) && (i.number == number)

-- an interchange that waits is added
abbrev pub with_waiting : ℕ → ℕ → List ℕ → Rows → Rows
with_waiting partner number body rows =
    record rows {
      interchanges = rows.interchanges
          ++ (record { partner = partner; number = number; body = body; reply = [] }) ∷ [];
    }

-- the interchange has this reply
abbrev pub with_reply : ℕ → ℕ → List ℕ → Rows → Rows
with_reply partner number reply rows =
    record rows {
      interchanges = map
          (λ (i : Interchange). if is_pair partner number i then record i { reply = reply } else i) rows.interchanges;
    }

-- the next number of the partner is this one
abbrev pub with_next : ℕ → ℕ → Rows → Rows
with_next partner next rows =
    record rows {
      partners = map (λ (p : Partner). if p.id == partner then record p { next = next } else p) rows.partners;
    }

-- the interchange is taken: it has its reply, and the partner's next number follows it
abbrev pub with_taken : ℕ → ℕ → List ℕ → Rows → Rows
with_taken partner number reply rows = with_next partner (number + 1) (with_reply partner number reply rows)

-- ---- accounts

-- an account is added, whose partner has sent nothing yet
abbrev pub with_partner : ℕ → List ℕ → PartnerKind → Rows → Rows
with_partner id code kind rows =
    record rows { partners = rows.partners ++ (record { id = id; code = code; kind = kind; next = 1 }) ∷ [] }

-- ---- changes

abbrev pub stands_for : BoxNumber → PlaceContent → Bool
stands_for container place = bytes_eq place.container container

abbrev pub is_line : CallContent → Side → BoxNumber → ListingContent → Bool
is_line call side container line =
    bytes_eq line.call.vessel call.vessel
    && (bytes_eq line.call.voyage call.voyage
    && ((side_code line.side == side_code side) && bytes_eq line.container container))

-- A change adds, alters or removes one row: of visits, of places or of lines.
abbrev pub with_change : ChangeContent → Rows → Rows
with_change (visit_opened visit) rows = record rows { visits = rows.visits ++ visit ∷ [] }
with_change (visit_closed number departure) rows = record rows { visits = map (visit_with_departure number departure) rows.visits }
with_change (placed_at container visit slot) rows =
    record rows { places = rows.places ++ (record { container = container; visit = visit; slot = slot }) ∷ [] }
with_change (moved_to container slot) rows =
    record rows {
      places = map
          (λ (p : PlaceContent). if stands_for container p then record p { slot = slot } else p) rows.places;
    }
with_change (removed_from container) rows =
    record rows { places = filter (λ p. not (stands_for container p)) rows.places }
with_change (listed_on call side container port) rows =
    record rows {
      lines = rows.lines
          ++ (record { call = call; side = side; container = container; port = port; state = Pending }) ∷ [];
    }
with_change (line_done call side container) rows =
    record rows {
      lines = map
          (λ (l : ListingContent). if is_line call side container l then record l { state = Done } else l) rows.lines;
    }
with_change (unlisted call side container) rows =
    record rows { lines = filter (λ l. not (is_line call side container l)) rows.lines }
