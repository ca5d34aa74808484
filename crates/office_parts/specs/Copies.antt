-- Files that have what they keep in the order of arrival: the store, and its archives as copies of it of earlier days.
use Rattle.std.specs.Prelude.{◌≡◌, ℕ, ◌≤◌, List, [], ◌∷◌, ◌++◌, map, filter, nat_le, not, Bool}
use Rattle.partner_core.specs.Deliveries.{Delivery, run}
use Rattle.office_admission.specs.{Deliveries.deliveries_of, Setups.SetupContent}
use Rattle.office_replies.specs.Events.{Event}
use Rattle.office_rows.specs.Rows.{Interchange}
use Rattle.office_parts.specs.{InOrder.as_delivery, Kept.kept, Archives.Archive, Closing.is_beyond}

-- the delivery's number is above its partner's last one that is closed
abbrev pub is_above : (last_closed : ℕ → ℕ) → Delivery → Bool
is_above last_closed d = not (nat_le d.number (last_closed d.partner))

-- beyond what is closed a file has, in the order of arrival, what is kept after those events
abbrev pub HasInOrder : SetupContent → List Event → (last_closed : ℕ → ℕ) → List Interchange → Type 0
HasInOrder content es last_closed interchanges =
    map as_delivery (filter (is_beyond last_closed) interchanges)
    ≡ filter (is_above last_closed) (kept (deliveries_of content es))

-- An archive is a copy of the store as it was after the events up to its day: it has so what is kept then. It closes what was
-- closed before, and of each partner no number beyond its run of that day.
pub record IsDayCopy (content : SetupContent) (day : List Event) (closed_before : ℕ → ℕ) (archive : Archive) : Type 0 where
  pub in_order : HasInOrder content day closed_before archive.rows.interchanges
  pub from : (partner : ℕ) → closed_before partner ≤ archive.last_closed partner
  pub to : (partner : ℕ) → archive.last_closed partner ≤ run (deliveries_of content day) partner

-- The archives are copies of days one after the other, the first after these events, and the store has the rest in order, after
-- all events.
abbrev pub AreDayCopies : SetupContent → (since : List Event) → (day : List Event) → (closed_before : ℕ → ℕ) →
    List Archive → (own : List Interchange) → Type 0
AreDayCopies content since day closed_before [] own = HasInOrder content (day ++ since) closed_before own
AreDayCopies content since day closed_before (archive ∷ archives) own =
    (between later : List Event) × (since ≡ between ++ later)
    × IsDayCopy content (day ++ between) closed_before archive
    × AreDayCopies content later (day ++ between) archive.last_closed archives own

-- from the first event on, nothing being closed before the first archive
abbrev pub AreCopiesInOrder : SetupContent → List Event → List Archive → (own : List Interchange) → Type 0
AreCopiesInOrder content es archives own = AreDayCopies content es [] (λ partner. 0) archives own

-- what is closed by the last of the archives, or was before them
abbrev pub closed_after : (closed_before : ℕ → ℕ) → List Archive → ℕ → ℕ
closed_after closed_before [] = closed_before
closed_after closed_before (archive ∷ archives) = closed_after archive.last_closed archives
