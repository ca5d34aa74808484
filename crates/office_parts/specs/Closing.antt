-- What a closing makes of a store: rows that an archive holds go, up to a number of each partner, and all else stays.
use Rattle.std.specs.Prelude.{ℕ, ◌≤◌, Bool, nat_le, not, ◌&&◌, ◌++◌, List, filter}
use Rattle.partner_core.specs.Deliveries.{run}
use Rattle.terminal_core.specs.Rows.{VisitContent}
use Rattle.office_admission.specs.{Deliveries.deliveries_of, Setups.SetupContent}
use Rattle.office_replies.specs.Events.{Event}
use Rattle.office_rows.specs.Rows.{Interchange, Rows}
use Rattle.office_parts.specs.{OwnTerminal.{own_visits, MayStay}, Parts.Archived}

-- its number is at most its partner's last one that is closed
abbrev pub is_closed : (last_closed : ℕ → ℕ) → Interchange → Bool
is_closed last_closed i = nat_le i.number (last_closed i.partner)

abbrev pub is_beyond : (last_closed : ℕ → ℕ) → Interchange → Bool
is_beyond last_closed i = not (is_closed last_closed i)

abbrev pub is_put_away : (stays : ℕ → Bool) → VisitContent → Bool
is_put_away stays visit = not (stays visit.number)

-- the rows that the store goes on with: the interchanges beyond what is closed, the visits whose numbers stay, and all else
abbrev pub carried : (last_closed : ℕ → ℕ) → (stays : ℕ → Bool) → Rows → Rows
carried last_closed stays rows =
    record rows {
      interchanges = filter (is_beyond last_closed) rows.interchanges;
      visits = own_visits stays rows.visits;
    }

-- what the archives hold then: what they held, and what goes from the store
abbrev pub archived_with : Archived → Rows → (last_closed : ℕ → ℕ) → (stays : ℕ → Bool) → Archived
archived_with archived own last_closed stays = record {
  interchanges = archived.interchanges ++ filter (is_closed last_closed) own.interchanges;
  last_closed = last_closed;
  visits = archived.visits ++ filter (is_put_away stays) own.visits;
  stays = λ number. archived.stays number && stays number;
}

-- the whole, its interchanges in the order in which they were put away
abbrev pub whole_with : Archived → Rows → Rows → Rows
whole_with archived own whole = record whole { interchanges = archived.interchanges ++ own.interchanges }

-- these numbers may be closed, of each partner none fewer than before and none beyond its run; and of the store's visits
-- those may stay
pub record MayClose (content : SetupContent) (es : List Event) (archived : Archived) (own : Rows)
    (last_closed : ℕ → ℕ) (stays : ℕ → Bool) : Type 0 where
  pub from : (partner : ℕ) → archived.last_closed partner ≤ last_closed partner
  pub to : (partner : ℕ) → last_closed partner ≤ run (deliveries_of content es) partner
  pub stay : MayStay stays own.visits
