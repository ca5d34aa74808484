-- What a closing makes of the journal of all files: it leaves it as it is.
use Rattle.std.specs.Prelude.{◌≡◌, ℕ, ◌≤◌, List, [], ◌∷◌, ◌++◌, filter, length}
use Rattle.office_rows.specs.Rows.{Interchange}
use Rattle.office_parts.specs.{Archives.Archive, ArchiveJournal.{carried_on, journal_of}, Closing.is_beyond, Copies.{closed_after, is_above}}
use Rattle.office_closing.specs.{Arriving.arrivals, Copies.AreFirst}

-- how many texts the last of these archives has beyond what it closes: so many the next file has too
abbrev pub carried_after : (closed_before : ℕ → ℕ) → (carried : ℕ) → List Archive → ℕ
carried_after closed_before carried [] = carried
carried_after closed_before carried (archive ∷ archives) =
    carried_after archive.last_closed (carried_on closed_before archive.last_closed archive.rows.interchanges) archives

-- what these archives close
abbrev pub closed_by_all : List Archive → ℕ → ℕ
closed_by_all archives = closed_after (λ partner. 0) archives

-- A copy may follow these archives: it closes what they close, and has the texts that the last of them has beyond that. Its
-- texts beyond that are the first of the store's, and those that come after them are beyond what it closes.
pub record Follows (archives : List Archive) (copy : Archive) (own : List Interchange) : Type 0 where
  pub rises : (partner : ℕ) → closed_by_all archives partner ≤ copy.last_closed partner
  pub carries : carried_after (λ partner. 0) 0 archives
      ≤ length (arrivals (closed_by_all archives) copy.rows.interchanges)
  pub first : AreFirst (arrivals (closed_by_all archives) copy.rows.interchanges) (arrivals (closed_by_all archives) own)
  pub beyond : filter (is_above copy.last_closed) first.0 ≡ first.0

-- A closing leaves the journal as it is: what the files of a store tell with such a copy as one more archive, once some of what
-- it closes is gone from the store, is what they told before.
abbrev pub ClosingsKeepJournal : Type 0
ClosingsKeepJournal =
    (archives : List Archive) (copy : Archive) (own left : List Interchange) → Follows archives copy own
    → filter (is_beyond copy.last_closed) left ≡ filter (is_beyond copy.last_closed) own
    → journal_of (archives ++ copy ∷ []) left ≡ journal_of archives own
