-- The journal over the files of a store: its archives in the order in which they were closed, and then the store. Each file
-- begins with the texts that the one before it has beyond what it closes, those that waited then, so these are left out.
use Rattle.std.specs.Prelude.{ℕ, List, [], ◌∷◌, ◌++◌, map, filter, drop, length}
use Rattle.office_rows.specs.Rows.{Interchange}
use Rattle.office_parts.specs.{Archives.Archive, Closing.is_beyond}

abbrev pub body_of : Interchange → List ℕ
body_of i = i.body

-- the texts of a file beyond what was closed before it, in the order of its interchanges
abbrev pub texts_beyond : (closed_before : ℕ → ℕ) → List Interchange → List (List ℕ)
texts_beyond closed_before interchanges = map body_of (filter (is_beyond closed_before) interchanges)

-- what such a file adds to the journal: all of them but the first, which the file before it has too
abbrev pub texts_added : (closed_before : ℕ → ℕ) → (carried : ℕ) → List Interchange → List (List ℕ)
texts_added closed_before carried interchanges = drop carried (texts_beyond closed_before interchanges)

-- how many texts of a file the next one has too: those beyond what is closed then
abbrev pub carried_on : (closed_before closed_then : ℕ → ℕ) → List Interchange → ℕ
carried_on closed_before closed_then interchanges =
    length (filter (is_beyond closed_then) (filter (is_beyond closed_before) interchanges))

-- the journal of archives and the store after them, beyond what was closed before them
abbrev pub journal_beyond : (closed_before : ℕ → ℕ) → (carried : ℕ) → List Archive → (own : List Interchange) →
    List (List ℕ)
journal_beyond closed_before carried [] own = texts_added closed_before carried own
journal_beyond closed_before carried (archive ∷ archives) own =
    texts_added closed_before carried archive.rows.interchanges
    ++ journal_beyond archive.last_closed (carried_on closed_before archive.last_closed archive.rows.interchanges)
    archives own

-- the journal of a store and all its archives
abbrev pub journal_of : List Archive → (own : List Interchange) → List (List ℕ)
journal_of archives own = journal_beyond (λ partner. 0) 0 archives own
