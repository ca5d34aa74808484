-- What is looked at, and what came of a look.
use Rattle.std.specs.Prelude.{ℕ, List, Option, Result, Ok, Err}
use Rattle.office_reports.specs.{declared.query.NotNow.NotNow, declared.query.Query.Query}

-- the report of a query, the kept texts after so many of them, or what the archive at a place tells at a query
pub data Look : Type 0 where
  report : Query → Look
  texts_after : ℕ → Look
  of_archive : ℕ → Query → Look

-- what was found is what is to be reported; nothing is said of what can't be reported now
abbrev pub Tells : (Option (List ℕ) → Type 0) → Result (Option (List ℕ)) NotNow → Type 0
Tells is_told (Ok found) = is_told found
Tells is_told (Err refusal) = Unit {0}
