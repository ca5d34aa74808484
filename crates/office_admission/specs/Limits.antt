-- How much a terminal may have.
use Rattle.std.specs.Prelude.{ℕ}

-- the most partners
abbrev pub most_partners : ℕ
most_partners = 999

-- the most visits that it may record
abbrev pub most_visits : ℕ
most_visits = 999999999
