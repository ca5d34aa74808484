-- Why a report can't be reported.
use Rattle.std.specs.Prelude.{◌⊎◌, ℕ, ◌≤◌, length, Option, None, Some, string_bytes}
use Rattle.office_loading.specs.Waiting.{HasHighWaiting}
use Rattle.office_reports.specs.declared.query.About.{About}
use Rattle.office_rows.specs.Rows.{Rows}
use Rattle.office_admission.specs.Setups.{SetupContent}
use Rattle.office_tables.specs.Answers.{HasUnfitReply, LacksNext}
use Rattle.office_desk.specs.Reports.{partner_called}
use Rattle.office_reports.specs.declared.query.About.TheVariants as about

-- ---- over the rows of an office

-- a reply that is kept for the partner under that number is no text; where no partner has the code, none is kept
abbrev pub HasUnfitReplyOf : Rows → ℕ → Option ℕ → Type 0
HasUnfitReplyOf rows number None = ⊥
HasUnfitReplyOf rows number (Some partner) = HasUnfitReply partner number rows

-- it is asked about an interchange's reply, and this is no text
abbrev pub AsksUnfitReply : SetupContent → Rows → About → Type 0
AsksUnfitReply content rows (about.Ticket partner number) =
    HasUnfitReplyOf rows number (partner_called content (string_bytes partner))
AsksUnfitReply content rows (about.Reply partner number) =
    HasUnfitReplyOf rows number (partner_called content (string_bytes partner))
AsksUnfitReply content rows (about.Contrl partner number) =
    HasUnfitReplyOf rows number (partner_called content (string_bytes partner))
AsksUnfitReply content rows others = ⊥

-- ---- over any rows: what the code relies on, and no caller has to read

-- the next number under this id can't be read, or one that waits after a number
abbrev pub LacksNumbers : Rows → ℕ → Type 0
LacksNumbers rows id = LacksNext id rows ⊎ ((next : ℕ) × HasHighWaiting id next rows)

-- so it is under one of the first ids
abbrev pub LacksSome : Rows → (count : ℕ) → Type 0
LacksSome rows count = (id : ℕ) × (1 ≤ id) × (id ≤ count) × LacksNumbers rows id

-- what is kept under the number has a reply that is no text, or the partner's next number can't be read
abbrev pub LacksReply : Rows → ℕ → Option ℕ → Type 0
LacksReply rows number None = ⊥
LacksReply rows number (Some partner) = HasUnfitReply partner number rows ⊎ LacksNext partner rows

-- what is asked of the tables can't be read
abbrev pub AsksUnreadable : SetupContent → Rows → About → Type 0
AsksUnreadable content rows (about.Ticket partner number) =
    HasUnfitReplyOf rows number (partner_called content (string_bytes partner))
AsksUnreadable content rows (about.Reply partner number) =
    LacksReply rows number (partner_called content (string_bytes partner))
AsksUnreadable content rows (about.Contrl partner number) =
    HasUnfitReplyOf rows number (partner_called content (string_bytes partner))
AsksUnreadable content rows about.Partners = LacksSome rows (length content.partners)
AsksUnreadable content rows (about.Partner code) = LacksSome rows (length content.partners)
AsksUnreadable content rows (about.Next code) = LacksSome rows (length content.partners)
AsksUnreadable content rows about.Health = LacksSome rows (length content.partners)
AsksUnreadable content rows about.Metrics = LacksSome rows (length content.partners)
AsksUnreadable content rows about.Start = LacksSome rows (length content.partners)
AsksUnreadable content rows others = ⊥
