-- What a store's own rows tell of a number that is not closed.
use Rattle.std.specs.Prelude.{ℕ, ◌<◌, Option, None, Some, string_bytes}
use Rattle.office_admission.specs.Setups.{SetupContent}
use Rattle.office_reports.specs.declared.query.About.{About}
use Rattle.office_desk.specs.Reports.{partner_called}
use Rattle.office_reports.specs.declared.query.About.TheVariants as about

-- the partner's number is beyond what is closed of it; of nobody nothing is closed
abbrev pub IsBeyond : (last_closed : ℕ → ℕ) → Option ℕ → (number : ℕ) → Type 0
IsBeyond last_closed None number = Unit {0}
IsBeyond last_closed (Some partner) number = last_closed partner < number

-- it is asked for the reply, the CONTRL or the ticket of such a number
abbrev pub IsOfNumberBeyond : SetupContent → (last_closed : ℕ → ℕ) → About → Type 0
IsOfNumberBeyond now last_closed (about.Reply code number) =
    IsBeyond last_closed (partner_called now (string_bytes code)) number
IsOfNumberBeyond now last_closed (about.Contrl code number) =
    IsBeyond last_closed (partner_called now (string_bytes code)) number
IsOfNumberBeyond now last_closed (about.Ticket code number) =
    IsBeyond last_closed (partner_called now (string_bytes code)) number
IsOfNumberBeyond now last_closed other = ⊥
