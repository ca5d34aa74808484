-- An archive that is asked as the store that it was.
use Rattle.std.specs.Prelude.{◌≡◌, ℕ, ◌<◌, ◌≤◌, Option, None, Some, string_bytes}
use Rattle.office_rows.specs.Rows.{Rows}
use Rattle.office_admission.specs.Setups.{SetupContent}
use Rattle.office_reports.specs.declared.query.About.{About}
use Rattle.office_history.specs.{After.reply_in, Cascade.text_in}
use Rattle.office_desk.specs.Reports.{partner_called}
use Rattle.office_reports.specs.declared.query.About.TheVariants as about

-- the rows keep under the partner's number the text and the reply that the earlier ones kept
pub record KeepsNumber (before after : Rows) (partner number : ℕ) : Type 0 where
  pub text : text_in after partner number ≡ text_in before partner number
  pub reply : reply_in after partner number ≡ reply_in before partner number

-- the partner's number is above the last one that was closed before, and up to the last that is closed now
abbrev pub IsBetween : (before last : ℕ → ℕ) → Option ℕ → (number : ℕ) → Type 0
IsBetween before last None number = ⊥
IsBetween before last (Some partner) number = (before partner < number) × (number ≤ last partner)

-- it is asked for the reply, the CONTRL or the ticket of such a number
abbrev pub IsOfNumberBetween : SetupContent → (before last : ℕ → ℕ) → About → Type 0
IsOfNumberBetween now before last (about.Reply code number) =
    IsBetween before last (partner_called now (string_bytes code)) number
IsOfNumberBetween now before last (about.Contrl code number) =
    IsBetween before last (partner_called now (string_bytes code)) number
IsOfNumberBetween now before last (about.Ticket code number) =
    IsBetween before last (partner_called now (string_bytes code)) number
IsOfNumberBetween now before last other = ⊥
