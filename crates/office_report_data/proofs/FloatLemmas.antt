-- A report has no float, so its text is known.
use Rattle.std.{specs.Prelude.◌==◌, proofs.Common.{◌≡◌, ◌∙◌, ap, ℕ, ℤ, pos, negsuc, List, [], ◌∷◌, Bool, true, false, cond, Option, Some, None, map, refl}}
use Rattle.std.proofs.{Common.{Global, IfOk, Result, String, string_bytes}, lemmas.Result.IfOk-weaker}
use Rattle.serde_json.specs.{Data.{Data, null, number, unsigned}, Find.of_integer, View.items_of, Written.{compact_text, has_float, items_have_float}}
use Rattle.edi_syntax.specs.Moments.{CivilMoment}
use Rattle.terminal_core.specs.{declared.visits.Departure.Departure, Rows.VisitContent, State.{LineContent, LineKey}}
use Rattle.office_admission.specs.Setups.{SetupContent}
use Rattle.office_reports.specs.{declared.blocks.BlockRow.BlockRow, declared.calls.ListCount.ListCount, declared.yard.Standing.Standing, Containers.{ContainerContent, StayContent}}
use Rattle.office_reports.specs.{Partners.PartnerRowContent, Passages.departure_by, Work.JobContent}
use Rattle.office_report_data.specs.{Blocks.block_data, Calls.call_data, Containers.{container_data, line_data, passage_data, stay_data}, Lists.listed_data, Yard.standing_data}
use Rattle.office_report_data.specs.{Partners.{partner_data, waiting_data}, Tickets.{closed_data, exit_data, opened_data}, Visits.{days_data, visit_data}}
use Rattle.office_report_data.specs.Words.{number_or_null, or_null, text_or_null}
use Rattle.office_report_data.specs.Work.{job_data, size_or_null, slot_or_null}

-- what is written of a value without float
pub told_text : {E : Type 0} (result : Result (String Global) E) (value told : Data) → value ≡ told → has_float told ≡ false
    → IfOk result (λ text. has_float value ≡ false → string_bytes text ≡ compact_text value)
    → IfOk result (λ text. string_bytes text ≡ compact_text told)
told_text result value told is floatless written =
    IfOk-weaker result _ _ (λ text known. known (ap has_float is ∙ floatless) ∙ ap compact_text is) written

-- ---- what may be null

pub text_has_none : (text : List ℕ) → has_float (text_or_null text) ≡ false
text_has_none [] = refl
text_has_none (b ∷ bs) = refl

chosen_has_none : (b : Bool) (n : ℕ) → has_float (cond b null (number (unsigned n))) ≡ false
chosen_has_none true n = refl
chosen_has_none false n = refl

pub number_has_none : (n : ℕ) → has_float (number_or_null n) ≡ false
number_has_none n = chosen_has_none (n == 0) n

integer_has_none : (z : ℤ) → has_float (number (of_integer z)) ≡ false
integer_has_none (pos n) = refl
integer_has_none (negsuc n) = refl

pub option_has_none : {X : Type 0} (shown : X → Data) (thing : Option X) → ((x : X) → has_float (shown x) ≡ false)
    → has_float (or_null shown thing) ≡ false
option_has_none shown None each = refl
option_has_none shown (Some x) each = each x

-- ---- rows

pub standing_has_no_float : (standing : Standing) → has_float (standing_data standing) ≡ false
standing_has_no_float standing = refl

pub listed_has_no_float : (entry : List ℕ × LineContent) → has_float (listed_data entry) ≡ false
listed_has_no_float entry = rw (text_has_none entry.1.port) refl

slot_has_none : (standing : Option Standing) → has_float (slot_or_null standing) ≡ false
slot_has_none standing = option_has_none _ standing (λ shown. refl)

size_has_none : (standing : Option Standing) → has_float (size_or_null standing) ≡ false
size_has_none standing = option_has_none _ standing (λ shown. refl)

pub job_has_no_float : (job : JobContent) → has_float (job_data job) ≡ false
job_has_no_float job =
    rw (text_has_none job.port) (rw (size_has_none job.standing) (rw (slot_has_none job.standing)
    (rw (option_has_none _ job.blocker (λ number. refl)) refl)))

days_have_none : (entry : CivilMoment) (departure : Option Departure) → has_float (days_data entry departure) ≡ false
days_have_none entry departure = option_has_none _ departure (λ exit. integer_has_none _)

pub visit_has_no_float : (setup : SetupContent) (visit : VisitContent) → has_float (visit_data setup visit) ≡ false
unfolding visit_data
visit_has_no_float setup visit =
    rw (text_has_none visit.booking) (rw (days_have_none visit.arrival.moment visit.departure)
    (rw (option_has_none passage_data (departure_by setup visit.departure) (λ passage. refl)) (rw (number_has_none visit.kilos) refl)))

pub partner_has_no_float : (row : PartnerRowContent) → has_float (partner_data row) ≡ false
partner_has_no_float row = rw (option_has_none waiting_data row.waiting (λ waiting. refl)) refl

pub call_has_no_float : (vessel voyage side : List ℕ) (count : ListCount) → has_float (call_data (vessel ∷ voyage ∷ side ∷ [], count)) ≡ false
call_has_no_float vessel voyage side count = refl

pub block_has_no_float : (row : BlockRow) → has_float (block_data row) ≡ false
unfolding block_data
block_has_no_float row = refl

pub opened_has_no_float : (visit : VisitContent) → has_float (opened_data visit) ≡ false
opened_has_no_float visit = refl

exit_has_none : (departure : Option Departure) → has_float (exit_data departure) ≡ false
exit_has_none departure = option_has_none _ departure (λ exit. refl)

pub closed_has_no_float : (visit : VisitContent) → has_float (closed_data visit) ≡ false
closed_has_no_float visit = rw (exit_has_none visit.departure) refl

-- ---- a container

line_has_none : (entry : LineKey × LineContent) → has_float (line_data entry) ≡ false
line_has_none ([], line) = refl
line_has_none (a ∷ [], line) = refl
line_has_none (a ∷ b ∷ [], line) = refl
line_has_none (a ∷ b ∷ c ∷ [], line) = refl
line_has_none (a ∷ b ∷ c ∷ d ∷ [], line) = rw (text_has_none line.port) refl
line_has_none (a ∷ b ∷ c ∷ d ∷ e ∷ more, line) = refl

lines_have_none : (lines : List (LineKey × LineContent)) → items_have_float (items_of (map line_data lines)) ≡ false
lines_have_none [] = refl
lines_have_none (entry ∷ lines) = rw (line_has_none entry) (lines_have_none lines)

stay_has_none : (stay : StayContent) → has_float (stay_data stay) ≡ false
stay_has_none stay =
    rw (text_has_none stay.booking) (rw (number_has_none stay.kilos) (rw (lines_have_none stay.lists)
    (rw (option_has_none _ stay.blocker (λ number. refl)) refl)))

pub container_has_no_float : (report : ContainerContent) → has_float (container_data report) ≡ false
container_has_no_float report =
    rw (option_has_none passage_data report.passage (λ passage. refl)) (rw (option_has_none stay_data report.stay stay_has_none) refl)
