-- What is put into an object or a record one by one is what the row says.
use Rattle.std.proofs.Common.{◌≡◌, ◌∙◌, ap, ℕ, List, [], Some, String, Global, refl}
use Rattle.serde_json.specs.{Data.{object, no_members}, View.members_view, declared.value.Value.Value}
use Rattle.terminal_core.specs.Rows.{VisitContent}
use Rattle.office_admission.specs.Setups.{SetupContent}
use Rattle.office_reports.specs.declared.blocks.BlockRow.{BlockRow}
use Rattle.office_reports.specs.Passages.{arrival_by, departure_by}
use Rattle.office_report_data.specs.declared.visits.{PassageFields.PassageFields, VisitFields.VisitFields}
use Rattle.office_report_data.specs.{Blocks.{block_data, with_size, with_use}, Visits.{AreOfVisit, fields_content, passage_fields, record_of, visit_data, visit_fields, with_passages, with_stay}}
use Rattle.office_report_data.specs.Words.{load_word}

block_whole : (row : BlockRow) → object (with_use row.used (with_size row.block no_members)) ≡ block_data row
unfolding block_data with_size with_use
block_whole row = refl

-- what an object has in the end, if it is empty at first
pub block_put : (row : BlockRow) (first second third : List (String Global × Value)) → first ≡ []
    → members_view second ≡ with_size row.block (members_view first) → members_view third ≡ with_use row.used (members_view second)
    → object (members_view third) ≡ block_data row
block_put row first second third none sizes uses =
    ap object (uses ∙ ap (with_use row.used) (sizes ∙ ap (λ (m : List (String Global × Value)). with_size row.block (members_view m)) none))
    ∙ block_whole row

visit_whole : (setup : SetupContent) (visit : VisitContent)
    → object (with_passages setup visit (with_stay visit no_members)) ≡ visit_data setup visit
unfolding visit_data with_passages with_stay
visit_whole setup visit = refl

pub visit_put : (setup : SetupContent) (visit : VisitContent) (first second third : List (String Global × Value)) → first ≡ []
    → members_view second ≡ with_stay visit (members_view first)
    → members_view third ≡ with_passages setup visit (members_view second)
    → object (members_view third) ≡ visit_data setup visit
visit_put setup visit first second third none stays passes =
    ap object (passes ∙ ap (with_passages setup visit) (stays ∙ ap (λ (m : List (String Global × Value)). with_stay visit (members_view m)) none))
    ∙ visit_whole setup visit

pub visit_is : (setup : SetupContent) (visit : VisitContent) (fields : VisitFields) (load : List ℕ) (entry exit : PassageFields)
    → AreOfVisit visit fields → load ≡ load_word visit.is_laden → fields_content entry ≡ passage_fields (Some (arrival_by setup visit))
    → fields_content exit ≡ passage_fields (departure_by setup visit.departure)
    → record_of fields load entry exit ≡ visit_fields setup visit
unfolding visit_fields
visit_is setup visit fields load entry exit are laden came left = cc
