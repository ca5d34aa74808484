-- The report on what is left to do of a vessel's list as JSON and as CSV, its rows in the order of the text.
use Rattle.std.specs.Prelude.{ℕ, List, [], ◌∷◌, ◌++◌, codes, decimal, Option}
use Rattle.serde_json.specs.Data.{Data, string, number, unsigned, object, member, no_members}
use Rattle.terminal_core.specs.State.{side_code}
use Rattle.office_reports.specs.{Names.slot_name, Work.{JobContent, WorkContent, in_order}, declared.yard.Standing.Standing}
use Rattle.office_report_data.specs.{Rows.rows_data, Tables.table_text, Words.{container_field, container_or_null, field_of, or_null, side_word, text_or_null}}

-- where it is, and what, if it is in the yard

abbrev pub slot_or_null : Option Standing → Data
slot_or_null standing = or_null (λ shown. string (slot_name shown.slot)) standing

abbrev pub size_or_null : Option Standing → Data
size_or_null standing = or_null (λ shown. string shown.size_type) standing

abbrev pub job_data : JobContent → Data
job_data job =
    object (member (codes "container") (string job.container) (member (codes "port") (text_or_null job.port)
    (member (codes "size_type") (size_or_null job.standing) (member (codes "slot") (slot_or_null job.standing)
    (member (codes "under") (container_or_null job.blocker) no_members)))))

abbrev pub work_data : WorkContent → Data
work_data work =
    object (member (codes "done") (number (unsigned work.done))
    (member (codes "jobs") (rows_data job_data (in_order work.side work.jobs))
    (member (codes "lines") (number (unsigned work.whole)) (member (codes "side") (string (side_word (side_code work.side ∷ [])))
    (member (codes "vessel") (string work.call.vessel) (member (codes "voyage") (string work.call.voyage) no_members))))))

-- ---- what stands before the jobs, and after them

unfoldable pub work_front : (done : ℕ) → List ℕ
work_front done = codes "{\"done\":" ++ decimal done ++ codes ",\"jobs\":["

unfoldable pub lines_member : (whole : ℕ) → List ℕ
lines_member whole = codes ",\"lines\":" ++ decimal whole

-- ---- as CSV

unfoldable pub work_header : List (List ℕ)
work_header = codes "slot" ∷ codes "container" ∷ codes "size_type" ∷ codes "port" ∷ codes "under" ∷ []

abbrev pub slot_field : Option Standing → List ℕ
slot_field standing = field_of (λ shown. slot_name shown.slot) standing

abbrev pub size_field : Option Standing → List ℕ
size_field standing = field_of (λ shown. shown.size_type) standing

abbrev pub job_fields : JobContent → List (List ℕ)
job_fields job =
    slot_field job.standing ∷ job.container ∷ size_field job.standing ∷ job.port ∷ container_field job.blocker ∷ []

abbrev pub work_table : WorkContent → List ℕ
work_table work = table_text work_header job_fields (in_order work.side work.jobs)
