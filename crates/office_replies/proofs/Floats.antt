-- A reply has no float, so its text is known.
use Rattle.std.proofs.Common.{◌≡◌, ℕ, List, append_assoc, ◌+◌, [], ◌∷◌, false, Option, Some, None, refl, map, suc, length, option_map, codes, ap, arith}
use Rattle.serde_json.specs.{Data.{Data, Members, no_members}, Written.{compact_text, has_float, items_have_float, members_have_float}, View.items_of}
use Rattle.serde_json.{specs.Events.{items_len, members_len}, proofs.OnLiterals.serde_json_on_literals}
use Rattle.office_replies.specs.{Bodies.{joined_head, answer_text, answer_data}, declared.message_report.LineReport.LineReport}
use Rattle.office_replies.specs.{Members.{refused_members, optional_member}, Lines.{written_line, refusal_members, outcome_members, lines_from}}
use Rattle.office_replies.specs.Messages.{VerdictContent, accepted, rejected, ReportContent, verdict_data, report_data, reply_data, report_content}
use Rattle.office_replies.specs.{declared.message_report.LineMembers.LineMembers, declared.message_report.MessageReport.MessageReport}
use Rattle.office_replies.specs.Sent.{optional_count, slot_members, number_members, box_members, members_told}
use Rattle.terminal_core.specs.{declared.change.Outcome.Outcome, declared.change.Outcome.TheVariants.{Done, Gone, Listed, Refused}}
use Rattle.terminal_core.specs.declared.change.Reason.{Reason}
use Rattle.terminal_core.specs.declared.change.Reason.TheVariants.{Form, CheckDigit, Size, Moment, SlotText, AlreadyIn, NotIn, AlreadyListed, NotListed, ListLineDone, Buried, NoSlot, SlotKind, Taken, OnAir, OnEmpty, NoRoom, VisitLimit}

-- ==== Joined: A reply joined into an answer as text is the JSON of the whole.

pub answer_text-data : (answer : List ℕ) (n : ℕ) (partner : List ℕ) (d : Data) → answer_text answer n partner (compact_text d) ≡ compact_text (answer_data answer n partner d)
unfolding joined_head serde_json_on_literals
answer_text-data answer n partner d = simp append_assoc

-- ==== Floats: A reply has no float, so its text is known.

refused_has_no_float : (blocker name : Option (List ℕ)) (line : ℕ) (reason : List ℕ) → members_have_float (refused_members blocker name line reason) ≡ false
refused_has_no_float None None line reason = refl
refused_has_no_float None (Some name) line reason = refl
refused_has_no_float (Some blocker) None line reason = refl
refused_has_no_float (Some blocker) (Some name) line reason = refl

refusal_has_no_float : (name : Option (List ℕ)) (line : ℕ) (reason : Reason) → members_have_float (refusal_members name line reason) ≡ false
refusal_has_no_float name line (Buried blocker) = refused_has_no_float (Some (written_line blocker)) name line _
refusal_has_no_float name line Form = refused_has_no_float None name line _
refusal_has_no_float name line CheckDigit = refused_has_no_float None name line _
refusal_has_no_float name line Size = refused_has_no_float None name line _
refusal_has_no_float name line Moment = refused_has_no_float None name line _
refusal_has_no_float name line SlotText = refused_has_no_float None name line _
refusal_has_no_float name line AlreadyIn = refused_has_no_float None name line _
refusal_has_no_float name line NotIn = refused_has_no_float None name line _
refusal_has_no_float name line AlreadyListed = refused_has_no_float None name line _
refusal_has_no_float name line NotListed = refused_has_no_float None name line _
refusal_has_no_float name line ListLineDone = refused_has_no_float None name line _
refusal_has_no_float name line NoSlot = refused_has_no_float None name line _
refusal_has_no_float name line SlotKind = refused_has_no_float None name line _
refusal_has_no_float name line Taken = refused_has_no_float None name line _
refusal_has_no_float name line OnAir = refused_has_no_float None name line _
refusal_has_no_float name line OnEmpty = refused_has_no_float None name line _
refusal_has_no_float name line NoRoom = refused_has_no_float None name line _
refusal_has_no_float name line VisitLimit = refused_has_no_float None name line _

outcome_has_no_float : (name : Option (List ℕ)) (line : ℕ) (outcome : Outcome) → members_have_float (outcome_members name line outcome) ≡ false
outcome_has_no_float None line (Done slot) = refl
outcome_has_no_float (Some name) line (Done slot) = refl
outcome_has_no_float None line Gone = refl
outcome_has_no_float (Some name) line Gone = refl
outcome_has_no_float None line Listed = refl
outcome_has_no_float (Some name) line Listed = refl
outcome_has_no_float name line (Refused reason) = refusal_has_no_float name line reason

lines_have_no_float : (line : ℕ) (reports : List LineReport) → items_have_float (items_of (lines_from line reports)) ≡ false
lines_have_no_float line [] = refl
lines_have_no_float line (report ∷ reports) = rw (outcome_has_no_float _ line report.outcome) (lines_have_no_float (line + 1) reports)

verdict_has_no_float : (reference : List ℕ) (verdict : VerdictContent) → has_float (verdict_data reference verdict) ≡ false
verdict_has_no_float reference (accepted None lines) = rw (lines_have_no_float 1 lines) refl
verdict_has_no_float reference (accepted (Some count) lines) = rw (lines_have_no_float 1 lines) refl
verdict_has_no_float reference (rejected fault code) = refl

reports_have_no_float : (reports : List ReportContent) → items_have_float (items_of (map report_data reports)) ≡ false
reports_have_no_float [] = refl
reports_have_no_float (report ∷ reports) = rw (verdict_has_no_float report.reference report.verdict) (reports_have_no_float reports)

pub reply_has_no_float : (contrl : List ℕ) (reports : List ReportContent) → has_float (reply_data contrl reports) ≡ false
reply_has_no_float contrl reports = rw (reports_have_no_float reports) refl

-- ==== Counts: How many members and items are sent.

optional_len : (key : List ℕ) (text : Option (List ℕ)) (rest : Members) → members_len (optional_member key text rest) ≡ optional_count text + members_len rest
optional_len key None rest = omega arith
optional_len key (Some text) rest = omega arith

pub told_len : (told : LineMembers) → members_len (members_told told) ≡ 2 + optional_count (option_map (λ text. text.now) told.blocker) + optional_count (option_map (λ text. text.now) told.name) + optional_count (option_map (λ text. text.now) told.reason) + optional_count (option_map (λ text. text.now) told.slot)
told_len told =
    let blocker = optional_len (codes "blocker") (option_map (λ text. text.now) told.blocker) (box_members told) in
    let name = optional_len (codes "box") (option_map (λ text. text.now) told.name) (number_members told) in
    let reason = optional_len (codes "reason") (option_map (λ text. text.now) told.reason) (slot_members told) in
    let slot = optional_len (codes "slot") (option_map (λ text. text.now) told.slot) no_members in
    grind (arith, blocker, name, reason, slot)

pub lines_len : (line : ℕ) (reports : List LineReport) → items_len (items_of (lines_from line reports)) ≡ length reports
lines_len line [] = refl
lines_len line (report ∷ reports) = ap suc (lines_len (line + 1) reports)

pub reports_len : (reports : List MessageReport) → items_len (items_of (map report_data (map report_content reports))) ≡ length reports
reports_len [] = refl
reports_len (report ∷ reports) = ap suc (reports_len reports)
