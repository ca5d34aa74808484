-- The JSON of a line of a message.
use Rattle.std.specs.{Prelude.{ℕ, ◌+◌, List, [], ◌∷◌, Option, None, Some, encode_utf8_all, codes}, Option.option_map}
use Rattle.serde_json.specs.Data.{Data, object, Members}
use Rattle.box6346.specs.SlotName.{slot_text}
use Rattle.terminal_core.specs.{declared.change.Outcome.Outcome, declared.change.Outcome.TheVariants.{Done, Gone, Listed, Refused}}
use Rattle.terminal_core.specs.{declared.change.Reason.Reason, declared.change.Reason.TheVariants.Buried}
use Rattle.office_replies.specs.{Names.reason_name, Members.{settled_members, refused_members}, declared.message_report.LineReport.LineReport}

-- bytes as text, each as the character of its number: ASCII stays as it is
abbrev pub written_line : List ℕ → List ℕ
written_line bytes = encode_utf8_all bytes

abbrev pub refusal_members : Option (List ℕ) → ℕ → Reason → Members
refusal_members name line (Buried blocker) = refused_members (Some (written_line blocker)) name line (codes "Buried")
refusal_members name line reason = refused_members None name line (reason_name reason)

abbrev pub outcome_members : Option (List ℕ) → ℕ → Outcome → Members
outcome_members name line (Done slot) = settled_members name line (codes "done") (Some (written_line (slot_text slot)))
outcome_members name line Gone = settled_members name line (codes "gone") None
outcome_members name line Listed = settled_members name line (codes "listed") None
outcome_members name line (Refused reason) = refusal_members name line reason

-- a line, counted from 1 in its message
abbrev pub line_data : ℕ → LineReport → Data
line_data line report = object (outcome_members (option_map written_line report.number) line report.outcome)

-- lines, counted on from a number
abbrev pub lines_from : ℕ → List LineReport → List Data
lines_from line [] = []
lines_from line (report ∷ reports) = line_data line report ∷ lines_from (line + 1) reports
