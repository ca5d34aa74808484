-- What is sent of the JSON of a reply, member by member: what the code relies on, and no caller has to read.
use Rattle.std.specs.Prelude.{ℕ, List, Option, None, Some, codes, option_map}
use Rattle.serde.specs.Event.{Log}
use Rattle.serde_json.specs.{Data.{number, unsigned, Members, member, no_members}, Events.SendsMembers}
use Rattle.office_replies.specs.{declared.message_report.LineMembers.LineMembers, Members.{text_member, optional_member}}

-- whatever members end an object well from here end it well, after those that were sent, from the start
abbrev pub SendsFirst : (Members → Members) → Log → Log → Type 0
SendsFirst first old new = (rest : Members) (end : Log) → SendsMembers rest new end → SendsMembers (first rest) old end

-- how many members that is
abbrev pub optional_count : Option (List ℕ) → ℕ
optional_count None = 0
optional_count (Some text) = 1

-- the members of a line, from one on
abbrev pub slot_members : LineMembers → Members
slot_members told = optional_member (codes "slot") (option_map (λ text. text.now) told.slot) no_members

abbrev pub reason_members : LineMembers → Members
reason_members told = optional_member (codes "reason") (option_map (λ text. text.now) told.reason) (slot_members told)

abbrev pub told_outcome_members : LineMembers → Members
told_outcome_members told = text_member (codes "outcome") told.outcome.now (reason_members told)

abbrev pub number_members : LineMembers → Members
number_members told = member (codes "line") (number (unsigned told.line)) (told_outcome_members told)

abbrev pub box_members : LineMembers → Members
box_members told = optional_member (codes "box") (option_map (λ text. text.now) told.name) (number_members told)

-- the members of a line
abbrev pub members_told : LineMembers → Members
members_told told = optional_member (codes "blocker") (option_map (λ text. text.now) told.blocker) (box_members told)
