-- The members of a line's JSON, in the byte order of their keys: blocker, box, line, outcome, reason, slot.
use Rattle.std.specs.Prelude.{ℕ, List, Option, Some, None, codes}
use Rattle.serde_json.specs.Data.{number, unsigned, string, Members, member, no_members}

-- a member whose value is a text
abbrev pub text_member : List ℕ → List ℕ → Members → Members
text_member key text rest = member key (string text) rest

-- a member whose value is a text, if there is one
abbrev pub optional_member : List ℕ → Option (List ℕ) → Members → Members
optional_member key None rest = rest
optional_member key (Some text) rest = text_member key text rest

-- the container, if its number is known, and then the line's number
abbrev pub box_and_line : Option (List ℕ) → ℕ → Members → Members
box_and_line name line rest = optional_member (codes "box") name (member (codes "line") (number (unsigned line)) rest)

-- an outcome that is no refusal, with the container's slot, if it got one
abbrev pub settled_members : Option (List ℕ) → ℕ → List ℕ → Option (List ℕ) → Members
settled_members name line outcome slot =
    box_and_line name line (text_member (codes "outcome") outcome (optional_member (codes "slot") slot no_members))

-- a refusal, with the container that stands on the line's, if one does
abbrev pub refused_members : Option (List ℕ) → Option (List ℕ) → ℕ → List ℕ → Members
refused_members blocker name line reason =
    optional_member (codes "blocker") blocker
    (box_and_line name line
    (text_member (codes "outcome") (codes "refused") (text_member (codes "reason") reason no_members)))
