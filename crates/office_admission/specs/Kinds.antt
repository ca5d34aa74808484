-- The words for what a partner is.
use Rattle.std.specs.{Prelude.{List, ℕ, Option, None, Some, codes, if◌then◌else◌}, Str.bytes_eq}
use Rattle.edi_messages.specs.{declared.codes.PartnerKind.PartnerKind, declared.codes.PartnerKind.TheVariants.{Gate, Line, Quay, Yard}}

-- what a word says that a partner is
abbrev pub kind_named : List ℕ → Option PartnerKind
kind_named word =
    if bytes_eq word (codes "gate") then Some Gate
    else if bytes_eq word (codes "line") then Some Line
    else if bytes_eq word (codes "quay") then Some Quay
    else if bytes_eq word (codes "yard") then Some Yard else None
