use Rattle.std.proofs.Common.{◌≡◌, ◌++◌, length, string_bytes}
use Rattle.office_pages.specs.Drawn.{picture_view}
use denote.Text.{Utf8}
use denote.Shadow.{shadow}
use Rattle.office_pages.proofs.drawn.push_picture.Given as goal

abbrev pub invariant-lines : goal.invariant-lines
invariant-lines l = shadow (Utf8 l.rest) × (string_bytes l.page ++ picture_view l.rest ≡ string_bytes l.initial.page ++ picture_view l.text)

abbrev pub decreases-lines : goal.decreases-lines
decreases-lines l = length l.rest
