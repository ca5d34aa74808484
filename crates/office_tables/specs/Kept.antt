-- An interchange that is kept and taken by one call.
use Rattle.std.specs.Prelude.{ℕ, List}
use Rattle.office_rows.specs.{Rows.Rows, Effects.{with_waiting, with_reply}}

-- an interchange is added, and has this reply
abbrev pub with_kept_reply : ℕ → ℕ → List ℕ → List ℕ → Rows → Rows
with_kept_reply partner number body reply rows = with_reply partner number reply (with_waiting partner number body rows)
