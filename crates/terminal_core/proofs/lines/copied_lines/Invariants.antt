use Rattle.std.{specs.Prelude.map, proofs.Common.{◌≡◌, take}}
use Rattle.terminal_core.specs.Listings.{line_entry}
use Rattle.terminal_core.proofs.lines.copied_lines.Given as goal

abbrev pub invariant-loop-row : goal.invariant-loop-row
invariant-loop-row l = map line_entry l.copies.items ≡ map line_entry (take l.row-index l.rows)
