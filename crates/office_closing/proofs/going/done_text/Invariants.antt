use Rattle.std.proofs.Common.{map, take, string_bytes}
use Rattle.office_rows.specs.Rows.{listing_content}
use Rattle.office_closing.specs.Found.{TellsDone, list_on}
use Rattle.office_closing.proofs.going.done_text.Given as goal

abbrev pub invariant-loop-other : goal.invariant-loop-other
invariant-loop-other l = TellsDone (map listing_content (take l.other-index l.lines)) (list_on (listing_content l.line)) (string_bytes l.text)
