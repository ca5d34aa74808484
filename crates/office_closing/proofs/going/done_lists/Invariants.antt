use Rattle.std.proofs.Common.{map, take}
use Rattle.office_parts.specs.Named.{named_list_content}
use Rattle.office_closing.{specs.Lists.list_content, proofs.FoundLemmas.AreFoundOf}
use Rattle.office_rows.specs.Rows.{listing_content}
use Rattle.office_closing.proofs.going.done_lists.Given as goal

abbrev pub invariant-loop-index : goal.invariant-loop-index
invariant-loop-index l = AreFoundOf (map listing_content l.lines) (map named_list_content l.named) l.archive (map listing_content (take l.index l.lines)) (map list_content l.found.items)
