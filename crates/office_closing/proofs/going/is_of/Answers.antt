use Rattle.std.proofs.Common.{rules}
use Rattle.edi_messages.specs.Owned.{call_content}
use Rattle.office_rows.specs.Rows.{listing_content}
use Rattle.office_closing.proofs.FoundLemmas.{list_tied}
use Rattle.office_closing.proofs.going.is_of.Goals as goal

pub returns-then-eq-2 : goal.returns-then-eq-2
returns-then-eq-2 c = rw (list_tied (call_content c.args.call.now) c.args.side (listing_content c.args.line.now)) (search rules)

pub returns-else-eq-2 : goal.returns-else-eq-2
returns-else-eq-2 c = rw (list_tied (call_content c.args.call.now) c.args.side (listing_content c.args.line.now)) (search rules)
