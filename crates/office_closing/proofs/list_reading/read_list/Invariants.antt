use Rattle.std.proofs.Common.{length, map}
use Rattle.edi_messages.specs.Owned.{call_content}
use Rattle.office_rows.specs.Rows.{listing_content}
use Rattle.office_closing.proofs.TextLemmas.{IsReadUpTo}
use denote.Text.{Utf8}
use denote.Shadow.{shadow}
use Rattle.office_closing.proofs.list_reading.read_list.Given as goal

abbrev pub invariant-lines : goal.invariant-lines
invariant-lines l = shadow (Utf8 l.rest) × IsReadUpTo (call_content l.call) l.side l.text (map listing_content l.lines.items) l.rest

abbrev pub decreases-lines : goal.decreases-lines
decreases-lines l = length l.rest
