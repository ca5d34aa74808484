use Rattle.std.proofs.Common.{◌≡◌, ℕ, List, Option, None, Some, IfSome, map, option_map, sym, ap, subst, ◌∙◌}
use Rattle.edi_messages.specs.{Owned.call_content, Purposes.CallContent}
use Rattle.terminal_core.specs.declared.lines.Side.{Side}
use Rattle.office_rows.specs.Rows.{ListingContent, listing_content}
use Rattle.office_parts.specs.{Away.lines_away, OwnLists.list_name}
use Rattle.office_closing.{specs.Texts.IsTextOf, proofs.TextLemmas.one_list}
use Rattle.office_archives.specs.Shelves.{IsKeptAs}
use Rattle.office_archives.proofs.many_archives.ManyArchivesArchives.lines.Goals as goal

-- a text is that of one list of lines
same_lines : (call : CallContent) (side : Side) (text : List ℕ) (read : List ListingContent) (lines : Option (List ListingContent)) → IsTextOf call side text read → IsKeptAs call side (Some text) lines → Some read ≡ lines
same_lines call side text read None of kept = absurd kept
same_lines call side text read (Some lines) of kept = ap Some (one_list call side text read lines of kept)

pub returns-in-Some-2 : goal.returns-in-Some-2
returns-in-Some-2 g c list are =
    let call = call_content c.args.call.now in
    let side = c.args.side in
    let text = c.in-Some.text.now in
    let read = map listing_content c.in-Some-2.lines.items in
    let of : IsTextOf call side text read = subst (λ o. IfSome o (λ lines. IsTextOf call side text (map listing_content lines.items))) c.in-Some-2.is c.in_ok-lines.ensures.lines in
    let told = sym c.lines_of_list.ensures ∙ ap (option_map (λ t. t.now)) c.in-Some.is in
    let lines = lines_away list (list_name call side) in
    same_lines call side text read lines of (subst (λ o. IsKeptAs call side o lines) told (are.are_named.lists call side))
