use Rattle.std.proofs.{Common.{List, sym, ◌∙◌, arith, length, subst, take}, lemmas.List.take_all, lemmas.Option.{MatchOption-at_some, MatchOption-at_none}}
use Rattle.edi_messages.specs.Owned.{call_content}
use Rattle.terminal_core.specs.{declared.lines.Listing.Listing, Listings.{NoneBefore, IsFirstAt}, LineIndexes.AreNoted, Restoring.AreOnce}
use Rattle.terminal_core.proofs.{Indexed.{some_of, none_of}, Lined.{once_more, not_once}, Noted.next_noted}
use Rattle.terminal_core.proofs.lists.noted_lines.Goals as goal

pub returns-then-is_some : goal.returns-then-is_some
returns-then-is_some c once =
    let row = c.index-rows-i.result in
    let before : List Listing = take c.loop-i.i c.args.rows.now in
    let found = some_of c.index_of.result (sym c.is_some.ensures ∙ c.if-is_some.true) in
    let first = MatchOption-at_some (NoneBefore (call_content row.call) row.side row.container before (length before)) (IsFirstAt (call_content row.call) row.side row.container before) found.0 found.1 c.index_of.ensures in
    not_once c.args.rows.now c.loop-i.i found.0 row (omega arith) c.index-rows-i.is first once

pub loop-i-preserved : goal.loop-i-preserved
loop-i-preserved c =
    let row = c.index-rows-i.result in
    let before : List Listing = take c.loop-i.i c.args.rows.now in
    let none = MatchOption-at_none (NoneBefore (call_content row.call) row.side row.container before (length before)) (IsFirstAt (call_content row.call) row.side row.container before) (none_of c.index_of.result (sym c.is_some.ensures ∙ c.if-is_some.false)) c.index_of.ensures in
    record {
      once = once_more c.args.rows.now c.loop-i.i row (omega arith) c.index-rows-i.is none c.loop-i.invariant.once;
      noted = next_noted c.args.rows.now c.loop-i.i row c.loop-i.indexes c.note.new.indexes (omega arith) c.index-rows-i.is none c.loop-i.invariant.noted c.in_ok-note.ensures.ok;
    }

pub returns : goal.returns
returns c =
    let P : List Listing → Type 0 = AreOnce in
    let Q : List Listing → Type 0 = λ rows. AreNoted rows c.loop-i.indexes in
    (subst P (take_all c.loop-i.i c.args.rows.now (omega arith)) c.loop-i.invariant.once, subst Q (take_all c.loop-i.i c.args.rows.now (omega arith)) c.loop-i.invariant.noted)
