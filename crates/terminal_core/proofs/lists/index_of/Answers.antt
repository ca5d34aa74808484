use Rattle.std.{specs.Prelude.slice_get, proofs.{Common.{◌≡◌, ◌<◌, length, Some, sym, ap, ◌∙◌}, lemmas.Bool.ltb-true, lemmas.Option.slice_get-get_or}}
use Rattle.edi_messages.specs.Owned.{call_content}
use Rattle.terminal_core.proofs.Noted.{first_there, none_there}
use Rattle.terminal_core.proofs.lists.index_of.Goals as goal

pub returns-then-is_line : goal.returns-then-is_line
returns-then-is_line c =
    let low : c.in-Some.row_index < length c.args.rows.now = ltb-true c.in-Some.row_index (length c.args.rows.now) (sym c.in-Some-get.ensures.lookup.0) in
    let at : slice_get c.args.rows.now c.in-Some.row_index ≡ Some c.in-Some-get.row.now = slice_get-get_or c.args.rows.now c.in-Some.row_index _ low ∙ ap Some (sym c.in-Some-get.ensures.lookup.1) in
    first_there c.args.rows.now c.args.indexes.now c.requires (call_content c.args.call.now) c.args.side c.args.container c.in-Some.row_index c.in-Some-get.row.now (sym c.noted.ensures ∙ c.in-Some.is) at
    (sym c.is_line.ensures ∙ c.if-is_line.true)

pub returns-else-is_line : goal.returns-else-is_line
returns-else-is_line c =
    let low : c.in-Some.row_index < length c.args.rows.now = ltb-true c.in-Some.row_index (length c.args.rows.now) (sym c.in-Some-get.ensures.lookup.0) in
    let at : slice_get c.args.rows.now c.in-Some.row_index ≡ Some c.in-Some-get.row.now = slice_get-get_or c.args.rows.now c.in-Some.row_index _ low ∙ ap Some (sym c.in-Some-get.ensures.lookup.1) in
    none_there c.args.rows.now c.args.indexes.now c.requires (call_content c.args.call.now) c.args.side c.args.container c.in-Some.row_index c.in-Some-get.row.now (sym c.noted.ensures ∙ c.in-Some.is) at
    (sym c.is_line.ensures ∙ c.if-is_line.false)
