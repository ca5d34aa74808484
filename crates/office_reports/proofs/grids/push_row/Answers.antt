use Rattle.std.{specs.List.range_with_len, proofs.Common.{◌++◌, codes, flat_map, string_bytes}}
use Rattle.office_reports.{specs.Views.{part_count, part_view, row_head, view_in_row}, proofs.Markup.onto}
use Rattle.office_reports.proofs.grids.push_row.Goals as goal

pub returns : goal.returns
returns c =
    let block = c.args.block.now in
    let row = c.args.row in
    let front = string_bytes c.args.text.now in
    let head = row_head block row in
    let containers = flat_map (view_in_row block row) c.args.standings.now in
    let parts = flat_map (part_view block row) (range_with_len 0 (part_count block)) in
    let headed = string_bytes c.push_row_head.new.text in
    let drawn = string_bytes c.push_containers.new.text in
    let ended = string_bytes c.push_str.new.self in
    let parted = string_bytes c.push_parts.new.text in
    let a = onto front head containers headed drawn c.in_ok-push_row_head.ensures c.in_ok-push_containers.ensures in
    let b = onto front (head ++ containers) (codes "</g></svg>\n") drawn ended a c.in_ok-push_str.ensures.bytes in
    let d = onto front (head ++ containers ++ codes "</g></svg>\n") parts ended parted b c.in_ok-push_parts.ensures in
    onto front (head ++ containers ++ codes "</g></svg>\n" ++ parts) (codes "</figure>\n") parted (string_bytes c.push_str-2.new.self) d
    c.in_ok-push_str-2.ensures.bytes
