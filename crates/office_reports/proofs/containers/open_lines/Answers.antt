use Rattle.std.{specs.List.prefix_len, proofs.Common.{map, refl, sym, ap, ◌∙◌}}
use Rattle.terminal_core.specs.Listings.{key_of, line_entry}
use Rattle.office_reports.{specs.OpenLines.is_behind, proofs.Waits.{none_open, row_other, row_put, all_open}}
use Rattle.office_reports.proofs.containers.open_lines.Goals.{then-is_open_for+in_ok-insert, else-is_open_for}
use Rattle.office_reports.proofs.containers.open_lines.Goals as goal

pub loop-row-init : goal.loop-row-init
loop-row-init c = ap (map (λ line. line_entry line.now)) c.new-lines.ensures.items ∙ none_open c.args.container

pub loop-row-preserved : goal.loop-row-preserved
loop-row-preserved c =
    elim c.if-is_open_for.branch [
      | then-is_open_for+in_ok-insert w ↦
          ap (λ lines. map (λ line. line_entry line.now) lines.items) w.lines-is
          ∙ row_put c.args.rows.now c.requires c.loop-row.row-index c.row-item.result c.loop-row-test.true c.row-item.is c.args.container
          (λ line. line_entry line.now) c.loop-row.lines.items w.insert.new.self.items w.place_of-place.result _ w.in_ok-insert.ensures.items refl
          (w.place_of-place.ensures.place ∙ ap (prefix_len (λ line. is_behind (key_of c.row-item.result) (key_of line.now))) w.deref.ensures.value)
          (sym c.is_open_for.ensures ∙ w.if-is_open_for.true) c.loop-row.invariant
      | else-is_open_for w ↦
          ap (λ lines. map (λ line. line_entry line.now) lines.items) w.lines-is
          ∙ row_other c.args.rows.now c.requires c.loop-row.row-index c.row-item.result c.loop-row-test.true c.row-item.is c.args.container
          (map (λ line. line_entry line.now) c.loop-row.lines.items) (sym c.is_open_for.ensures ∙ w.if-is_open_for.false) c.loop-row.invariant
    ]

pub returns : goal.returns
returns c = all_open c.args.container c.args.rows.now c.loop-row.row-index (map (λ line. line_entry line.now) c.loop-row.lines.items) c.loop-row-test.false c.loop-row.invariant
