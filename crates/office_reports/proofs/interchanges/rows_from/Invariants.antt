use Rattle.std.proofs.Common.{◌≡◌, ◌+◌, ◌++◌, length, map}
use Rattle.edi_syntax.specs.Frames.{messages_left}
use Rattle.serde_json.specs.View.{view}
use Rattle.office_reports.specs.Interchanges.{row_content, rows_from}
use Rattle.office_reports.proofs.interchanges.rows_from.Given as goal

abbrev pub invariant-loop-frame : goal.invariant-loop-frame
invariant-loop-frame l = record {
  rows : map row_content l.rows.items ++ rows_from l.codes l.opened l.place (messages_left l.frames) (map view l.replies)
      ≡ rows_from l.codes l.opened 0 (messages_left l.fn.frames) (map view l.replies);
  counted : l.place + length (messages_left l.frames) ≡ length (messages_left l.fn.frames);
}
