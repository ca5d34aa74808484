use Rattle.std.proofs.Common.{◌≡◌, ◌++◌, map}
use Rattle.edi_syntax.specs.Frames.{messages_left}
use Rattle.office_replies.specs.Messages.{report_content}
use Rattle.office_admission.specs.Taking.{messages_taken, messages_changes}
use Rattle.terminal_core.specs.Rows.{change_content}
use Rattle.office_admission.proofs.taking.take_messages.Given as goal

abbrev pub invariant-loop-frame : goal.invariant-loop-frame
invariant-loop-frame l = record {
  state : (messages_taken l.terminal l.codes l.source l.opened (messages_left l.frames)).0 ≡ (messages_taken l.fn.terminal l.codes l.source l.opened (messages_left l.fn.frames)).0;
  reports : map report_content l.reports.items ++ (messages_taken l.terminal l.codes l.source l.opened (messages_left l.frames)).1 ≡ (messages_taken l.fn.terminal l.codes l.source l.opened (messages_left l.fn.frames)).1;
  changes : map change_content l.changes.items ++ messages_changes l.terminal l.codes l.source l.opened (messages_left l.frames) ≡ map change_content l.fn.changes.items ++ messages_changes l.fn.terminal l.codes l.source l.opened (messages_left l.fn.frames);
}
