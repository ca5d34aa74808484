-- What is told is of all messages up to those that are left.
use Rattle.edi_syntax.specs.Frames.{messages_left}
use Rattle.office_explain.{specs.Messages.IsToldOf, proofs.SendingLemmas.UpTo}
use Rattle.office_explain.proofs.reading.messages_from.Given as goal

abbrev pub invariant-loop-frame : goal.invariant-loop-frame
invariant-loop-frame l =
    UpTo (IsToldOf l.codes l.opened l.text) (messages_left l.fn.frames) (messages_left l.frames) l.told.items
