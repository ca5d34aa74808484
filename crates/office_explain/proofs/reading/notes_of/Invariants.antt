-- What is told is of all lines up to those that are left.
use Rattle.std.proofs.Common.{drop}
use Rattle.office_explain.{specs.Messages.IsNote, proofs.SendingLemmas.UpTo}
use Rattle.office_explain.proofs.reading.notes_of.Given as goal

abbrev pub invariant-loop-line : goal.invariant-loop-line
invariant-loop-line l =
    UpTo (IsNote l.place.text.now l.place.number) l.lines (drop l.line-index l.lines) l.notes.items
