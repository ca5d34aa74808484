-- No line is left after the last.
use Rattle.office_explain.{specs.Messages.IsNote, proofs.SendingLemmas.all_passed}
use Rattle.office_explain.proofs.reading.notes_of.Goals as goal

pub returns : goal.returns
returns c =
    all_passed (IsNote c.args.place.text.now c.args.place.number) c.args.lines.now c.loop-line.notes.items c.loop-line.line-index
    c.loop-line-test.false c.loop-line.invariant
