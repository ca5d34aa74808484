use Rattle.std.proofs.Common.{inl}
use Rattle.office_commands.proofs.texts.print_all.Goals as goal

-- The texts were written, and then ended.
pub returns-in-Some-clause-prints : goal.returns-in-Some-clause-prints
returns-in-Some-clause-prints g c =
    inl (c.in-Some.left, g.W.Write.contents c.write_journal.new.writer.inner, rw c.in-Some.is at c.in_ok-left.ensures.writes, c.end_texts.ensures)
