use Rattle.std.proofs.Common.{Bool, Option, IfSome, subst}
use Rattle.sqlite.specs.Held.{state}
use Rattle.office_closing.specs.Transactions.{IsSettled}
use Rattle.office_archive_files.specs.Closing.{MayMakeRegister, TellsNone}
use Rattle.office_archive_files.proofs.closing.open_made.Goals as goal

-- The tables were made, if they weren't there.
pub returns-in-Some-clause-shows : goal.returns-in-Some-clause-shows
returns-in-Some-clause-shows g c =
    let found = c.in_ok-conn.conn in
    let conn = c.make_tables.new.conn in
    record {
      found = found;
      shows = c.in_ok-conn.ensures.shows;
      empty = c.in_ok-conn.ensures.empty;
      clean = c.make_tables.ensures.clean;
      made = λ clean. subst (λ (o : Option Bool). IfSome o (λ names_none. MayMakeRegister g.S.Store c.args.may_make names_none found conn)) c.in-Some.is (c.in_ok-names_none.ensures.made clean);
      tells = λ clean. subst (λ (o : Option Bool). IfSome o (TellsNone g.S.Store found)) c.in-Some.is (c.in_ok-names_none.ensures.tells clean);
      settled = λ clean. subst (λ (o : Option Bool). IfSome o (λ _. IsSettled (state g.S.Store conn))) c.in-Some.is (c.in_ok-names_none.ensures.settled clean);
    }
