use Rattle.office_commands.proofs.migration.open_older.Goals as goal

-- What was opened shows what the files held.
pub returns : goal.returns
returns g c = record {
  judged = record { found = c.in_ok-conn.conn; shows = c.in_ok-conn.ensures.found; looked = c.in_ok-look_at.ensures.looked };
}
