use Rattle.office_commands.proofs.migration.migrate_into.Goals as goal

-- The new store shows what its files held.
pub returns-clause-filled : goal.returns-clause-filled
returns-clause-filled g c =
    let opened = c.in_ok-newer.ensures in
    record {
      found = c.in_ok-newer.newer;
      shows = opened.found;
      no_tables = opened.empty;
      migrates = c.migrate_between-outcome.ensures.migrates;
    }
