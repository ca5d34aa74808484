use Rattle.office_commands.proofs.migration.migrate_between.Goals as goal

pub returns-clause-migrates : goal.returns-clause-migrates
returns-clause-migrates g c =
    let does = c.fill.ensures in
    record {
      ok = does.ok;
      goes_on = does.goes_on;
      stops = does.stops;
      no_damage = does.no_damage;
      crash = does.crash;
      undone = does.err;
      reads = does.reads;
    }
