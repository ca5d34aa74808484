use Rattle.office_commands.proofs.MigratingLemmas.{migrated_over}
use Rattle.office_commands.proofs.migration.migrate_over.Goals as goal

-- The old store is seen as its files held it, and the new one had no table where its files held none.
pub returns-in-Ok-migrate_into-clause-ok : goal.returns-in-Ok-migrate_into-clause-ok
returns-in-Ok-migrate_into-clause-ok g c =
    let filled = c.in-Ok-migrate_into.ensures.filled in
    migrated_over _ _ c.in-Ok.conn filled.found _ _ _ c.in-Ok.ensures.judged filled.shows filled.no_tables filled.migrates
