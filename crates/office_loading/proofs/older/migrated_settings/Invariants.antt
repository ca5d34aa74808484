use Rattle.std.proofs.Common.{◌≡◌, map}
use Rattle.office_rows.specs.Migrated.{migrated_settings}
use Rattle.office_loading.specs.Contents.{setting_content}
use Rattle.office_loading.proofs.older.migrated_settings.Given as goal

abbrev pub invariant-loop-setting : goal.invariant-loop-setting
invariant-loop-setting l = map setting_content l.newest.items ≡ migrated_settings (map setting_content l.yielded)
