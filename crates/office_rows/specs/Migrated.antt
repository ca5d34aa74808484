-- What a migration makes of the rows of an older version.
use Rattle.std.specs.{Prelude.{List, codes, map, if◌then◌else◌, ◌&&◌, ◌||◌}, Str.bytes_eq}
use Rattle.terminal_core.specs.declared.change.Version.TheVariants.{First, Second}
use Rattle.office_rows.specs.{Rows.{Setting, Rows}, Opening.{version_text, tables_version}, Opened.OpenedRows}

-- the setting that names an older version names the newest; any other stays
abbrev pub migrated_setting : Setting → Setting
migrated_setting s =
    if bytes_eq s.name (codes "version")
    && (bytes_eq s.value (version_text First) || bytes_eq s.value (version_text Second))
    then record s { value = tables_version } else s

abbrev pub migrated_settings : List Setting → List Setting
migrated_settings settings = map migrated_setting settings

-- the rows with the newest version for their own, and else as they were
abbrev pub migrated_rows : Rows → Rows
migrated_rows rows = record rows { settings = migrated_settings rows.settings }

-- the same of the rows as the queries of all rows show them
abbrev pub migrated_opened : OpenedRows → OpenedRows
migrated_opened rows = record rows { settings = migrated_settings rows.settings }
