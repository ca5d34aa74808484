-- An interchange that was taken, whatever memory holds it.
use Rattle.std.specs.Prelude.{List, map, string_bytes}
use Rattle.terminal_core.specs.Rows.{change_content}
use Rattle.office_history.specs.Cascade.{TakenContent}
use Rattle.office_tables.specs.declared.running.Taken.{Taken}

abbrev pub taken_content : Taken → TakenContent
taken_content taken =
    record { number = taken.number; reply = string_bytes taken.reply; changes = map change_content taken.changes.items }

abbrev pub taken_contents : List Taken → List TakenContent
taken_contents taken = map taken_content taken
