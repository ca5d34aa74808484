use Rattle.std.{specs.List.list_all, proofs.Common.{◌≡◌, map, drop}}
use Rattle.office_explain.specs.{Entries.entry_content, Said.{is_code_name, names_of}}
use Rattle.office_explain.proofs.files.are_code_names.Given as goal

abbrev pub invariant-loop-entry : goal.invariant-loop-entry
invariant-loop-entry l = list_all is_code_name (names_of (map entry_content (drop l.entry-index l.entries))) ≡ list_all is_code_name (names_of (map entry_content l.entries))
