use Rattle.std.{specs.{List.list_any, Str.bytes_eq}, proofs.Common.{◌≡◌, map, drop}}
use Rattle.office_explain.specs.{Entries.entry_content, Said.names_of}
use Rattle.office_explain.proofs.files.has_name.Given as goal

abbrev pub invariant-loop-entry : goal.invariant-loop-entry
invariant-loop-entry l = list_any (λ other. bytes_eq other l.name) (names_of (map entry_content (drop l.entry-index l.entries))) ≡ list_any (λ other. bytes_eq other l.name) (names_of (map entry_content l.entries))
