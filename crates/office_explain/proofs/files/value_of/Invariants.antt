use Rattle.std.proofs.Common.{◌≡◌, map, drop}
use Rattle.office_explain.specs.{Entries.entry_content, Said.value_of}
use Rattle.office_explain.proofs.files.value_of.Given as goal

abbrev pub invariant-loop-entry : goal.invariant-loop-entry
invariant-loop-entry l = value_of (map entry_content (drop l.entry-index l.entries)) l.name l.usual ≡ value_of (map entry_content l.entries) l.name l.usual
