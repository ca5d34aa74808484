use Rattle.std.proofs.Common.{◌≡◌, map, drop}
use Rattle.office_explain.specs.{Entries.entry_content, Said.{are_apart, names_of}}
use Rattle.office_explain.proofs.files.are_apart.Given as goal

abbrev pub invariant-loop-index : goal.invariant-loop-index
invariant-loop-index l = are_apart (names_of (map entry_content (drop l.index l.entries))) ≡ are_apart (names_of (map entry_content l.entries))
