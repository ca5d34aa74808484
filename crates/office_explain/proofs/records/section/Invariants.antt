use Rattle.std.proofs.Common.{◌≡◌, map, take}
use Rattle.csv.specs.Records.{fields_of}
use Rattle.office_explain.specs.Entries.{entry_content, section}
use Rattle.office_explain.proofs.records.section.Given as goal

abbrev pub invariant-loop-row : goal.invariant-loop-row
invariant-loop-row l = map entry_content l.entries.items ≡ section l.what (map fields_of (take l.row-index l.rows))
