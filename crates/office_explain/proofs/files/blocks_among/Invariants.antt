use Rattle.std.proofs.Common.{◌≡◌, map, take, Some}
use Rattle.csv.specs.Records.{fields_of}
use Rattle.office_explain.specs.Said.{block_said}
use Rattle.office_explain.proofs.files.blocks_among.Given as goal

abbrev pub invariant-loop-row : goal.invariant-loop-row
invariant-loop-row l = map block_said (map fields_of (take l.row-index l.rows)) ≡ map Some l.blocks.items
