use Rattle.std.proofs.Common.{[], take, string_bytes}
use Rattle.office_explain.specs.Headings.{ListsBlocks}
use Rattle.office_explain.proofs.explanation.block_lines.Given as goal

-- the blocks so far are told
abbrev pub invariant-all : goal.invariant-all
invariant-all l = ListsBlocks (take l.block-index l.blocks) [] (string_bytes l.text)
