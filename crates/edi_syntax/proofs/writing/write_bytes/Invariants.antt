-- what is written is the spelling of the bytes that were passed
use Rattle.std.proofs.Common.{◌≡◌, ◌++◌, take}
use Rattle.edi_syntax.specs.Spelling.{spelling}
use Rattle.edi_syntax.proofs.writing.write_bytes.Given as goal

abbrev pub invariant-loop-byte : goal.invariant-loop-byte
invariant-loop-byte l = l.out.items ≡ l.fn.out.items ++ spelling (take l.byte-index l.value)
