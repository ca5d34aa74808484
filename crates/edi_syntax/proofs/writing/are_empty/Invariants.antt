use Rattle.std.{specs.List.list_all, proofs.Common.{◌≡◌, map, drop}}
use Rattle.edi_syntax.specs.Spelling.{is_empty_value}
use Rattle.edi_syntax.proofs.writing.are_empty.Given as goal

abbrev pub invariant-loop-value : goal.invariant-loop-value
invariant-loop-value g l =
    list_all is_empty_value (map g.V.Spell.bytes_of l.values) ≡ list_all is_empty_value (map g.V.Spell.bytes_of (drop l.value-index l.values))
