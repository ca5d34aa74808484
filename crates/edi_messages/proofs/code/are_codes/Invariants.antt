use Rattle.std.{specs.List.list_all, proofs.Common.{◌≡◌, drop}}
use Rattle.edi_messages.specs.CodeText.{is_code, texts_of}
use Rattle.edi_messages.proofs.code.are_codes.Given as goal

abbrev pub invariant-loop-code : goal.invariant-loop-code
invariant-loop-code l = list_all is_code (texts_of l.fn.codes) ≡ list_all is_code (texts_of (drop l.code-index l.fn.codes))
