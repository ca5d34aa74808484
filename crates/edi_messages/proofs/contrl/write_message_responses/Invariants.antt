-- what is written, and a response to each message that is left, are the responses to all
use Rattle.std.{specs.Prelude.zip, proofs.Common.{◌≡◌, map, drop, false}}
use Rattle.edi_syntax.specs.{Written.with_segments, Frames.messages_left}
use Rattle.edi_messages.specs.Contrl.{ucm}
use Rattle.edi_messages.proofs.contrl.write_message_responses.Given as goal

abbrev pub invariant-loop-verdict : goal.invariant-loop-verdict
invariant-loop-verdict l = record {
  whole : with_segments l.writer (map ucm (zip (drop l.verdict-index l.verdicts) (messages_left l.frames))) ≡ with_segments l.fn.writer (map ucm (zip l.verdicts (messages_left l.fn.frames)));
  between : l.writer.is_open ≡ false;
}
