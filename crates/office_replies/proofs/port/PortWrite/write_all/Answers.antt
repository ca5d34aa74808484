use Rattle.std.proofs.Common.{take, drop, sym, take-append-drop}
use Rattle.office_replies.proofs.port.PortWrite.write_all.Goals as goal

pub returns-in-Err-clause-front : goal.returns-in-Err-clause-front
returns-in-Err-clause-front g c =
    let n = c.write_whole-written.result.0 in
    let text = c.args.buf.now in
    (take n text, (drop n text, sym (take-append-drop n text)), c.write_whole-written.ensures.bytes)
