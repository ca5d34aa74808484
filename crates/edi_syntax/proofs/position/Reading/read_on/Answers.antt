-- One byte more leads from the position after the bytes before to the next.
use Rattle.std.proofs.Common.{◌∙◌, sym, arith}
use Rattle.edi_syntax.proofs.CutLemmas.{on_refused, on_further}
use Rattle.edi_syntax.proofs.position.Reading.read_on.Goals as goal

pub returns-in-Refused-clause-err : goal.returns-in-Refused-clause-err
returns-in-Refused-clause-err c =
    let (before, grown, (service, position, unbroken)) = c.requires.grown in
    on_refused before c.args.text.now c.args.byte c.args.self.service c.args.self.position c.advance.result
    (record { grown = grown; service = service; here = position; unbroken = unbroken; outside = sym c.is_in_advice.ensures ∙ c.if-is_in_advice.false; short = omega arith; advanced = c.advance.ensures })
    c.in-Refused.is

pub returns-in_default : goal.returns-in_default
returns-in_default c =
    let (before, grown, (service, position, unbroken)) = c.requires.grown in
    record {
      ok = on_further before c.args.text.now c.args.byte c.args.self.service c.args.self.position c.advance.result
          (record { grown = grown; service = service; here = position; unbroken = unbroken; outside = sym c.is_in_advice.ensures ∙ c.if-is_in_advice.false; short = omega arith; advanced = c.advance.ensures })
          c.in_default.not-Refused;
      err = tt;
    }
