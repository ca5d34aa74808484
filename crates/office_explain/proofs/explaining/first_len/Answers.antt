-- A new cutter is at the beginning of a stream.
use Rattle.std.proofs.Common.{refl}
use Rattle.office_explain.proofs.SenderLemmas.{begins, pends, faults}
use Rattle.office_explain.proofs.explaining.first_len.Goals as goal

pub returns-in-Ok-Some-clause-interchange : goal.returns-in-Ok-Some-clause-interchange
returns-in-Ok-Some-clause-interchange c =
    begins c.args.text.now c.in-Ok-Some.len _ _ _ c.new-cutter.ensures c.requires c.in-Ok-Some.ensures.ok c.in-Ok-Some.field-0-is

pub returns-in-Ok-None-clause-cut : goal.returns-in-Ok-None-clause-cut
returns-in-Ok-None-clause-cut c =
    pends c.args.text.now _ _ _ c.new-cutter.ensures c.requires c.in-Ok-None.ensures.ok c.in-Ok-None.field-0-is

pub returns-in-Err-TooLong-clause-cut : goal.returns-in-Err-TooLong-clause-cut
returns-in-Err-TooLong-clause-cut c =
    faults c.args.text.now _ _ _ _ c.new-cutter.ensures c.requires c.in-Err-TooLong.ensures.err c.in-Err-TooLong.field-0-is refl

pub returns-in-Err-Service-clause-cut : goal.returns-in-Err-Service-clause-cut
returns-in-Err-Service-clause-cut c =
    faults c.args.text.now _ _ _ _ c.new-cutter.ensures c.requires c.in-Err-Service.ensures.err c.in-Err-Service.field-0-is refl

pub returns-in-Err-Segment-clause-cut : goal.returns-in-Err-Segment-clause-cut
returns-in-Err-Segment-clause-cut c =
    faults c.args.text.now _ _ _ _ c.new-cutter.ensures c.requires c.in-Err-Segment.ensures.err c.in-Err-Segment.field-0-is refl
