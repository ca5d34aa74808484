use Rattle.std.proofs.{Common.{sym, ◌∙◌}, lemmas.Bool.true≢false}
use Rattle.edi_syntax.proofs.CutLemmas.{reads_nothing, reads_rest}
use Rattle.edi_syntax.proofs.position.read_bytes.Goals as goal

pub loop-count-init : goal.loop-count-init
loop-count-init c = record { going = c.requires; reads = reads_nothing c.args.service.now c.args.position c.args.bytes.now }

pub loop-count-preserved : goal.loop-count-preserved
loop-count-preserved c = record {
  going = sym c.stops.ensures ∙ c.if-stops.false;
  reads = reads_rest c.args.service.now c.args.position c.loop-count.position c.read_some-more.result.1 c.args.bytes.now c.loop-count.count c.read_some-more.result.0 c.loop-count.invariant.reads c.read_some-more.ensures.reads;
}

pub returns-then-stops : goal.returns-then-stops
returns-then-stops c = record {
  reads = reads_rest c.args.service.now c.args.position c.loop-count.position c.read_some-more.result.1 c.args.bytes.now c.loop-count.count c.read_some-more.result.0 c.loop-count.invariant.reads c.read_some-more.ensures.reads;
  all = λ goes. absurd (true≢false (sym (sym c.stops.ensures ∙ c.if-stops.true) ∙ goes));
}
