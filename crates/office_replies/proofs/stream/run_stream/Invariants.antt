use Rattle.std.proofs.Common.{◌≡◌, ◌+◌, ◌-◌, ◌^◌, ◌≤◌, ◌<◌, min, None, false, true}
use Rattle.edi_syntax.specs.Cuts.{pending_bytes}
use Rattle.office_replies.proofs.{PlaceLemmas.ReadSofar, StreamLemmas.Sofar}
use Rattle.office_replies.proofs.stream.run_stream.Given as goal

abbrev pub invariant-reads : goal.invariant-reads
invariant-reads g l = record {
  running : l.cutter.fault ≡ None;
  reader : l.reader.failed ≡ l.fn.reader.failed;
  writer : l.writer.failed ≡ l.fn.writer.failed;
  flushed : l.fn.writer.flushed ≡ true → l.writer.flushed ≡ true;
  going : 0 < l.counter → l.reader.ended ≡ false;
  in_time : l.fn.reader.ended ≡ false → l.reader.read_behind_end ≡ l.fn.reader.read_behind_end;
  ended : l.fn.reader.ended ≡ false → l.reader.ended ≡ false;
  most : l.reader.reads ≤ l.fn.reader.reads + l.counter;
  least : min (l.fn.reader.reads + l.counter) (2 ^ 64 - 1) ≤ l.reader.reads;
  sofar : Sofar g.D.Deliver.leads l.fn.desk (g.R.Read.remaining l.fn.reader.inner) (g.R.Read.remaining l.reader.inner)
      (pending_bytes l.cutter) l.desk l.worst (g.W.Write.contents l.fn.writer.inner) (g.W.Write.contents l.writer.inner);
  placed : ReadSofar (g.R.Read.remaining l.fn.reader.inner) (g.R.Read.remaining l.reader.inner) l.place (pending_bytes l.cutter);
}
