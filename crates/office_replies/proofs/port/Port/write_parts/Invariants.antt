use Rattle.std.proofs.Common.{◌≡◌, take}
use Rattle.office_replies.{specs.Writes.joined_parts, proofs.PartLemmas.Gathers}
use Rattle.office_replies.proofs.port.Port.write_parts.Given as goal

-- of the parts so far pieces were written out, and the rest is held
abbrev pub invariant-parts : goal.invariant-parts
invariant-parts g l = record {
  gathers : Gathers g.W.Sink.takes g.W.Write.contents l.fn.self.inner (joined_parts (take l.part-index l.parts)) l.self.inner l.gathered.held.items;
  failed : l.self.failed ≡ l.fn.self.failed;
  reads : l.self.reads ≡ l.fn.self.reads;
}
