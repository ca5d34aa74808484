use Rattle.std.proofs.Common.{◌≡◌, ◌↔◌, IsTrue}
use Rattle.edi_syntax.{specs.Segment.value, proofs.SegmentLemmas.test_of_same}
use Rattle.edi_syntax.proofs.component.Component.has_same_bytes.Goals as goal

pub returns-clause-test : goal.returns-clause-test
returns-clause-test c =
    let same : IsTrue c.are_same.result ↔ (value c.args.self.now ≡ value c.args.other.now) = rw (← c.bytes.ensures, ← c.bytes-2.ensures) c.are_same.ensures in
    test_of_same c.are_same.result (value c.args.self.now) (value c.args.other.now) same
