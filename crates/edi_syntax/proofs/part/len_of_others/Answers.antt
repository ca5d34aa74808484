-- One byte more that is passed over.
use Rattle.std.proofs.{Common.{◌∙◌, get_or}, lemmas.Bool.ne_eqb}
use Rattle.edi_syntax.proofs.PartLemmas.{separator_passed, not_releasing}
use Rattle.edi_syntax.proofs.part.len_of_others.Goals as goal

pub returns-then-byte-separator-clause-passes : goal.returns-then-byte-separator-clause-passes
returns-then-byte-separator-clause-passes c = c.loop-i.invariant

pub returns-then-byte-release-clause-passes : goal.returns-then-byte-release-clause-passes
returns-then-byte-release-clause-passes c = c.loop-i.invariant

pub loop-i-preserved : goal.loop-i-preserved
loop-i-preserved c =
    c.loop-i.invariant
    ∙ separator_passed c.args.service c.args.separator c.args.bytes.now c.loop-i.i c.loop-i-test.true (ne_eqb (get_or c.args.bytes.now c.loop-i.i 0) c.args.separator c.if-byte-separator.false) (not_releasing c.args.service c.args.separator c.unwrap_or-release.result (get_or c.args.bytes.now c.loop-i.i 0) c.unwrap_or-release.ensures (ne_eqb (get_or c.args.bytes.now c.loop-i.i 0) c.unwrap_or-release.result c.if-byte-release.false))
