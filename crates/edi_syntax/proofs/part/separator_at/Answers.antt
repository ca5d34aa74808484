-- The first separator of all, if no release character stands before it.
use Rattle.edi_syntax.proofs.SegmentsLemmas.{none_is, first_is, plain_before, plain_at_front}
use Rattle.std.proofs.Common.{◌-◌, sym, ◌∙◌, arith}
use Rattle.edi_syntax.proofs.part.separator_at.Goals as goal

pub returns-then-bytes-at-clause-found : goal.returns-then-bytes-at-clause-found
returns-then-bytes-at-clause-found c =
    none_is c.args.service c.args.separator c.args.at c.args.bytes.now c.requires c.if-bytes-at.true

pub returns-then-at-eq0-clause-found : goal.returns-then-at-eq0-clause-found
returns-then-at-eq0-clause-found c =
    first_is c.args.service c.args.separator c.args.at c.args.bytes.now c.requires c.if-bytes-at.false (plain_at_front c.args.service c.args.bytes.now c.args.at c.if-at-eq0.true)

pub returns-clause-found : goal.returns-clause-found
returns-clause-found c =
    first_is c.args.service c.args.separator c.args.at c.args.bytes.now c.requires c.if-bytes-at.false
    (plain_before c.args.service c.args.bytes.now c.args.at (c.args.at - 1) (omega arith) (sym c.releases.ensures ∙ c.if-releases.false))
