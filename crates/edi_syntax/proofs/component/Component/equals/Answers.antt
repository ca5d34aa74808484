-- A value is never longer than its text.
use Rattle.std.proofs.{Common.{false, length, sym, ap, arith}, lemmas.Bool.false≢true}
use Rattle.edi_syntax.proofs.{PartLemmas.length-value, AdviceLemmas.short_differs}
use Rattle.edi_syntax.proofs.component.Component.equals.Goals as goal

pub returns-then-self-other-clause-equal : goal.returns-then-self-other-clause-equal
returns-then-self-other-clause-equal c = (
  λ no. absurd (false≢true no),
  λ same.
      let long = ap length same in
      let most = length-value c.args.self.now.service c.args.self.now.text.now false in
      absurd (omega (arith, long, most, c.if-self-other.true)),
)

pub returns-then-self-other-clause-test : goal.returns-then-self-other-clause-test
returns-then-self-other-clause-test c =
    sym (short_differs c.args.self.now.service c.args.self.now.text.now c.args.other.now c.if-self-other.true)
