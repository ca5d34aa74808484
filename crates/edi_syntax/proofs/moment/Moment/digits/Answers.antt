use Rattle.std.proofs.Common.{◌≡◌, subst, true}
use Rattle.edi_syntax.{specs.Moments.{CivilMoment, is_moment}, proofs.DigitLemmas.read_back}
use Rattle.edi_syntax.proofs.moment.Moment.digits.Goals as goal

pub returns-clause-read : goal.returns-clause-read
returns-clause-read c = rw c.written.ensures (read_back c.args.self (subst (λ (m : CivilMoment). is_moment m ≡ true) c.self.view_is c.self.invariant))
