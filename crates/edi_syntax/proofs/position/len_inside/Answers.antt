use Rattle.std.proofs.Common.{subst, take, ℕ, arith}
use Rattle.edi_syntax.{specs.Positions.StayInside, proofs.CutLemmas.stays_nothing}
use Rattle.edi_syntax.proofs.position.len_inside.Goals as goal

pub loop-i-init : goal.loop-i-init
loop-i-init c = stays_nothing c.args.service.now

pub returns-clause-inside : goal.returns-clause-inside
returns-clause-inside c = subst (λ (n : ℕ). StayInside c.args.service.now (take n c.args.bytes.now)) (omega (arith, c.loop-i-test.false, c.loop-i.auto.i-end)) c.loop-i.invariant
