-- What is told of an interchange is the fault that is named of it, with its code, or what is read of it.
use Rattle.std.proofs.Common.{ℕ, Option, subst}
use Rattle.edi_messages.specs.declared.codes.PartnerKind.{PartnerKind}
use Rattle.office_explain.specs.{Findings.IsFound, Messages.IsReadOf, declared.finding.Subject.TheVariants.Interchange}
use Rattle.office_explain.proofs.explaining.told_of.Goals as goal

pub returns-in-Err-clause-explains : goal.returns-in-Err-clause-explains
returns-in-Err-clause-explains c = (
  c.in-Err.refused.fault,
  c.requires,
  c.in-Err.ensures.err,
  subst (λ (code : Option ℕ). IsFound c.args.text.now (Interchange c.in-Err.refused.fault) code c.refusal.result)
      c.in-Err.ensures.contrl c.refusal.ensures,
)

pub returns-clause-explains : goal.returns-clause-explains
returns-clause-explains c = (
  c.requires,
  c.in-Ok.ensures.ok,
  subst (λ (known : Option PartnerKind). IsReadOf c.args.partners.now c.args.text.now known c.in_ok-reading_of-in-Ok.field-0)
      c.in-Ok.ensures.kind c.in_ok-reading_of-in-Ok.ensures,
)
