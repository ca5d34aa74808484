use Rattle.std.proofs.Common.{rules}
use Rattle.edi_messages.proofs.SurveyLemmas.{digits_writable}
use Rattle.edi_messages.proofs.contrl.write_number.Goals as goal

pub element-requires-clause-writable : goal.element-requires-clause-writable
element-requires-clause-writable c = search (rules, digits_writable c.args.number c.ranges.number.fits)
