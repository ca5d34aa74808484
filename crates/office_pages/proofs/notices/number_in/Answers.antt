use Rattle.std.proofs.Common.{◌≡◌, Err}
use Rattle.box6346.specs.ContainerNumber.{number_of}
use Rattle.office_pages.proofs.Splitting.{form_of}
use Rattle.box6346.specs.declared.box_number.NumberFault.TheVariants as fault
use Rattle.office_pages.proofs.notices.number_in.Goals as goal

pub corrected-requires : goal.corrected-requires
corrected-requires c = let is : number_of c.args.text.now ≡ Err fault.CheckDigit = cc in form_of c.args.text.now is
