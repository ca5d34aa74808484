-- What is reported of a store that was not opened.
use Rattle.std.specs.Prelude.{ℕ, List, codes}
use Rattle.office_commands.specs.{Ending.store_text, declared.offices.OpenFault.OpenFault}
use Rattle.office_commands.specs.declared.offices.OpenFault.TheVariants.{Closed, Store, Register, Older, Other}

abbrev pub open_text : OpenFault → List ℕ
open_text Closed = codes "store: Closed\n"
open_text (Store fault) = store_text fault
open_text (Register fault) = store_text fault
open_text Older = codes "store: Damaged\n"
open_text Other = codes "store: Damaged\n"
