-- Why a report of a store and its archives can't be reported.
use Rattle.std.{specs.Prelude.{◌&&◌, IfErr, nat_le, string_bytes}, proofs.Common.{◌≡◌, ℕ, List, true, false, Some, Result, Ok, Err, sym, ap, ◌∙◌}}
use Rattle.sqlite_trees.specs.declared.store.Store.{Ghosts}
use Rattle.edi_messages.specs.Purposes.{CallContent}
use Rattle.terminal_core.specs.declared.lines.Side.{Side}
use Rattle.office_admission.specs.Setups.{setup_content}
use Rattle.office_loading.specs.Closed.{last_closed}
use Rattle.office_reports.specs.declared.query.About.{About}
use Rattle.office_desk.specs.{Reports.partner_called, declared.desk.Desk.Desk}
use Rattle.office_archives.specs.{Causes.{IsAskedHere, IsNotClosed}, Telling.{IsOfList, IsOfNumber}}
use Rattle.office_reports.specs.declared.query.About.TheVariants as about

-- whatever the fault is
pub err_all : {T E : Type 0} (result : Result T E) (Fails : E → Type 0) → ((fault : E) → Fails fault) → IfErr result Fails
err_all (Ok x) Fails all = tt
err_all (Err fault) Fails all = all fault

module _ {S : Type 0} {g : Ghosts S} (desk : Desk S g) where
  -- a list may be away
  pub list_not_here : (asked : About) (call : CallContent) (side : Side) → IsOfList asked call side → IsAskedHere desk asked → ⊥
  list_not_here (about.List asked on) call side is here = here
  list_not_here (about.Work asked on) call side is here = here
  list_not_here other call side is here = absurd is

  -- a number that is closed
  never_open : (own code : List ℕ) (k n p : ℕ) → own ≡ code → k ≡ n → partner_called (setup_content desk.setup) code ≡ Some p → (nat_le 1 n && nat_le n (last_closed desk.closed p)) ≡ true → IsNotClosed desk own k → ⊥
  never_open own code k n p own_is is called closed here =
      let never : false ≡ true = sym (here p (ap (partner_called (setup_content desk.setup)) own_is ∙ called)) ∙ ap (λ m. nat_le 1 m && nat_le m (last_closed desk.closed p)) is ∙ closed in
      cc

  pub number_not_here : (asked : About) (code : List ℕ) (n p : ℕ) → IsOfNumber asked code n → partner_called (setup_content desk.setup) code ≡ Some p → (nat_le 1 n && nat_le n (last_closed desk.closed p)) ≡ true → IsAskedHere desk asked → ⊥
  number_not_here (about.Reply own k) code n p is called closed here = never_open (string_bytes own) code k n p is.0 is.1 called closed here
  number_not_here (about.Contrl own k) code n p is called closed here = never_open (string_bytes own) code k n p is.0 is.1 called closed here
  number_not_here (about.Ticket own k) code n p is called closed here = never_open (string_bytes own) code k n p is.0 is.1 called closed here
  number_not_here other code n p is called closed here = absurd is
