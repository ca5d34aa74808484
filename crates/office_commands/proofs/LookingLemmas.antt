-- What a report leaves, and what it tells of a store of which nothing was put away.
use Rattle.std.proofs.Common.{ℕ, List, [], Option}
use Rattle.sqlite.specs.Recovery.{Image}
use Rattle.sqlite_trees.specs.declared.store.Store.{Ghosts}
use Rattle.office_reports.specs.{declared.query.ReportKind.ReportKind, declared.query.View.View}
use Rattle.office_desk.specs.{Calls.OnlyLooks, Desks.IsSound, Reports.{DeskTells, FindsAfter}, declared.desk.Desk.Desk}
use Rattle.office_parts.specs.Archives.{Archive}
use Rattle.office_archives.specs.Together.{OnlyLooksTogether}
use Rattle.office_commands.specs.{Beside.{IsAlone, OpensOn}, Looking.LooksOver, Reporting.{TellsHeld, TellsKey, TellsOver}}
use Rattle.office_commands.proofs.ReportLemmas.{found_alike, key_also, told_over}

pub looked_over : {S A : Type 0} (g : Ghosts S) (are : List Archive → A → Type 0) (image : Image) (opened office : Desk S g × A) → OnlyLooksTogether g are opened.0 opened.1 office.0 office.1 → (are [] opened.1 → OnlyLooks g opened.0 office.0) → LooksOver g are image opened office
looked_over g are image opened office looks own = record {
  looks = looks;
  alone = λ alone.
      let looked = own alone.none in
      record {
        looked = looked;
        leaves = λ sound content es begins.
            let was = looked.stays sound in
            let at = alone.events was content es begins in
            record { opening = at.opening; says = at.opening_says; holds = λ db left. at.leaves db (looked.crash was sound.0 at.stands.has.schema db left) };
      };
}

-- what the desk tells under a key is what the files' rows tell
pub told_held : {S A : Type 0} (g : Ghosts S) (are : List Archive → A → Type 0) (image : Image) (opened : Desk S g × A) (kind : ReportKind) (view : View) (key : List ℕ) (found : Option (List ℕ)) → OpensOn g image opened.0 → IsAlone are image opened → IsSound g opened.0
    → TellsKey (DeskTells g opened.0) kind view key found → TellsHeld image kind view key found
told_held g are image opened kind view key found opens alone sound told = record {
  after = λ content es begins.
      let at = alone.events sound content es begins in
      key_also (DeskTells g opened.0) (FindsAfter content es) kind view key found
      (λ asked tells. found_alike at.opening content at.opening_says es asked found (tells.after at.opening es at.stands)) told;
  office = λ db held.
      key_also (DeskTells g opened.0) (TellsOver db) kind view key found
      (λ asked tells. told_over g db opened.0 asked found (opens.office sound db held) alone.closed tells) told;
}
