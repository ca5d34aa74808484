-- What taking a partner's text does.
use Rattle.std.specs.Prelude.{◌≡◌, ℕ, List, None}
use Rattle.office_rows.specs.Rows.{Rows}
use Rattle.office_admission.specs.Taking.{MachineState, interchange_taken, interchange_changes}
use Rattle.office_history.specs.{Cascade.{TakenContent, text_in}, After.AreKeptOnce}

-- the partner's text is taken under that number, with that reply and those changes, and leaves that machine
pub record IsTaken (partner number : ℕ) (text : List ℕ) (old : MachineState) (taken : TakenContent)
    (new : MachineState) : Type 0 where
  pub number_is : taken.number ≡ number
  pub takes : interchange_taken old partner text ≡ (new, taken.reply)
  pub changes_are : taken.changes ≡ interchange_changes old partner text

-- no number of a partner is kept twice, and none of this partner's is beyond the last that there is
pub record IsNumbered (partner : ℕ) (rows : Rows) : Type 0 where
  pub kept_once : AreKeptOnce rows.interchanges
  pub none_beyond : text_in rows partner 1000000000 ≡ None
