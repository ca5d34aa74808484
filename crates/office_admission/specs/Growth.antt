-- A machine with an account more.
use Rattle.std.specs.Prelude.{◌≡◌, ℕ, List, [], ◌∷◌, ◌++◌, length, Ok}
use Rattle.edi_messages.specs.declared.codes.PartnerKind.{PartnerKind}
use Rattle.terminal_core.specs.declared.change.Version.{Version}
use Rattle.office_admission.specs.{Admission.admission, Grown.with_party, Taking.{MachineState, interchange_taken_by}}

-- the machine, a partner of that code and kind being the last of its partners
abbrev pub with_account : List ℕ → PartnerKind → MachineState → MachineState
with_account code kind machine =
    record machine { parties = with_party machine.parties code; kinds = machine.kinds ++ kind ∷ [] }

-- An interchange that was admitted before the account was added is taken as before, by the rules of any version: the
-- same reply, and the same machine with the account beside.
abbrev pub TakenWithAccount : Type 0
TakenWithAccount =
    (version : Version) (machine : MachineState) (code : List ℕ) (kind : PartnerKind) (partner number : ℕ)
    (text : List ℕ) → length machine.kinds ≡ length machine.parties.partners →
    admission machine.parties text ≡ Ok (partner, number)
    → interchange_taken_by version (with_account code kind machine) partner text
    ≡ (
      with_account code kind (interchange_taken_by version machine partner text).0,
      (interchange_taken_by version machine partner text).1,
    )
