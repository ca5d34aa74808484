-- What a delivery that is next makes of the rows: its text is kept, and then it and each text that became next by it is
-- taken.
use Rattle.std.specs.{Prelude.{◌≡◌, ℕ, ◌+◌, ◌==◌, if◌then◌else◌, List, [], ◌∷◌, find, fold, Option, None, Some}, Option.option_map}
use Rattle.terminal_core.specs.Rows.{ChangeContent}
use Rattle.office_rows.specs.{Rows.{Interchange, Rows}, Effects.{is_pair, with_waiting, with_taken, with_change}}
use Rattle.office_admission.specs.Taking.{MachineState, interchange_taken, interchange_changes}

-- the text that is kept under a partner's number
abbrev pub text_in : Rows → ℕ → ℕ → Option (List ℕ)
text_in rows partner number = option_map (λ (i : Interchange). i.body) (find (is_pair partner number) rows.interchanges)

-- an interchange that was taken: its number, its reply, and what it changed of the terminal's rows
pub record TakenContent : Type 0 where
  pub number : ℕ
  pub reply : List ℕ
  pub changes : List ChangeContent

-- each change, one after the other
abbrev pub with_changes : List ChangeContent → Rows → Rows
with_changes changes rows = fold (λ (done : Rows) (change : ChangeContent). with_change change done) rows changes

abbrev pub with_interchange : ℕ → TakenContent → Rows → Rows
with_interchange partner taken rows = with_taken partner taken.number taken.reply (with_changes taken.changes rows)

-- each of these interchanges of the partner, one after the other
abbrev pub with_interchanges : ℕ → List TakenContent → Rows → Rows
with_interchanges partner taken rows =
    fold (λ (done : Rows) (t : TakenContent). with_interchange partner t done) rows taken

-- a text is kept under its number, and then it and those after it are taken
abbrev pub with_run : ℕ → ℕ → List ℕ → List TakenContent → Rows → Rows
with_run partner number text taken rows = with_interchanges partner taken (with_waiting partner number text rows)

-- the texts that are kept for a partner, and the one that was delivered under its number
abbrev pub texts_with : Rows → ℕ → ℕ → List ℕ → ℕ → Option (List ℕ)
texts_with rows partner number text k = if number == k then Some text else text_in rows partner k

-- the partner's texts from that number on are taken in turn, as far as there are texts, and leave that machine
abbrev pub AreTakenFrom : ℕ → (ℕ → Option (List ℕ)) → ℕ → MachineState → List TakenContent → MachineState → Type 0
AreTakenFrom partner texts number machine [] machine' = (texts number ≡ None) × (machine' ≡ machine)
AreTakenFrom partner texts number machine (t ∷ taken) machine' =
    (text : List ℕ) × (texts number ≡ Some text)
    × (t.number ≡ number)
    × (t.reply ≡ (interchange_taken machine partner text).1)
    × (t.changes ≡ interchange_changes machine partner text)
    × AreTakenFrom partner texts (number + 1) (interchange_taken machine partner text).0 taken machine'
