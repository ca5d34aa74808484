-- What a command that adds an account leaves of a store and its archives, if they stood together after some events.
use Rattle.std.specs.Prelude.{◌≡◌, ℕ, List, true, Option, Result, Ok, Err}
use Rattle.sqlite.specs.{Held.state, Recovery.Image, State.State}
use Rattle.sqlite_trees.specs.declared.store.Store.{Ghosts}
use Rattle.office_replies.specs.{Adding.Adds, Events.Event, declared.accounts.AccountAnswer.AccountAnswer, declared.deliver.Worst.Worst}
use Rattle.office_replies.specs.{Accounts.{AnsweredAccount, AccountCutShort}, declared.port.Port.Port, declared.stream.StreamFault.StreamFault}
use Rattle.office_admission.specs.Setups.{SetupContent}
use Rattle.office_desk.specs.{Accounts.{AnswersAccount, LeavesAdded}, Desks.IsSound, declared.desk.Desk.Desk}
use Rattle.office_commands.specs.{Alike.Alike, Beside.{IfHeld, IsAlone}, Delivering.{StandAlike, StandsAlike}, Ending.outcome_status, Opening.BeginsAt}
use Rattle.office_loading.specs.Closed.{closed_content}
use Rattle.office_parts.specs.Archives.{Archive}
use Rattle.office_archives.specs.Together.{EnrolsTogether, LeavesAccount}

-- An account was answered so, and its line written, or a front of it.
abbrev pub AnswersAsked : (Done : AccountAnswer → Type 0) → (written written' : Option (List ℕ)) → Result Worst StreamFault →
    Type 0
AnswersAsked Done written written' (Ok worst) = AnsweredAccount Done worst written written'
AnswersAsked Done written written' (Err fault) = AccountCutShort Done written written'

-- for an opening set-up that says the same, a crash leaves what it may leave after that answer
abbrev pub LeavesAnswer : SetupContent → List Event → (code kind : List ℕ) → AccountAnswer → State → Type 0
LeavesAnswer content es code kind answer s = Alike content (λ opening. LeavesAdded opening es code kind answer s)

-- An account was asked for of a store of which nothing was put away. If the desk is sound in the end, then from whatever events
-- the files held the rows it was answered at its place, and an account that was added outlasts a crash.
pub record IsAskedAlone {S : Type 0} (g : Ghosts S) (image : Image) (desk : Desk S g) (code kind : List ℕ)
    (answer : AccountAnswer) : Type 0 where
  pub adds : IsSound g desk → (content : SetupContent) (es : List Event) → BeginsAt image content es →
      Adds (StandsAlike content) (AnswersAccount content) es code kind answer desk
  pub leaves : IsSound g desk → (content : SetupContent) (es : List Event) → BeginsAt image content es →
      LeavesAnswer content es code kind answer (state g desk.conn)

module _ {S A : Type 0} (g : Ghosts S) (is_sound : A → Type 0) (are : List Archive → A → Type 0) where
  -- An account was asked for under a code, of a kind, with that answer, of a store that was opened on those files and of its
  -- archives. If its disk told the truth in the end, then from whatever events the files held what is left of the rows, if
  -- these archives are those that hold the rest, it was answered at its place, and an account that was added outlasts a
  -- crash. So it is too if nothing was put away of the store.
  pub record IsAskedOver (image : Image) (opened office : Desk S g × A) (code kind : List ℕ) (answer : AccountAnswer)
      : Type 0 where
    pub enrolled : EnrolsTogether g are opened.0 opened.1 code kind answer office.0 office.1
    pub adds : IsSound g office.0 → IfHeld are image opened (λ list content es.
        Adds (StandAlike g is_sound are content) (AnswersAccount content) es code kind answer office)
    pub leaves : IsSound g office.0 → IfHeld are image opened (λ list content es.
        Alike content (λ opening. LeavesAccount list (closed_content opened.0.closed) opening es code kind answer
        (state g office.0.conn)))
    pub alone : IsAlone are image opened → IsAskedAlone g image office.0 code kind answer

-- The line is flushed, or the writer has failed.
abbrev pub LeavesWriter : {W : Type 0} → (old new : Port W) → Result Worst StreamFault → Type 0
LeavesWriter old new (Ok worst) = (new.failed ≡ old.failed) × (new.flushed ≡ true)
LeavesWriter old new (Err fault) = new.failed ≡ true

-- The command ends with the status of the answer, or with 3 if the writer failed.
pub record AccountEnds (leaves_writer leaves : Result Worst StreamFault → Type 0) (status : ℕ) : Type 0 where
  pub outcome : Result Worst StreamFault
  pub status_is : status ≡ outcome_status outcome
  pub writer_is : leaves_writer outcome
  pub left : leaves outcome
