-- A desk over the rows that a store has, and the store's archives: where they stand together, and what a call does.
use Rattle.std.specs.Prelude.{◌≡◌, ◌⊎◌, ℕ, Bool, List, [], ◌∷◌, ◌++◌, Option, OnOk, Result}
use Rattle.sqlite.specs.{Held.state, State.{State, HasCleanDisk}, Tree.Trees}
use Rattle.sqlite_trees.specs.declared.store.Store.{Ghosts}
use Rattle.terminal_core.specs.State.{TerminalState}
use Rattle.office_replies.specs.{Delivering.with_answered, Adding.with_added, Events.{Event, added, delivered}, declared.accounts.AccountAnswer.AccountAnswer}
use Rattle.office_replies.specs.declared.deliver.Response.{Response}
use Rattle.office_reports.specs.{Looking.{Look, Tells, of_archive, report, texts_after}, declared.query.NotNow.NotNow, declared.query.Query.Query}
use Rattle.office_loading.specs.Closed.{ClosedContent, closed_content}
use Rattle.office_rows.specs.{Rows.Rows, Stored.StoresRows}
use Rattle.office_admission.specs.Setups.{SetupContent, setup_content}
use Rattle.office_history.specs.After.{SaysSame, content_after}
use Rattle.office_parts.specs.{Away.AreAway, OwnLists.{ListName, rows_without_lists}, Archives.{Archive, Hold}, Parts.{Archived, ArePartsAfter}}
use Rattle.office_desk.specs.{Accounts.AnswersAccount, Answers.AnswersNext, Calls.{Enrols, Leads, Looks}, Desks.IsSound, Offices.DeskHolds}
use Rattle.office_desk.specs.{Looking.{DeskHands, IsOpenAt, ShowsUnfitReply}, Noting.{NotesCause, NotesFault, NotesLook, NotesStore}, declared.desk.Desk.Desk}
use Rattle.office_archives.specs.{Causes.IsLookedAtHere, Standing.{IsOwnWithRest, KnowsClosed, StandsBeside}, Telling.{TellsOfArchive, TellsTogether}}
use Rattle.office_replies.specs.declared.accounts.AccountAnswer.TheVariants as account
use Rattle.office_replies.specs.declared.deliver.Response.TheVariants as response

-- the archives are those of a store, and desk and archives stand after the events
pub record StandTogether {S A : Type 0} (g : Ghosts S) (are : List Archive → A → Type 0) (content : SetupContent)
    (es : List Event) (desk : Desk S g) (archives : A) : Type 0 where
  pub list : List Archive
  pub these : are list archives
  pub stands : StandsBeside g list content es desk

-- ---- what a crash leaves

-- a store holds the rows that, with what these archives hold and the lists that are away, are parts of the rows after those
-- events
pub record IsBesideAfter (archives : List Archive) (closed : ClosedContent) (content : SetupContent) (es : List Event)
    (db : Trees) : Type 0 where
  pub archived : Archived
  pub own : Rows
  pub whole : Rows
  pub parts : ArePartsAfter content es archived own whole
  pub hold : Hold archives archived
  pub knows : KnowsClosed closed archived
  pub rows : Rows
  pub is_own : IsOwnWithRest archived own rows
  pub away : ListName → Bool
  pub lists : AreAway archives away content es own
  pub are : StoresRows (rows_without_lists away rows) db

-- a crash leaves only these
abbrev pub LeavesBeside : List Archive → ClosedContent → SetupContent → List Event → State → Type 0
LeavesBeside archives closed content es s = (db : Trees) → s.may_leave db → IsBesideAfter archives closed content es db

-- what is answered stands, and a delivery that is answered NotNow is there whole or not at all
abbrev pub LeavesDelivered : List Archive → ClosedContent → SetupContent → List Event → List ℕ → Response → State →
    Type 0
LeavesDelivered archives closed content es sent response.NotNow s =
    (db : Trees) → s.may_leave db → IsBesideAfter archives closed content es db
    ⊎ IsBesideAfter archives closed content (es ++ delivered sent ∷ []) db
LeavesDelivered archives closed content es sent given s =
    LeavesBeside archives closed content (es ++ delivered sent ∷ []) s

-- ---- a delivery

-- A text was delivered to the desk and the archives, with that response. From whatever events, however much was put
-- away of their rows, they stand after it, or where they stood if it is NotNow; and if the archives told the truth, it is
-- answered at its place. What a crash leaves of the store; the set-up stays, what is closed, and the archives; and why it is
-- NotNow. If there are no archives, it is a delivery to the desk.
pub record LeadsTogether {S A : Type 0} (g : Ghosts S) (is_sound : A → Type 0) (are : List Archive → A → Type 0)
    (old : Desk S g) (before : A) (sent : List ℕ) (response : Response) (new : Desk S g) (after : A) : Type 0 where
  pub answers : IsSound g new → is_sound after → (content : SetupContent) (es : List Event) →
      StandTogether g are content es old before → AnswersNext content es sent response
  pub stand : IsSound g new → (content : SetupContent) (es : List Event) → StandTogether g are content es old before
      → StandTogether g are content (with_answered es sent response) new after
  pub crash : IsSound g old → HasCleanDisk (state g new.conn) → (content : SetupContent) (es : List Event)
      (stand : StandTogether g are content es old before)
      → LeavesDelivered stand.list (closed_content old.closed) content es sent response (state g new.conn)
  pub setup : new.setup ≡ old.setup
  pub closed : new.closed ≡ old.closed
  pub stays : IsSound g new → IsSound g old
  pub noted : NotesFault response old.last_fault new.last_fault
  pub these : (list : List Archive) → are list before → are list after
  pub alone : are [] before → Leads g old sent response new

-- ---- an account

-- an account that is added stands, one that is answered NotNow is there whole or not at all, and any other answer changes
-- nothing
abbrev pub LeavesAccount : List Archive → ClosedContent → SetupContent → List Event → List ℕ → List ℕ → AccountAnswer →
    State → Type 0
LeavesAccount archives closed content es code kind (account.Added id body) s =
    LeavesBeside archives closed content (es ++ added code kind ∷ []) s
LeavesAccount archives closed content es code kind account.NotNow s =
    (db : Trees) → s.may_leave db → IsBesideAfter archives closed content es db
    ⊎ IsBesideAfter archives closed content (es ++ added code kind ∷ []) db
LeavesAccount archives closed content es code kind answer s = LeavesBeside archives closed content es s

-- An account was asked for. From whatever events it is answered at its place, and desk and archives stand after it; what a
-- crash leaves of the store; what is closed stays, and the archives; and why it is NotNow. It was the desk that was asked.
pub record EnrolsTogether {S A : Type 0} (g : Ghosts S) (are : List Archive → A → Type 0) (old : Desk S g) (before : A)
    (code kind : List ℕ) (answer : AccountAnswer) (new : Desk S g) (after : A) : Type 0 where
  pub adds : IsSound g new → (content : SetupContent) (es : List Event) → StandTogether g are content es old before
      → AnswersAccount content es code kind answer
      × StandTogether g are content (with_added es code kind answer) new after
  pub crash : IsSound g old → HasCleanDisk (state g new.conn) → (content : SetupContent) (es : List Event)
      (stand : StandTogether g are content es old before)
      → LeavesAccount stand.list (closed_content old.closed) content es code kind answer (state g new.conn)
  pub closed : new.closed ≡ old.closed
  pub stays : IsSound g new → IsSound g old
  pub noted : NotesStore answer old.last_fault new.last_fault
  pub these : (list : List Archive) → are list before → are list after
  pub own : Enrols g old code kind answer new

-- ---- a look

-- desk and archives stand after the events, for an opening set-up that says the same
pub record StandAlike {S A : Type 0} (g : Ghosts S) (are : List Archive → A → Type 0) (content : SetupContent)
    (es : List Event) (desk : Desk S g) (archives : A) : Type 0 where
  pub opening : SetupContent
  pub says : SaysSame opening content
  pub stand : StandTogether g are opening es desk archives

-- Nothing changes: desk and archives stand where they stood, a crash leaves rows that stand so, and what isn't sound stays
-- so.
pub record OnlyLooksTogether {S A : Type 0} (g : Ghosts S) (are : List Archive → A → Type 0) (old : Desk S g) (before : A)
    (new : Desk S g) (after : A) : Type 0 where
  pub same : IsSound g new → (content : SetupContent) (es : List Event) → StandTogether g are content es old before
      → StandAlike g are content es new after
  pub crash : IsSound g old → HasCleanDisk (state g new.conn) → (content : SetupContent) (es : List Event)
      (stand : StandTogether g are content es old before)
      → LeavesBeside stand.list (closed_content old.closed) content es (state g new.conn)
  pub closed : new.closed ≡ old.closed
  pub stays : IsSound g new → IsSound g old
  pub these : (list : List Archive) → are list before → are list after

-- what is reported at a query, from whatever events after which desk and archives stand
abbrev pub TellsBeside : {S A : Type 0} (g : Ghosts S) (are : List Archive → A → Type 0) → Desk S g → A → Query →
    Option (List ℕ) → Type 0
TellsBeside g are desk archives asked found =
    (content : SetupContent) (es : List Event) (stand : StandTogether g are content es desk archives)
    → TellsTogether content es stand.list stand.stands.archived stand.stands.whole asked found

-- what is reported of the archive at a place, by the accounts after the events
abbrev pub TellsOfOne : {S A : Type 0} (g : Ghosts S) (are : List Archive → A → Type 0) → Desk S g → A → (place : ℕ) →
    Query → Option (List ℕ) → Type 0
TellsOfOne g are desk archives place asked found =
    (content : SetupContent) (es : List Event) (stand : StandTogether g are content es desk archives)
    → TellsOfArchive (content_after content es) stand.list place asked found

-- what is reported of whatever is looked at: a page of the kept texts by the store's own rows, if it has no archives
abbrev pub ShowsBeside : {S A : Type 0} (g : Ghosts S) (are : List Archive → A → Type 0) → Desk S g → A → Look →
    Option (List ℕ) → Type 0
ShowsBeside g are desk archives (report asked) found = TellsBeside g are desk archives asked found
ShowsBeside g are desk archives (texts_after from) found =
    DeskHands g desk from found
    × ((content : SetupContent) (es : List Event) (stand : StandTogether g are content es desk archives)
    → stand.list ≡ [])
ShowsBeside g are desk archives (of_archive place asked) found = TellsOfOne g are desk archives place asked found

-- A report, a page of the kept texts, or an archive's report was asked for. What is reported; desk and archives were only looked
-- at; why it can't be told now, and over an office's rows, if these report it, only by the store or the memory, or by what is
-- asked for; and where it's told that the office can be asked, the store is open. If there are no archives, it was the desk that
-- was looked at.
pub record LooksTogether {S A : Type 0} (g : Ghosts S) (is_sound : A → Type 0) (are : List Archive → A → Type 0)
    (old : Desk S g) (before : A) (look : Look) (found : Result (Option (List ℕ)) NotNow) (new : Desk S g) (after : A)
    : Type 0 where
  pub told : IsSound g new → is_sound after → Tells (ShowsBeside g are old before look) found
  pub looks : OnlyLooksTogether g are old before new after
  pub noted : NotesLook found old.last_fault new.last_fault
  pub cause : IsSound g new → IsLookedAtHere old look → (rows : Rows) (terminal : TerminalState) →
      DeskHolds g old rows terminal → NotesCause (ShowsUnfitReply (setup_content old.setup) rows look) found new.last_fault
  pub is_open : HasCleanDisk (state g new.conn) → OnOk found (IsOpenAt look (state g new.conn))
  pub alone : are [] before → Looks g old look found new
