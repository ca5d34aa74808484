-- What requests that are served leave of a store of which nothing was put away, whose files held the rows after some events.
use Rattle.std.specs.Prelude.{◌≡◌, ◌⊎◌, ℕ, Bool, true, false, List, [], ◌∷◌, ◌++◌, Option, None, Some, Result, codes, decimal, string_bytes}
use Rattle.std.specs.Io.KnownBytes.{Appends}
use Rattle.sqlite.specs.{Held.state, Recovery.Image, State.State, Tree.Trees}
use Rattle.sqlite_trees.specs.declared.store.Store.{Ghosts}
use Rattle.office_replies.specs.{Events.{Event, delivered, added}, declared.accounts.AccountAnswer.AccountAnswer, declared.deliver.Response.Response}
use Rattle.office_replies.specs.{Fronts.AppendsFront, declared.port.Port.Port}
use Rattle.office_reports.specs.{Looking.{Look, Tells}, declared.query.NotNow.NotNow as Unreported}
use Rattle.office_admission.specs.Setups.{SetupContent}
use Rattle.office_http.specs.{Served.{AtMost, calls_of}, Steps.{Step, delivery, account, look, with_step, events_after}}
use Rattle.office_desk.specs.{Accounts.AnswersAccount, Answers.AnswersNext, Calls.{Leads, Enrols, Looks}, Crashes.IsAfter, Desks.IsSound, Looking.ShowsAfter}
use Rattle.office_desk.specs.declared.desk.Desk.{Desk}
use Rattle.office_commands.specs.{Alike.Alike, Delivering.StandsAlike, Opening.BeginsAt}
use Rattle.office_replies.specs.declared.accounts.AccountAnswer.TheVariants as account_answer
use Rattle.office_replies.specs.declared.deliver.Response.TheVariants as response

-- ---- the answers

-- after those events it is answered as the office answers it, or `not now`; what is reported is what the rows after them tell
abbrev pub IsServed : SetupContent → List Event → Step → Type 0
IsServed content es (delivery text given) = AnswersNext content es text given ⊎ (given ≡ response.NotNow)
IsServed content es (account code kind given) = AnswersAccount content es code kind given ⊎ (given ≡ account_answer.NotNow)
IsServed content es (look at found) = Tells (ShowsAfter content es at) found

-- each is answered so at its place
abbrev pub AreServed : SetupContent → List Event → List Step → Type 0
AreServed content es [] = Unit {0}
AreServed content es (step ∷ steps) = IsServed content es step × AreServed content (with_step es step) steps

-- ---- what a crash leaves

-- the event that was asked for, where the answer was `not now`
abbrev pub postponed_event : Step → Option Event
postponed_event (delivery text response.NotNow) = Some (delivered text)
postponed_event (account code kind account_answer.NotNow) = Some (added code kind)
postponed_event other = None

-- there is no event among them
abbrev pub HasNoEvent : List Step → Type 0
HasNoEvent steps = (es : List Event) → events_after es steps ≡ es

-- it was asked for and answered `not now`, and no event came after it
abbrev pub MayBeThere : List Step → Event → Type 0
MayBeThere [] event = ⊥
MayBeThere (step ∷ steps) event = ((postponed_event step ≡ Some event) × HasNoEvent steps) ⊎ MayBeThere steps event

-- a store holds the rows after the events that were answered, and perhaps one that was put off after them, whole
abbrev pub HoldsServed : SetupContent → List Event → List Step → Trees → Type 0
HoldsServed content es steps db =
    IsAfter content (events_after es steps) db
    ⊎ ((event : Event) × MayBeThere steps event × IsAfter content (events_after es steps ++ event ∷ []) db)

-- a crash leaves only that, for an opening set-up that says the same
abbrev pub LeavesServed : SetupContent → List Event → List Step → State → Type 0
LeavesServed content es steps s =
    Alike content (λ opening. (db : Trees) → s.may_leave db → HoldsServed opening es steps db)

-- ---- what was done with a desk

-- a text was delivered to the desk; or it was answered `not now` without the desk, since the store's file has no name
abbrev pub LeadsNamed : {D : Type 0} → (D → List ℕ → Response → D → Type 0) → D → List ℕ → Response → D → Type 0
LeadsNamed leads old text given new = leads old text given new ⊎ ((given ≡ response.NotNow) × (new ≡ old))

-- so for an account
abbrev pub EnrolsNamed : {D : Type 0} → (D → List ℕ → List ℕ → AccountAnswer → D → Type 0) →
    D → List ℕ → List ℕ → AccountAnswer → D → Type 0
EnrolsNamed enrols old code kind given new = enrols old code kind given new ⊎ ((given ≡ account_answer.NotNow) × (new ≡ old))

-- So it goes by what the store's file says of its name, each time that it is asked: with one the desk is asked, and
-- without one it is not. What it said is noted.
abbrev pub LeadsWhile : {D : Type 0} → (D → List ℕ → Response → D → Type 0) → (says : Bool → Type 0) → (nameless : Bool) →
    D → List ℕ → Response → D → Type 0
LeadsWhile leads says nameless old text given new =
    (says true × (nameless ≡ false) × leads old text given new)
    ⊎ (says false × (nameless ≡ true) × (given ≡ response.NotNow) × (new ≡ old))

abbrev pub EnrolsWhile : {D : Type 0} → (D → List ℕ → List ℕ → AccountAnswer → D → Type 0) → (says : Bool → Type 0) →
    (nameless : Bool) → D → List ℕ → List ℕ → AccountAnswer → D → Type 0
EnrolsWhile enrols says nameless old code kind given new =
    (says true × (nameless ≡ false) × enrols old code kind given new)
    ⊎ (says false × (nameless ≡ true) × (given ≡ account_answer.NotNow) × (new ≡ old))

-- At most so many calls were made, and each did to the desk what the desk says of a call, or nothing and was answered
-- `not now`.
abbrev pub AreServedBy : {D : Type 0} → (leads : D → List ℕ → Response → D → Type 0) →
    (enrols : D → List ℕ → List ℕ → AccountAnswer → D → Type 0) →
    (looks : D → Look → Result (Option (List ℕ)) Unreported → D → Type 0) → (count : ℕ) → (old new : D) → Type 0
AreServedBy leads enrols looks count old new = AtMost (LeadsNamed leads) (EnrolsNamed enrols) looks count old new

-- So many calls at most were made of a desk of which nothing was put away. If it is sound in the end, then from whatever events
-- the files held the rows, each was answered at its place, and what was answered outlasts a crash.
pub record IsServedAlone {S : Type 0} (g : Ghosts S) (image : Image) (count : ℕ) (opened desk : Desk S g) : Type 0 where
  pub served : AreServedBy (Leads g) (Enrols g) (Looks g) count opened desk
  pub answered : IsSound g desk → (content : SetupContent) (es : List Event) → BeginsAt image content es →
      AreServed content es served.steps × StandsAlike content (events_after es served.steps) desk
  pub leaves : IsSound g desk → (content : SetupContent) (es : List Event) → BeginsAt image content es →
      LeavesServed content es served.steps (state g desk.conn)
  -- the name that the start page shows
  pub named : IsSound g desk → (content : SetupContent) (es : List Event) → BeginsAt image content es →
      string_bytes desk.setup.terminal ≡ content.terminal

-- ---- what is printed and told

-- a line as soon as it listens at a port, and one when so many connections were served
abbrev pub listening_line : ℕ → List ℕ
listening_line port = codes "listening 127.0.0.1:" ++ (decimal port ++ codes "\n")

abbrev pub served_line : ℕ → List ℕ
served_line count = codes "served " ++ (decimal count ++ codes "\n")

-- why it does not listen is reported: the port can't be had, or memory was refused
abbrev pub TellsDeaf : (tells : List ℕ → Type 0) → Type 0
TellsDeaf tells = tells (codes "cannot listen\n") ⊎ tells (codes "store: Memory\n")

-- Nothing is to be served: the writer failed at the first line, of which a front was printed; or it does not listen, and
-- printed nothing.
abbrev pub ServesNone : {W : Type 0} → (port : ℕ) (old new : Port W) (written written' : Option (List ℕ))
    (tells : List ℕ → Type 0) → Type 0
ServesNone port old new written written' tells =
    ((new.failed ≡ true) × AppendsFront written written' (listening_line port) × tells [])
    ⊎ ((new ≡ old) × TellsDeaf tells)

-- the first line was printed, and a front of the second
abbrev pub PrintsFirst : (port count : ℕ) (written written' : Option (List ℕ)) → Type 0
PrintsFirst port count written written' =
    (first : Option (List ℕ)) × Appends written first (listening_line port)
    × AppendsFront first written' (served_line count)

-- Both lines were printed and flushed, with 0, and at most the calls of so many requests made. Or as many, with 3, since the writer
-- failed at the second line. Or none, with 3.
abbrev pub EndsServing : {W : Type 0} → (port count : ℕ) (old new : Port W) (written written' : Option (List ℕ))
    (tells : List ℕ → Type 0) (Served : ℕ → Type 0) (status : ℕ) → Type 0
EndsServing port count old new written written' tells Served status =
    ((status ≡ 0) × Appends written written' (listening_line port ++ served_line count) × (new.flushed ≡ true)
    × (new.failed ≡ old.failed) × tells [] × Served (calls_of count))
    ⊎ (((status ≡ 3) × (new.failed ≡ true) × PrintsFirst port count written written' × tells [] × Served (calls_of count))
    ⊎ ((status ≡ 3) × ServesNone port old new written written' tells × Served 0))
