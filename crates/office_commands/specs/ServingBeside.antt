-- What requests that are served leave of a store and its archives, if they stood together after some events.
use Rattle.std.specs.Prelude.{◌≡◌, ◌⊎◌, ℕ, List, [], ◌∷◌, ◌++◌, Option, Result}
use Rattle.sqlite.specs.{Held.state, Recovery.Image, Tree.Trees}
use Rattle.sqlite_trees.specs.declared.store.Store.{Ghosts}
use Rattle.office_replies.specs.{Events.Event, declared.accounts.AccountAnswer.AccountAnswer}
use Rattle.office_reports.specs.{Looking.{Look, Tells}, declared.query.NotNow.NotNow}
use Rattle.office_loading.specs.Closed.{ClosedContent, closed_content}
use Rattle.office_admission.specs.Setups.{SetupContent}
use Rattle.office_http.specs.Steps.{Step, StepsLead, account, delivery, events_after, look, with_step}
use Rattle.office_desk.specs.{Accounts.AnswersAccount, Answers.AnswersNext, Desks.IsSound, declared.desk.Desk.Desk}
use Rattle.office_commands.specs.{Alike.Alike, Serving.{AreServedBy, EnrolsNamed, IsServedAlone, LeadsNamed, MayBeThere}, Delivering.{Leads, StandAlike}}
use Rattle.office_commands.specs.Beside.{IfHeld, IsAlone}
use Rattle.office_parts.specs.Archives.{Archive}
use Rattle.office_archives.specs.Together.{EnrolsTogether, IsBesideAfter, LooksTogether, ShowsBeside}
use Rattle.office_replies.specs.declared.accounts.AccountAnswer.TheVariants as account_answer
use Rattle.office_replies.specs.declared.deliver.Response.TheVariants as response

module _ {S A : Type 0} (g : Ghosts S) (is_sound : A → Type 0) (are : List Archive → A → Type 0) where
  -- what asking for an account does to a desk and its archives, and what looking does
  abbrev pub Enrols : Desk S g × A → List ℕ → List ℕ → AccountAnswer → Desk S g × A → Type 0
  Enrols old code kind answer new = EnrolsTogether g are old.0 old.1 code kind answer new.0 new.1

  abbrev pub Looks : Desk S g × A → Look → Result (Option (List ℕ)) NotNow → Desk S g × A → Type 0
  Looks old at found new = LooksTogether g is_sound are old.0 old.1 at found new.0 new.1

  -- what a call does to a desk and its archives, or nothing if it was answered `not now` for lack of a name of the file
  abbrev pub AllServed : Desk S g × A → List Step → Desk S g × A → Type 0
  AllServed = StepsLead (LeadsNamed (Leads g is_sound are)) (EnrolsNamed Enrols) Looks

  -- After those events a delivery and an account are answered as the office answers them, or `not now`; what is looked at is
  -- what store and archives show, which stand after them. Of a delivery and a look so, if the archives had told the truth
  -- after it.
  abbrev pub IsServedTogether : SetupContent → List Event → (old : Desk S g × A) → Step → (new : Desk S g × A) → Type 0
  IsServedTogether content es old (delivery text given) new =
      (is_sound new.1 → AnswersNext content es text given) ⊎ (given ≡ response.NotNow)
  IsServedTogether content es old (account code kind given) new =
      AnswersAccount content es code kind given ⊎ (given ≡ account_answer.NotNow)
  IsServedTogether content es old (look at found) new =
      StandAlike g is_sound are content es old × (is_sound new.1 → Tells (ShowsBeside g are old.0 old.1 at) found)

  -- each so at its place
  abbrev pub AreServedTogether : SetupContent → List Event → (old : Desk S g × A) (steps : List Step) (new : Desk S g × A) →
      AllServed old steps new → Type 0
  AreServedTogether content es old [] new led = Unit {0}
  AreServedTogether content es old (step ∷ steps) new led =
      IsServedTogether content es old step led.0 × AreServedTogether content (with_step es step) led.0 steps new led.2

  -- For an opening set-up that says the same, a store holds what is left, with archives that stood beside it, of the rows after
  -- these events, or with one more that is pending, whole.
  abbrev pub HoldsPending : ClosedContent → SetupContent → List Event → (Event → Type 0) → Trees → Type 0
  HoldsPending closed content es Pends db =
      Alike content (λ opening. (list : List Archive) × (beside : A) × are list beside
      × (IsBesideAfter list closed opening es db
      ⊎ ((event : Event) × Pends event × IsBesideAfter list closed opening (es ++ event ∷ []) db)))

  -- So many calls at most were made of a store that was opened on those files and of its archives. If its disk told the
  -- truth in the end, then from whatever events the files held what is left of the rows, if these archives are those that
  -- hold the rest, each was answered or shown at its place, if the archives had told the truth, store and archives stand
  -- after them, and a crash leaves what was answered, and perhaps one event that was put off after it. So it is too if nothing was put away of
  -- the store.
  pub record IsServedOver (image : Image) (count : ℕ) (opened office : Desk S g × A) : Type 0 where
    pub served : AreServedBy (Leads g is_sound are) Enrols Looks count opened office
    pub answered : IsSound g office.0 → IfHeld are image opened (λ list content es.
        AreServedTogether content es opened served.steps office served.led
        × StandAlike g is_sound are content (events_after es served.steps) office)
    pub leaves : IsSound g office.0 → IfHeld are image opened (λ list content es.
        (db : Trees) → (state g office.0.conn).may_leave db →
        HoldsPending (closed_content opened.0.closed) content (events_after es served.steps) (MayBeThere served.steps) db)
    pub alone : IsAlone are image opened → IsServedAlone g image count opened.0 office.0
