-- What deliveries leave of a store and its archives, if they stood together after some events.
use Rattle.std.specs.Prelude.{ℕ, List, [], ◌∷◌}
use Rattle.sqlite.specs.{Held.state, Recovery.Image, State.State}
use Rattle.sqlite_trees.specs.declared.store.Store.{Ghosts}
use Rattle.office_replies.specs.{Delivering.{AreAnswered, LeadsOn, events_behind, with_answered}, Events.Event, declared.deliver.Response.Response}
use Rattle.office_loading.specs.Closed.{ClosedContent, closed_content}
use Rattle.office_admission.specs.Setups.{SetupContent}
use Rattle.office_desk.specs.{Answers.AnswersNext, Desks.{IsSound, StandsFor}, declared.desk.Desk.Desk}
use Rattle.office_parts.specs.Archives.{Archive}
use Rattle.office_archives.specs.Together.{LeadsTogether, LeavesBeside, LeavesDelivered, StandTogether}
use Rattle.office_commands.specs.{Alike.Alike, Beside.{IfHeld, IsAlone}, Opening.BeginsAt}
use Rattle.office_desk.specs.Calls as calls
use Rattle.office_desk.specs.Crashes as crash

-- ---- a store of which nothing was put away

-- a desk that stands, after those events, for an opening set-up that says the same
abbrev pub StandsAlike : {S : Type 0} {g : Ghosts S} → SetupContent → List Event → Desk S g → Type 0
StandsAlike {S} {g} content es desk = Alike content (λ opening. StandsFor g opening es desk)

-- after those deliveries a crash leaves the rows after those that were answered, for an opening set-up that says the
-- same
abbrev pub LeavesAlike : SetupContent → List Event → (texts : List (List ℕ)) → List Response → State → Type 0
LeavesAlike content es texts responses s = Alike content (λ opening. crash.LeavesAll opening es texts responses s)

-- These texts were delivered, with these responses, and each did to the desk what the desk says of a delivery. If it is sound
-- in the end, then from whatever events the files held the rows, each was answered at its place, and a crash leaves the rows
-- after those that were answered.
pub record AreDeliveredAlone {S : Type 0} (g : Ghosts S) (image : Image) (opened desk : Desk S g) (texts : List (List ℕ))
    (responses : List Response) : Type 0 where
  pub led : LeadsOn (calls.Leads g) opened texts responses desk
  pub answered : IsSound g desk → (content : SetupContent) (es : List Event) → BeginsAt image content es →
      AreAnswered (StandsAlike content) (AnswersNext content) es desk texts responses
  pub leaves : IsSound g desk → (content : SetupContent) (es : List Event) → BeginsAt image content es →
      LeavesAlike content es texts responses (state g desk.conn)

-- ---- a store and its archives

module _ {S A : Type 0} (g : Ghosts S) (is_sound : A → Type 0) (are : List Archive → A → Type 0) where
  -- what a delivery does to a desk and its archives
  abbrev pub Leads : Desk S g × A → List ℕ → Response → Desk S g × A → Type 0
  Leads old text response new = LeadsTogether g is_sound are old.0 old.1 text response new.0 new.1

  -- for an opening set-up that says the same, desk and archives stand together after those events
  abbrev pub StandAlike : SetupContent → List Event → Desk S g × A → Type 0
  StandAlike content es office = Alike content (λ opening. StandTogether g are opening es office.0 office.1)

  -- each was answered at its place, if the archives had told the truth after it
  abbrev pub AreAnsweredIfSound : SetupContent → List Event → (old : Desk S g × A) (texts : List (List ℕ))
      (responses : List Response) (new : Desk S g × A) → LeadsOn Leads old texts responses new → Type 0
  AreAnsweredIfSound content es old [] [] new led = Unit {0}
  AreAnsweredIfSound content es old [] (response ∷ responses) new led = ⊥
  AreAnsweredIfSound content es old (text ∷ texts) [] new led = ⊥
  AreAnsweredIfSound content es old (text ∷ texts) (response ∷ responses) new led =
      (is_sound led.0.1 → AnswersNext content es text response)
      × AreAnsweredIfSound content (with_answered es text response) led.0 texts responses new led.2

  -- After those deliveries a crash leaves of the store what, with the archives, is left of the rows after those that were
  -- answered; where the last was answered NotNow, it is there whole or not at all. The archives are those that were there
  -- before the last one.
  abbrev pub LeavesAll : ClosedContent → SetupContent → List Event → (old : Desk S g × A) (texts : List (List ℕ))
      (responses : List Response) (new : Desk S g × A) → LeadsOn Leads old texts responses new → State → Type 0
  LeavesAll closed content es old [] [] new led s =
      (list : List Archive) × are list old.1 × LeavesBeside list closed content es s
  LeavesAll closed content es old [] (response ∷ responses) new led s = ⊥
  LeavesAll closed content es old (text ∷ texts) [] new led s = ⊥
  LeavesAll closed content es old (text ∷ []) (response ∷ []) new led s =
      (list : List Archive) × are list old.1 × LeavesDelivered list closed content es text response s
  LeavesAll closed content es old (text ∷ []) (response ∷ (other ∷ responses)) new led s = ⊥
  LeavesAll closed content es old (text ∷ (more ∷ texts)) (response ∷ responses) new led s =
      LeavesAll closed content (with_answered es text response) led.0 (more ∷ texts) responses new led.2 s

  -- These texts were delivered, with these responses, to a store that was opened on those files and to its archives. If its
  -- disk told the truth in the end, then from whatever events the files held what is left of the rows, if these archives
  -- are those that hold the rest, store and archives stand after them, each was answered at its place, if the archives had
  -- told the truth, and what was answered outlasts a crash. So it is too if nothing was put away of the store.
  pub record AreDeliveredOver (image : Image) (opened office : Desk S g × A) (texts : List (List ℕ))
      (responses : List Response) : Type 0 where
    pub led : LeadsOn Leads opened texts responses office
    pub answered : IsSound g office.0 → IfHeld are image opened (λ list content es.
        AreAnsweredIfSound content es opened texts responses office led
        × StandAlike content (events_behind es texts responses) office)
    pub leaves : IsSound g office.0 → IfHeld are image opened (λ list content es.
        Alike content (λ opening. LeavesAll (closed_content opened.0.closed) opening es opened texts responses office led
        (state g office.0.conn)))
    pub alone : IsAlone are image opened → AreDeliveredAlone g image opened.0 office.0 texts responses
