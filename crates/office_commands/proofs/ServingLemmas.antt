-- Requests that are served, of a desk of which nothing was put away.
use Rattle.std.{specs.{Io.KnownBytes.Appends, Prelude.string_bytes}, proofs.KnownBytes.{Appends-nil, Appends-trans}}
use Rattle.std.proofs.Common.{◌≡◌, ◌⊎◌, inl, inr, ℕ, Bool, true, false, List, [], ◌∷◌, ◌++◌, Option, Some, Result, Ok, Err, refl, sym, ap, subst, ◌∙◌}
use Rattle.sqlite.specs.{Held.state, Recovery.Image, Tree.Trees}
use Rattle.sqlite_trees.specs.declared.store.Store.{Ghosts}
use Rattle.office_replies.specs.{Adding.with_added, Delivering.with_answered, Events.{Event, delivered, migrated, added}, declared.deliver.Response.Response}
use Rattle.office_replies.specs.{declared.accounts.AccountAnswer.AccountAnswer, Fronts.AppendsFront, declared.port.Port.Port}
use Rattle.office_reports.specs.{Looking.{Look, of_archive, report, texts_after, Tells}, declared.query.NotNow.NotNow}
use Rattle.office_admission.specs.{Setups.SetupContent, Accounts.{content_after, content_with}}
use Rattle.office_history.specs.After.{SaysSame}
use Rattle.office_http.specs.{Served.{AtMost, calls_of}, Steps.{Step, delivery, account, look, with_step, events_after, StepLeads, StepsLead}}
use Rattle.office_desk.specs.Calls.{Leads, Enrols, Looks}
use Rattle.office_desk.specs.Crashes.{IsAfter}
use Rattle.office_desk.specs.Desks.{IsSound, OpensAt, StandsFor}
use Rattle.office_desk.{specs.{Looking.{DeskShows, ShowsAfter}, declared.desk.Desk.Desk}, proofs.OwnNumbers.answers_alike}
use Rattle.office_commands.{specs.{Delivering.StandsAlike, Opening.BeginsAt, Ending.{Prints, Tells as TellsText}}, proofs.Alike.{account_alike, answer_alike}}
use Rattle.office_commands.specs.Serving.{EndsServing, listening_line, served_line, IsServed, AreServed, postponed_event, HasNoEvent, MayBeThere, LeadsNamed, EnrolsNamed, AreServedBy, IsServedAlone}
use Rattle.office_commands.proofs.{ReportLemmas.found_alike, StreamLemmas.stand_alike}
use Rattle.office_replies.specs.declared.accounts.AccountAnswer.TheVariants as account_answer
use Rattle.office_replies.specs.declared.deliver.Response.TheVariants as response

-- ---- what stands around a desk

-- steps of what a desk stands in are steps of the desk, if each one is
inner_steps : {W D : Type 0} (inner : W → D) (outer_leads : W → List ℕ → Response → W → Type 0) (outer_enrols : W → List ℕ → List ℕ → AccountAnswer → W → Type 0)
    (leads : D → List ℕ → Response → D → Type 0) (enrols : D → List ℕ → List ℕ → AccountAnswer → D → Type 0)
    (looks : D → Look → Result (Option (List ℕ)) NotNow → D → Type 0) (old : W) (steps : List Step) (new : W)
    → StepsLead outer_leads outer_enrols (λ o at found n. looks (inner o) at found (inner n)) old steps new
    → ((o : W) (text : List ℕ) (given : Response) (n : W) → outer_leads o text given n → leads (inner o) text given (inner n))
    → ((o : W) (code kind : List ℕ) (given : AccountAnswer) (n : W) → outer_enrols o code kind given n → enrols (inner o) code kind given (inner n))
    → StepsLead leads enrols looks (inner old) steps (inner new)
inner_steps inner outer_leads outer_enrols leads enrols looks old [] new same by by' = ap inner same
inner_steps inner outer_leads outer_enrols leads enrols looks old (delivery text given ∷ steps) new (next, led, rest) by by' =
    (inner next, by old text given next led, inner_steps inner outer_leads outer_enrols leads enrols looks next steps new rest by by')
inner_steps inner outer_leads outer_enrols leads enrols looks old (account code kind given ∷ steps) new (next, led, rest) by by' =
    (inner next, by' old code kind given next led, inner_steps inner outer_leads outer_enrols leads enrols looks next steps new rest by by')
inner_steps inner outer_leads outer_enrols leads enrols looks old (look at found ∷ steps) new (next, led, rest) by by' =
    (inner next, led, inner_steps inner outer_leads outer_enrols leads enrols looks next steps new rest by by')

-- what goes by the name of a file is done, or `not now`
pub named_leads : {D : Type 0} (leads : D → List ℕ → Response → D → Type 0) (named unnamed : Type 0) (nameless : Bool) (old : D) (text : List ℕ) (given : Response) (new : D)
    → (named × (nameless ≡ false) × leads old text given new) ⊎ (unnamed × (nameless ≡ true) × (given ≡ response.NotNow) × (new ≡ old)) → LeadsNamed leads old text given new
named_leads leads named unnamed nameless old text given new (inl (said, noted, led)) = inl led
named_leads leads named unnamed nameless old text given new (inr (said, noted, off, same)) = inr (off, same)

pub named_enrols : {D : Type 0} (enrols : D → List ℕ → List ℕ → AccountAnswer → D → Type 0) (named unnamed : Type 0) (nameless : Bool) (old : D) (code kind : List ℕ) (given : AccountAnswer) (new : D)
    → (named × (nameless ≡ false) × enrols old code kind given new) ⊎ (unnamed × (nameless ≡ true) × (given ≡ account_answer.NotNow) × (new ≡ old)) → EnrolsNamed enrols old code kind given new
named_enrols enrols named unnamed nameless old code kind given new (inl (said, noted, led)) = inl led
named_enrols enrols named unnamed nameless old code kind given new (inr (said, noted, off, same)) = inr (off, same)

-- from what a desk was to what it is, by whatever stood around it
served_by : {W D : Type 0} (inner : W → D) (outer_leads : W → List ℕ → Response → W → Type 0) (outer_enrols : W → List ℕ → List ℕ → AccountAnswer → W → Type 0)
    (leads : D → List ℕ → Response → D → Type 0) (enrols : D → List ℕ → List ℕ → AccountAnswer → D → Type 0)
    (looks : D → Look → Result (Option (List ℕ)) NotNow → D → Type 0) (count : ℕ) (first last : W) (opened end : D) → inner first ≡ opened → end ≡ inner last
    → ((o : W) (text : List ℕ) (given : Response) (n : W) → outer_leads o text given n → LeadsNamed leads (inner o) text given (inner n))
    → ((o : W) (code kind : List ℕ) (given : AccountAnswer) (n : W) → outer_enrols o code kind given n → EnrolsNamed enrols (inner o) code kind given (inner n))
    → AtMost outer_leads outer_enrols (λ o at found n. looks (inner o) at found (inner n)) count first last → AreServedBy leads enrols looks count opened end
served_by {W} {D} inner outer_leads outer_enrols leads enrols looks count first last opened end begins ends by by' served = record {
  steps = served.steps;
  few = served.few;
  led = subst (λ (at : D). StepsLead (LeadsNamed leads) (EnrolsNamed enrols) looks opened served.steps at) (sym ends)
      (subst (λ (at : D). StepsLead (LeadsNamed leads) (EnrolsNamed enrols) looks at served.steps (inner last)) begins
      (inner_steps inner outer_leads outer_enrols (LeadsNamed leads) (EnrolsNamed enrols) looks first served.steps last served.led by by'));
}

-- ---- set-ups that say the same

module _ (one other : SetupContent) (says : SaysSame one other) where
  shown_alike : (es : List Event) (at : Look) (found : Option (List ℕ)) → ShowsAfter one es at found → ShowsAfter other es at found
  shown_alike es (report query) found told = found_alike one other says es query found told
  shown_alike es (texts_after from) found told =
      record { db = told.db; rows = told.rows; has = told.has; after = (answers_alike one other says es).rows told.rows told.after; pages = told.pages }
  shown_alike es (of_archive place query) found told = told

  told_alike : (es : List Event) (at : Look) (found : Result (Option (List ℕ)) NotNow) → Tells (ShowsAfter one es at) found → Tells (ShowsAfter other es at) found
  told_alike es at (Ok found) told = shown_alike es at found told
  told_alike es at (Err refusal) told = tt

  step_alike : (es : List Event) (step : Step) → IsServed one es step → IsServed other es step
  step_alike es (delivery text given) served = elim served [ inl is ↦ inl (answer_alike one other says es text given is) | inr off ↦ inr off ]
  step_alike es (account code kind given) served = elim served [ inl is ↦ inl (account_alike one other says es code kind given is) | inr off ↦ inr off ]
  step_alike es (look at found) served = told_alike es at found served

  served_alike : (es : List Event) (steps : List Step) → AreServed one es steps → AreServed other es steps
  served_alike es [] served = tt
  served_alike es (step ∷ steps) served = (step_alike es step served.0, served_alike (with_step es step) steps served.1)

-- ---- the terminal

-- no event changes it
terminal_with : (content : SetupContent) (event : Event) → (content_with content event).terminal ≡ content.terminal
terminal_with content (delivered text) = refl
terminal_with content (migrated version) = refl
terminal_with content (added code kind) = refl

terminal_after : (content : SetupContent) (es : List Event) → (content_after content es).terminal ≡ content.terminal
terminal_after content [] = refl
terminal_after content (event ∷ es) = terminal_after (content_with content event) es ∙ terminal_with content event

-- ---- one step

-- the rows after those events, or with one more that is pending
abbrev LeftBy : SetupContent → List Event → (Event → Type 0) → Trees → Type 0
LeftBy content es Pends db = IsAfter content es db ⊎ ((event : Event) × Pends event × IsAfter content (es ++ event ∷ []) db)

-- what is pending after a step: what was before, if the step is no event, or the step
abbrev pub PendsBehind : (Event → Type 0) → Step → Event → Type 0
PendsBehind Pends step event = (Pends event × ((es : List Event) → with_step es step ≡ es)) ⊎ (postponed_event step ≡ Some event)

shown_of : {S : Type 0} (g : Ghosts S) (content : SetupContent) (es : List Event) (desk : Desk S g) → StandsFor g content es desk → (at : Look) (found : Option (List ℕ))
    → DeskShows g desk at found → ShowsAfter content es at found
shown_of g content es desk stands (report query) found told = told.after content es stands
shown_of g content es desk stands (texts_after from) found told =
    record { db = (state g desk.conn).committed; rows = stands.rows; has = stands.has; after = stands.after; pages = told stands.rows stands.has }
shown_of g content es desk stands (of_archive place query) found told = told

told_of : {S : Type 0} (g : Ghosts S) (content : SetupContent) (es : List Event) (desk : Desk S g) → StandsFor g content es desk → (at : Look)
    (found : Result (Option (List ℕ)) NotNow) → Tells (DeskShows g desk at) found → Tells (ShowsAfter content es at) found
told_of g content es desk stands at (Ok found) told = shown_of g content es desk stands at found told
told_of g content es desk stands at (Err refusal) told = tt

-- what is pending after steps
abbrev pub PendsAfter : (Event → Type 0) → List Step → Event → Type 0
PendsAfter Pends steps event = (Pends event × HasNoEvent steps) ⊎ MayBeThere steps event

pub one_before : (Pends : Event → Type 0) (step : Step) (steps : List Step) (event : Event) → PendsAfter (PendsBehind Pends step) steps event → PendsAfter Pends (step ∷ steps) event
one_before Pends step steps event (inl (inl pends, none)) = inl (pends.0, λ es. none (with_step es step) ∙ pends.1 es)
one_before Pends step steps event (inl (inr off, none)) = inr (inl (off, none))
one_before Pends step steps event (inr there) = inr (inr there)

pub none_pends : (steps : List Step) (event : Event) → PendsAfter (λ _. ⊥) steps event → MayBeThere steps event
none_pends steps event (inl never) = absurd never.0
none_pends steps event (inr there) = there

module _ {S : Type 0} {g : Ghosts S} where
  abbrev LedBy : Desk S g → Step → Desk S g → Type 0
  LedBy = StepLeads (LeadsNamed (Leads g)) (EnrolsNamed (Enrols g)) (Looks g)

  sound_step : (old : Desk S g) (step : Step) (new : Desk S g) → LedBy old step new → IsSound g new → IsSound g old
  sound_step old (delivery text given) new led sound = elim led [ inl call ↦ call.stays sound | inr off ↦ subst (IsSound g) off.1 sound ]
  sound_step old (account code kind given) new led sound = elim led [ inl call ↦ call.stays sound | inr off ↦ subst (IsSound g) off.1 sound ]
  sound_step old (look at found) new call sound = call.looks.stays sound

  stand_step : (content : SetupContent) (es : List Event) (old : Desk S g) (step : Step) (new : Desk S g) → LedBy old step new → IsSound g new → StandsFor g content es old
      → IsServed content es step × StandsFor g content (with_step es step) new
  stand_step content es old (delivery text given) new led sound stands = elim led [
    | inl call ↦ (let done = call.delivers sound content es stands in (inl done.0, done.1))
    | inr off ↦ (inr off.0, subst (λ (r : Response). StandsFor g content (with_answered es text r) new) (sym off.0) (subst (StandsFor g content es) (sym off.1) stands))
  ]
  stand_step content es old (account code kind given) new led sound stands = elim led [
    | inl call ↦ (let done = call.adds sound content es stands in (inl done.0, done.1))
    | inr off ↦ (inr off.0, subst (λ (r : AccountAnswer). StandsFor g content (with_added es code kind r) new) (sym off.0) (subst (StandsFor g content es) (sym off.1) stands))
  ]
  stand_step content es old (look at found) new call sound stands =
      (told_of g content es old stands at found (call.told sound), call.looks.same sound content es stands)

  module _ (content : SetupContent) (es : List Event) (old new : Desk S g) (Pends : Event → Type 0)
      (was : (db : Trees) → (state g old.conn).may_leave db → LeftBy content es Pends db) (db : Trees) (left : (state g new.conn).may_leave db) where
    -- a step that is no event and leaves nothing else
    left_less : (step : Step) → ((es : List Event) → with_step es step ≡ es) → (state g old.conn).may_leave db → LeftBy content (with_step es step) (PendsBehind Pends step) db
    left_less step none before =
        subst (λ (events : List Event). LeftBy content events (PendsBehind Pends step) db) (sym (none es)) (elim (was db before) [
          | inl after ↦ inl after
          | inr more ↦ inr (more.0, inl (more.1, none), more.2)
        ])

    left_same : new ≡ old → (state g old.conn).may_leave db
    left_same same = subst (λ (desk : Desk S g). (state g desk.conn).may_leave db) same left

    left_delivery : (text : List ℕ) (given : Response) → LedBy old (delivery text given) new → IsSound g new → StandsFor g content es old
        → LeftBy content (with_answered es text given) (PendsBehind Pends (delivery text given)) db
    left_delivery text given (inr off) sound stands = left_less (delivery text given) (λ events. ap (with_answered events text) off.0) (left_same off.1)
    left_delivery text response.NotNow (inl call) sound stands = elim (call.crash (call.stays sound) sound.0 content es stands db left) [
      | inl after ↦ inl after
      | inr more ↦ inr (delivered text, inr refl, more)
    ]
    left_delivery text (response.Taken body) (inl call) sound stands = inl (call.crash (call.stays sound) sound.0 content es stands db left)
    left_delivery text (response.Repeat body) (inl call) sound stands = inl (call.crash (call.stays sound) sound.0 content es stands db left)
    left_delivery text (response.Waiting body) (inl call) sound stands = inl (call.crash (call.stays sound) sound.0 content es stands db left)
    left_delivery text (response.Clash body) (inl call) sound stands = inl (call.crash (call.stays sound) sound.0 content es stands db left)
    left_delivery text (response.Refused fault) (inl call) sound stands = inl (call.crash (call.stays sound) sound.0 content es stands db left)
    left_delivery text (response.RefusedWithContrl fault body) (inl call) sound stands = inl (call.crash (call.stays sound) sound.0 content es stands db left)

    left_account : (code kind : List ℕ) (given : AccountAnswer) → LedBy old (account code kind given) new → IsSound g new → StandsFor g content es old
        → LeftBy content (with_added es code kind given) (PendsBehind Pends (account code kind given)) db
    left_account code kind given (inr off) sound stands = left_less (account code kind given) (λ events. ap (with_added events code kind) off.0) (left_same off.1)
    left_account code kind account_answer.NotNow (inl call) sound stands = elim (call.crash (call.stays sound) sound.0 content es stands db left) [
      | inl after ↦ inl after
      | inr more ↦ inr (added code kind, inr refl, more)
    ]
    left_account code kind (account_answer.Added id body) (inl call) sound stands = inl (call.crash (call.stays sound) sound.0 content es stands db left)
    left_account code kind (account_answer.Known id body) (inl call) sound stands = inl (call.crash (call.stays sound) sound.0 content es stands db left)
    left_account code kind (account_answer.Refused fault) (inl call) sound stands = inl (call.crash (call.stays sound) sound.0 content es stands db left)

    left_step : (step : Step) → LedBy old step new → IsSound g new → StandsFor g content es old → LeftBy content (with_step es step) (PendsBehind Pends step) db
    left_step (delivery text given) led sound stands = left_delivery text given led sound stands
    left_step (account code kind given) led sound stands = left_account code kind given led sound stands
    left_step (look at found) call sound stands =
        left_less (look at found) (λ events. refl) (call.looks.crash (call.looks.stays sound) sound.0 stands.has.schema db left)

  -- ---- steps, one after the other

  abbrev AllLed : Desk S g → List Step → Desk S g → Type 0
  AllLed = StepsLead (LeadsNamed (Leads g)) (EnrolsNamed (Enrols g)) (Looks g)

  sound_first : (old : Desk S g) (steps : List Step) (new : Desk S g) → AllLed old steps new → IsSound g new → IsSound g old
  sound_first old [] new same sound = subst (IsSound g) same sound
  sound_first old (step ∷ steps) new (next, led, rest) sound = sound_step old step next led (sound_first next steps new rest sound)

  stand_steps : (content : SetupContent) (es : List Event) (old : Desk S g) (steps : List Step) (new : Desk S g) → AllLed old steps new → IsSound g new → StandsFor g content es old
      → AreServed content es steps × StandsFor g content (events_after es steps) new
  stand_steps content es old [] new same sound stands = (tt, subst (StandsFor g content es) (sym same) stands)
  stand_steps content es old (step ∷ steps) new (next, led, rest) sound stands =
      let there = sound_first next steps new rest sound in
      let one = stand_step content es old step next led there stands in
      let more = stand_steps content (with_step es step) next steps new rest sound one.1 in
      ((one.0, more.0), more.1)

  left_steps : (content : SetupContent) (es : List Event) (old : Desk S g) (steps : List Step) (new : Desk S g) → AllLed old steps new → IsSound g new → StandsFor g content es old
      → (Pends : Event → Type 0) → ((db : Trees) → (state g old.conn).may_leave db → LeftBy content es Pends db)
      → (db : Trees) → (state g new.conn).may_leave db → LeftBy content (events_after es steps) (PendsAfter Pends steps) db
  left_steps content es old [] new same sound stands Pends was db left = elim (was db (subst (λ (desk : Desk S g). (state g desk.conn).may_leave db) same left)) [
    | inl after ↦ inl after
    | inr more ↦ inr (more.0, inl (more.1, λ events. refl), more.2)
  ]
  left_steps content es old (step ∷ steps) new (next, led, rest) sound stands Pends was db left =
      let there = sound_first next steps new rest sound in
      let one = stand_step content es old step next led there stands in
      let then = left_steps content (with_step es step) next steps new rest sound one.1 (PendsBehind Pends step)
      (λ found leaves. left_step content es old next Pends was found leaves step led there stands) db left in
      elim then [
        | inl after ↦ inl after
        | inr more ↦ inr (more.0, one_before Pends step steps more.0 more.1, more.2)
      ]

  -- a desk that stands for events of a set-up has its terminal
  named_alike : (content : SetupContent) (es : List Event) (desk : Desk S g) → StandsAlike content es desk → string_bytes desk.setup.terminal ≡ content.terminal
  named_alike content es desk alike =
      sym (ap (λ (k : SetupContent). k.terminal) alike.holds.now_is) ∙ terminal_after alike.opening es ∙ alike.says.terminal

  -- requests that were served of it, as it was opened on files
  pub served_alone : (image : Image) (count : ℕ) (opened desk : Desk S g) → (IsSound g opened → (content : SetupContent) (es : List Event) → BeginsAt image content es → OpensAt g content es opened) → AreServedBy (Leads g) (Enrols g) (Looks g) count opened desk
      → IsServedAlone g image count opened desk
  served_alone image count opened desk opens served = record {
    served = served;
    answered = λ sound content es begins.
        let at = opens (sound_first opened served.steps desk served.led sound) content es begins in
        let done = stand_steps at.opening es opened served.steps desk served.led sound at.stands in
        (served_alike at.opening content at.opening_says es served.steps done.0, stand_alike at.opening content at.opening_says (events_after es served.steps) desk done.1);
    named = λ sound content es begins.
        let at = opens (sound_first opened served.steps desk served.led sound) content es begins in
        let done = stand_steps at.opening es opened served.steps desk served.led sound at.stands in
        named_alike content (events_after es served.steps) desk (stand_alike at.opening content at.opening_says (events_after es served.steps) desk done.1);
    leaves = λ sound content es begins.
        let at = opens (sound_first opened served.steps desk served.led sound) content es begins in
        record {
          opening = at.opening;
          says = at.opening_says;
          holds = λ db left. elim (left_steps at.opening es opened served.steps desk served.led sound at.stands (λ _. ⊥) (λ found leaves. inl (at.leaves found leaves)) db left) [
            | inl after ↦ inl after
            | inr more ↦ inr (more.0, none_pends served.steps more.0 more.1, more.2)
          ];
        };
  }

-- ---- what is printed and told

-- nothing is reported where nothing is written
pub tells_none : {W : Type 0} (contents : W → Option (List ℕ)) (old new : Port W) → new ≡ old → TellsText new.failed (contents old.inner) (contents new.inner) []
tells_none {W} contents old new same fine = subst (λ (port : Port W). Appends (contents old.inner) (contents port.inner) []) (sym same) (Appends-nil (contents old.inner))

-- it listened and served, and printed the second line, or a front of it
pub ends_by : {W : Type 0} (port count : ℕ) (old mid new : Port W) (a b c : Option (List ℕ)) (tells : List ℕ → Type 0) (Served : ℕ → Type 0) (text : List ℕ) (status : ℕ) → text ≡ served_line count
    → Appends a b (listening_line port) → mid.failed ≡ old.failed → tells [] → Served (calls_of count) → Prints mid.failed new.failed new.flushed b c text 0 status → EndsServing port count old new a c tells Served status
ends_by port count old mid new a b c tells Served text status is one well told served (inl (zero, more, same, flushed)) =
    inl (zero, Appends-trans a b c (listening_line port) (served_line count) one (subst (Appends b c) is more), flushed, same ∙ well, told, served)
ends_by port count old mid new a b c tells Served text status is one well told served (inr (three, more, fails)) =
    inr (inl (three, fails, (b, one, subst (AppendsFront b c) is more), told, served))

-- what was served of a desk, as what was served of what that is in
pub ends_as : {W : Type 0} (port count : ℕ) (old new : Port W) (a b : Option (List ℕ)) (tells : List ℕ → Type 0) (Served Served' : ℕ → Type 0) (status : ℕ) → ((n : ℕ) → Served n → Served' n)
    → EndsServing port count old new a b tells Served status → EndsServing port count old new a b tells Served' status
ends_as port count old new a b tells Served Served' status on (inl (zero, writes, flushed, well, told, served)) = inl (zero, writes, flushed, well, told, on (calls_of count) served)
ends_as port count old new a b tells Served Served' status on (inr (inl (three, fails, first, told, served))) = inr (inl (three, fails, first, told, on (calls_of count) served))
ends_as port count old new a b tells Served Served' status on (inr (inr (three, none, served))) = inr (inr (three, none, on 0 served))

-- what was served of what stands around a desk, as what was served of the desk
pub ends_inner : {P W D : Type 0} (port count : ℕ) (old new : Port P) (a b : Option (List ℕ)) (tells : List ℕ → Type 0) (inner : W → D)
    (outer_leads : W → List ℕ → Response → W → Type 0) (outer_enrols : W → List ℕ → List ℕ → AccountAnswer → W → Type 0)
    (leads : D → List ℕ → Response → D → Type 0) (enrols : D → List ℕ → List ℕ → AccountAnswer → D → Type 0)
    (looks : D → Look → Result (Option (List ℕ)) NotNow → D → Type 0) (first last : W) (status : ℕ)
    → EndsServing port count old new a b tells (λ most. AtMost outer_leads outer_enrols (λ o at found n. looks (inner o) at found (inner n)) most first last) status
    → (opened end : D) → inner first ≡ opened → end ≡ inner last
    → ((o : W) (text : List ℕ) (given : Response) (n : W) → outer_leads o text given n → LeadsNamed leads (inner o) text given (inner n))
    → ((o : W) (code kind : List ℕ) (given : AccountAnswer) (n : W) → outer_enrols o code kind given n → EnrolsNamed enrols (inner o) code kind given (inner n))
    → EndsServing port count old new a b tells (λ most. AreServedBy leads enrols looks most opened end) status
ends_inner port count old new a b tells inner outer_leads outer_enrols leads enrols looks first last status served opened end begins ends by by' =
    ends_as port count old new a b tells (λ most. AtMost outer_leads outer_enrols (λ o at found n. looks (inner o) at found (inner n)) most first last)
    (λ most. AreServedBy leads enrols looks most opened end) status
    (λ most calls. served_by inner outer_leads outer_enrols leads enrols looks most first last opened end begins ends by by' calls) served
