-- Requests that are served of a store and its archives.
use Rattle.std.proofs.Common.{◌≡◌, ◌⊎◌, inl, inr, ℕ, List, [], ◌∷◌, ◌++◌, Option, Result, refl, sym, ap, subst, ◌∙◌}
use Rattle.sqlite.specs.{Held.state, Recovery.Image, Tree.Trees}
use Rattle.sqlite_trees.specs.declared.store.Store.{Ghosts}
use Rattle.office_replies.specs.{Adding.with_added, Delivering.with_answered, Events.{Event, added, delivered}, declared.accounts.AccountAnswer.AccountAnswer}
use Rattle.office_replies.specs.declared.deliver.Response.{Response}
use Rattle.office_reports.specs.{Looking.Look, declared.query.NotNow.NotNow}
use Rattle.office_loading.specs.Closed.{ClosedContent, closed_content}
use Rattle.office_admission.specs.{Given.IsGiven, Setups.SetupContent}
use Rattle.office_history.specs.After.{SaysSame}
use Rattle.office_http.specs.Steps.{Step, account, delivery, events_after, look, with_step, StepLeads, StepsLead}
use Rattle.office_desk.specs.{Desks.IsSound, declared.desk.Desk.Desk}
use Rattle.office_commands.specs.{Serving.{AreServedBy, EnrolsNamed, LeadsNamed, MayBeThere}, Delivering.{Leads, StandAlike}, Beside.{HoldsBeside, OpensOn}}
use Rattle.office_commands.specs.ServingBeside.{AllServed, AreServedTogether, Enrols, HoldsPending, IsServedOver, IsServedTogether, Looks}
use Rattle.office_commands.proofs.{Alike.{account_alike, answer_alike}, ServingLemmas.{PendsAfter, PendsBehind, none_pends, one_before, served_alone}}
use Rattle.office_parts.specs.Archives.{Archive}
use Rattle.office_archives.specs.Together.{IsBesideAfter}
use Rattle.office_replies.specs.declared.accounts.AccountAnswer.TheVariants as account_answer
use Rattle.office_replies.specs.declared.deliver.Response.TheVariants as response
use Rattle.office_desk.specs.Calls as calls

says_then : (one other third : SetupContent) → SaysSame one other → SaysSame other third → SaysSame one third
says_then one other third a b = record {
  terminal = a.terminal ∙ b.terminal;
  codes = a.codes ∙ b.codes;
  partners = a.partners ∙ b.partners;
  blocks = a.blocks ∙ b.blocks;
  limit = a.limit ∙ b.limit;
}

module _ {S A : Type 0} (g : Ghosts S) (is_sound : A → Type 0) (are : List Archive → A → Type 0) where
  abbrev Office : Type 0
  Office = Desk S g × A

  abbrev Led : Office → Step → Office → Type 0
  Led = StepLeads (LeadsNamed (Leads g is_sound are)) (EnrolsNamed (Enrols g is_sound are)) (Looks g is_sound are)

  abbrev Stands : SetupContent → List Event → Office → Type 0
  Stands = StandAlike g is_sound are

  sound_step : (old : Office) (step : Step) (new : Office) → Led old step new → IsSound g new.0 → IsSound g old.0
  sound_step old (delivery text given) new led sound = elim led [ inl call ↦ call.stays sound | inr off ↦ subst (λ (office : Office). IsSound g office.0) off.1 sound ]
  sound_step old (account code kind given) new led sound = elim led [ inl call ↦ call.stays sound | inr off ↦ subst (λ (office : Office). IsSound g office.0) off.1 sound ]
  sound_step old (look at found) new call sound = call.looks.stays sound

  sound_first : (old : Office) (steps : List Step) (new : Office) → AllServed g is_sound are old steps new → IsSound g new.0 → IsSound g old.0
  sound_first old [] new same sound = subst (λ (office : Office). IsSound g office.0) same sound
  sound_first old (step ∷ steps) new (next, led, rest) sound = sound_step old step next led (sound_first next steps new rest sound)

  stand_step : (content : SetupContent) (es : List Event) (old : Office) (step : Step) (new : Office) → Led old step new → IsSound g new.0 → Stands content es old
      → IsServedTogether g is_sound are content es old step new × Stands content (with_step es step) new
  stand_step content es old (delivery text given) new led sound at = elim led [
    | inl call ↦ (
      inl (λ whole. answer_alike at.opening content at.says es text given (call.answers sound whole at.opening es at.holds)),
      record { opening = at.opening; says = at.says; holds = call.stand sound at.opening es at.holds },
    )
    | inr off ↦ (inr off.0, subst (λ (r : Response). Stands content (with_answered es text r) new) (sym off.0) (subst (Stands content es) (sym off.1) at))
  ]
  stand_step content es old (account code kind given) new led sound at = elim led [
    | inl call ↦ (let done = call.adds sound at.opening es at.holds in
        (inl (account_alike at.opening content at.says es code kind given done.0), record { opening = at.opening; says = at.says; holds = done.1 }))
    | inr off ↦ (inr off.0, subst (λ (r : AccountAnswer). Stands content (with_added es code kind r) new) (sym off.0) (subst (Stands content es) (sym off.1) at))
  ]
  stand_step content es old (look at found) new call sound stands =
      let then = call.looks.same sound stands.opening es stands.holds in
      ((stands, λ whole. call.told sound whole), record { opening = then.opening; says = says_then then.opening stands.opening content then.says stands.says; holds = then.stand })

  -- without archives each is a call of the desk
  steps_alone : (old : Office) (steps : List Step) (new : Office) → AllServed g is_sound are old steps new → are [] old.1 → StepsLead (LeadsNamed (calls.Leads g)) (EnrolsNamed (calls.Enrols g)) (calls.Looks g) old.0 steps new.0
  steps_alone old [] new same none = ap (λ (office : Office). office.0) same
  steps_alone old (delivery text given ∷ steps) new (next, inl call, rest) none = (next.0, inl (call.alone none), steps_alone next steps new rest (call.these [] none))
  steps_alone old (delivery text given ∷ steps) new (next, inr off, rest) none =
      (next.0, inr (off.0, ap (λ (office : Office). office.0) off.1), steps_alone next steps new rest (subst (λ (office : Office). are [] office.1) (sym off.1) none))
  steps_alone old (account code kind given ∷ steps) new (next, inl call, rest) none = (next.0, inl call.own, steps_alone next steps new rest (call.these [] none))
  steps_alone old (account code kind given ∷ steps) new (next, inr off, rest) none =
      (next.0, inr (off.0, ap (λ (office : Office). office.0) off.1), steps_alone next steps new rest (subst (λ (office : Office). are [] office.1) (sym off.1) none))
  steps_alone old (look at found ∷ steps) new (next, call, rest) none = (next.0, call.alone none, steps_alone next steps new rest (call.looks.these [] none))

  stand_steps : (content : SetupContent) (es : List Event) (old : Office) (steps : List Step) (new : Office) (led : AllServed g is_sound are old steps new) → IsSound g new.0 → Stands content es old
      → AreServedTogether g is_sound are content es old steps new led × Stands content (events_after es steps) new
  stand_steps content es old [] new same sound stands = (tt, subst (Stands content es) (sym same) stands)
  stand_steps content es old (step ∷ steps) new (next, led, rest) sound stands =
      let one = stand_step content es old step next led (sound_first next steps new rest sound) stands in
      let more = stand_steps content (with_step es step) next steps new rest sound one.1 in
      ((one.0, more.0), more.1)

  -- ---- what a crash leaves

  left_more : (closed : ClosedContent) (content : SetupContent) (es : List Event) (db : Trees) (P Q : Event → Type 0) → ((event : Event) → P event → Q event)
      → HoldsPending g is_sound are closed content es P db → HoldsPending g is_sound are closed content es Q db
  left_more closed content es db P Q on it = record {
    opening = it.opening;
    says = it.says;
    holds = (it.holds.0, it.holds.1, it.holds.2, elim it.holds.3 [ inl after ↦ inl after | inr more ↦ inr (more.0, on more.0 more.1, more.2) ]);
  }

  closed_step : (old : Office) (step : Step) (new : Office) → Led old step new → new.0.closed ≡ old.0.closed
  closed_step old (delivery text given) new led = elim led [ inl call ↦ call.closed | inr off ↦ ap (λ (office : Office). office.0.closed) off.1 ]
  closed_step old (account code kind given) new led = elim led [ inl call ↦ call.closed | inr off ↦ ap (λ (office : Office). office.0.closed) off.1 ]
  closed_step old (look at found) new call = call.looks.closed

  module _ (closed : ClosedContent) (content : SetupContent) (es : List Event) (old new : Office) (Pends : Event → Type 0) (is : closed ≡ closed_content old.0.closed)
      (was : (db : Trees) → (state g old.0.conn).may_leave db → HoldsPending g is_sound are closed content es Pends db) (db : Trees) (left : (state g new.0.conn).may_leave db) where
    abbrev Left : List Event → (Event → Type 0) → Type 0
    Left events Pending = HoldsPending g is_sound are closed content events Pending db

    -- a call that did not come to the office leaves what was there
    left_less : (step : Step) → ((events : List Event) → with_step events step ≡ events) → new ≡ old → Left (with_step es step) (PendsBehind Pends step)
    left_less step none same =
        subst (λ (events : List Event). Left events (PendsBehind Pends step)) (sym (none es))
        (left_more closed content es db Pends (PendsBehind Pends step) (λ event pends. inl (pends, none)) (was db (subst (λ (office : Office). (state g office.0.conn).may_leave db) same left)))

    kept : (stands : Stands content es old) (events : List Event) → IsBesideAfter stands.holds.list (closed_content old.0.closed) stands.opening events db → IsBesideAfter stands.holds.list closed stands.opening events db
    kept stands events = subst (λ (k : ClosedContent). IsBesideAfter stands.holds.list k stands.opening events db) (sym is)

    left_now : (stands : Stands content es old) (events : List Event) (Pending : Event → Type 0) → IsBesideAfter stands.holds.list (closed_content old.0.closed) stands.opening events db → Left events Pending
    left_now stands events Pending after =
        record { opening = stands.opening; says = stands.says; holds = (stands.holds.list, old.1, stands.holds.these, inl (kept stands events after)) }

    -- what was put off is there whole or not at all
    left_off : (stands : Stands content es old) (event : Event) (Pending : Event → Type 0) → Pending event
        → IsBesideAfter stands.holds.list (closed_content old.0.closed) stands.opening es db ⊎ IsBesideAfter stands.holds.list (closed_content old.0.closed) stands.opening (es ++ event ∷ []) db → Left es Pending
    left_off stands event Pending pends either = elim either [
      | inl after ↦ left_now stands es Pending after
      | inr more ↦ record { opening = stands.opening; says = stands.says; holds = (stands.holds.list, old.1, stands.holds.these, inr (event, pends, kept stands (es ++ event ∷ []) more)) }
    ]

    left_delivery : (text : List ℕ) (given : Response) → Led old (delivery text given) new → IsSound g new.0 → Stands content es old → Left (with_answered es text given) (PendsBehind Pends (delivery text given))
    left_delivery text given (inr off) sound stands = left_less (delivery text given) (λ events. ap (with_answered events text) off.0) off.1
    left_delivery text response.NotNow (inl call) sound stands =
        left_off stands (delivered text) (PendsBehind Pends (delivery text response.NotNow)) (inr refl) (call.crash (call.stays sound) sound.0 stands.opening es stands.holds db left)
    left_delivery text (response.Taken body) (inl call) sound stands = left_now stands (es ++ delivered text ∷ []) _ (call.crash (call.stays sound) sound.0 stands.opening es stands.holds db left)
    left_delivery text (response.Repeat body) (inl call) sound stands = left_now stands (es ++ delivered text ∷ []) _ (call.crash (call.stays sound) sound.0 stands.opening es stands.holds db left)
    left_delivery text (response.Waiting body) (inl call) sound stands = left_now stands (es ++ delivered text ∷ []) _ (call.crash (call.stays sound) sound.0 stands.opening es stands.holds db left)
    left_delivery text (response.Clash body) (inl call) sound stands = left_now stands (es ++ delivered text ∷ []) _ (call.crash (call.stays sound) sound.0 stands.opening es stands.holds db left)
    left_delivery text (response.Refused fault) (inl call) sound stands = left_now stands (es ++ delivered text ∷ []) _ (call.crash (call.stays sound) sound.0 stands.opening es stands.holds db left)
    left_delivery text (response.RefusedWithContrl fault body) (inl call) sound stands =
        left_now stands (es ++ delivered text ∷ []) _ (call.crash (call.stays sound) sound.0 stands.opening es stands.holds db left)

    left_account : (code kind : List ℕ) (given : AccountAnswer) → Led old (account code kind given) new → IsSound g new.0 → Stands content es old → Left (with_added es code kind given) (PendsBehind Pends (account code kind given))
    left_account code kind given (inr off) sound stands = left_less (account code kind given) (λ events. ap (with_added events code kind) off.0) off.1
    left_account code kind account_answer.NotNow (inl call) sound stands =
        left_off stands (added code kind) (PendsBehind Pends (account code kind account_answer.NotNow)) (inr refl) (call.crash (call.stays sound) sound.0 stands.opening es stands.holds db left)
    left_account code kind (account_answer.Added id body) (inl call) sound stands = left_now stands (es ++ added code kind ∷ []) _ (call.crash (call.stays sound) sound.0 stands.opening es stands.holds db left)
    left_account code kind (account_answer.Known id body) (inl call) sound stands = left_now stands es _ (call.crash (call.stays sound) sound.0 stands.opening es stands.holds db left)
    left_account code kind (account_answer.Refused fault) (inl call) sound stands = left_now stands es _ (call.crash (call.stays sound) sound.0 stands.opening es stands.holds db left)

    left_step : (step : Step) → Led old step new → IsSound g new.0 → Stands content es old → Left (with_step es step) (PendsBehind Pends step)
    left_step (delivery text given) led sound stands = left_delivery text given led sound stands
    left_step (account code kind given) led sound stands = left_account code kind given led sound stands
    left_step (look at found) call sound stands = left_now stands es _ (call.looks.crash (call.looks.stays sound) sound.0 stands.opening es stands.holds db left)

  left_steps : (closed : ClosedContent) (content : SetupContent) (es : List Event) (old : Office) (steps : List Step) (new : Office) (led : AllServed g is_sound are old steps new) → IsSound g new.0
      → closed ≡ closed_content old.0.closed → Stands content es old
      → (Pends : Event → Type 0) → ((db : Trees) → (state g old.0.conn).may_leave db → HoldsPending g is_sound are closed content es Pends db)
      → (db : Trees) → (state g new.0.conn).may_leave db → HoldsPending g is_sound are closed content (events_after es steps) (PendsAfter Pends steps) db
  left_steps closed content es old [] new same sound is stands Pends was db left =
      left_more closed content es db Pends (PendsAfter Pends []) (λ event pends. inl (pends, λ events. refl)) (was db (subst (λ (office : Office). (state g office.0.conn).may_leave db) same left))
  left_steps closed content es old (step ∷ steps) new (next, led, rest) sound is stands Pends was db left =
      let there = sound_first next steps new rest sound in
      let one = stand_step content es old step next led there stands in
      left_more closed content (events_after es (step ∷ steps)) db (PendsAfter (PendsBehind Pends step) steps) (PendsAfter Pends (step ∷ steps)) (one_before Pends step steps)
      (left_steps closed content (with_step es step) next steps new rest sound (is ∙ ap closed_content (sym (closed_step old step next led))) one.1 (PendsBehind Pends step)
      (λ found leaves. left_step closed content es old next Pends is was found leaves step led there stands) db left)

  -- requests that were served of a store that was opened on files, and of its archives
  pub served_over : (image : Image) (count : ℕ) (opened office : Office) → OpensOn g image opened.0 → AreServedBy (Leads g is_sound are) (Enrols g is_sound are) (Looks g is_sound are) count opened office
      → IsServedOver g is_sound are image count opened office
  served_over image count opened office opens served = record {
    served = served;
    answered = λ sound list content es given holds these. stand_steps content es opened served.steps office served.led sound (stands_first sound list content es given holds these);
    leaves = λ sound list content es given holds these db left.
        let it = opens.beside (sound_first opened served.steps office served.led sound) list content es given holds in
        let at = it.opens in
        left_more (closed_content opened.0.closed) content (events_after es served.steps) db (PendsAfter (λ _. ⊥) served.steps) (MayBeThere served.steps) (none_pends served.steps)
        (left_steps (closed_content opened.0.closed) content es opened served.steps office served.led sound refl (stands_first sound list content es given holds these) (λ _. ⊥)
        (λ found leaves. record { opening = at.opening; says = at.opening_says; holds = (list, opened.1, these, inl (it.leaves found leaves)) }) db left);
    alone = λ alone. served_alone image count opened.0 office.0 alone.events (record { steps = served.steps; few = served.few; led = steps_alone opened served.steps office served.led alone.none });
  }
    where
      stands_first : IsSound g office.0 → (list : List Archive) (content : SetupContent) (es : List Event) → IsGiven content → HoldsBeside image list (closed_content opened.0.closed) content es → are list opened.1
          → Stands content es opened
      stands_first sound list content es given holds these =
          let at = (opens.beside (sound_first opened served.steps office served.led sound) list content es given holds).opens in
          record { opening = at.opening; says = at.opening_says; holds = record { list = list; these = these; stands = at.stands } }

-- ---- what stands around an office

module _ {W D : Type 0} (inner : W → D) (leads : D → List ℕ → Response → D → Type 0) (enrols : D → List ℕ → List ℕ → AccountAnswer → D → Type 0)
    (looks : D → Look → Result (Option (List ℕ)) NotNow → D → Type 0) where
  abbrev outer_leads : W → List ℕ → Response → W → Type 0
  outer_leads o text given n = leads (inner o) text given (inner n)

  abbrev outer_enrols : W → List ℕ → List ℕ → AccountAnswer → W → Type 0
  outer_enrols o code kind given n = enrols (inner o) code kind given (inner n)

  abbrev outer_looks : W → Look → Result (Option (List ℕ)) NotNow → W → Type 0
  outer_looks o at found n = looks (inner o) at found (inner n)

  inner_steps : (old : W) (steps : List Step) (new : W) → StepsLead (LeadsNamed outer_leads) (EnrolsNamed outer_enrols) outer_looks old steps new → StepsLead (LeadsNamed leads) (EnrolsNamed enrols) looks (inner old) steps (inner new)
  inner_steps old [] new same = ap inner same
  inner_steps old (delivery text given ∷ steps) new (next, led, rest) =
      (inner next, elim led [ inl call ↦ inl call | inr off ↦ inr (off.0, ap inner off.1) ], inner_steps next steps new rest)
  inner_steps old (account code kind given ∷ steps) new (next, led, rest) =
      (inner next, elim led [ inl call ↦ inl call | inr off ↦ inr (off.0, ap inner off.1) ], inner_steps next steps new rest)
  inner_steps old (look at found ∷ steps) new (next, led, rest) = (inner next, led, inner_steps next steps new rest)

  -- what was served of what stands around an office was served of the office
  pub served_inner : (count : ℕ) (old new : W) → AreServedBy outer_leads outer_enrols outer_looks count old new → AreServedBy leads enrols looks count (inner old) (inner new)
  served_inner count old new served = record { steps = served.steps; few = served.few; led = inner_steps old served.steps new served.led }
