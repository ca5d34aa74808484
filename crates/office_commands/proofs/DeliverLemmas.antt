-- Deliveries to a desk and its archives, one after the other.
use Rattle.std.proofs.Common.{◌≡◌, ℕ, List, [], ◌∷◌, refl, sym, ap, subst, ◌∙◌}
use Rattle.sqlite.specs.{Held.state, Recovery.Image}
use Rattle.sqlite_trees.specs.declared.store.Store.{Ghosts}
use Rattle.office_replies.specs.{Delivering.{LeadsOn, events_behind, with_answered}, Events.Event, declared.deliver.Response.Response}
use Rattle.office_loading.specs.Closed.{ClosedContent, closed_content}
use Rattle.office_admission.specs.Setups.{SetupContent}
use Rattle.office_desk.specs.{Desks.IsSound, declared.desk.Desk.Desk}
use Rattle.office_commands.{specs.{Beside.OpensOn, Delivering.{AreAnsweredIfSound, AreDeliveredOver, Leads, LeavesAll, StandAlike}}, proofs.Alike.answer_alike}
use Rattle.office_commands.proofs.StreamLemmas.{delivered_alone}
use Rattle.office_parts.specs.Archives.{Archive}
use Rattle.office_archives.specs.Together.{LeavesBeside, LeavesDelivered, StandTogether}
use Rattle.office_desk.specs.Calls as calls

module _ {S A : Type 0} (g : Ghosts S) (is_sound : A → Type 0) (are : List Archive → A → Type 0) where
  -- a desk and its archives
  abbrev Office : Type 0
  Office = Desk S g × A

  abbrev AllLed : Office → List (List ℕ) → List Response → Office → Type 0
  AllLed = LeadsOn (Leads g is_sound are)

  abbrev Stands : SetupContent → List Event → Office → Type 0
  Stands content es office = StandTogether g are content es office.0 office.1

  pub sound_before : (old new : Office) (texts : List (List ℕ)) (responses : List Response) → AllLed old texts responses new → IsSound g new.0 → IsSound g old.0
  sound_before old new [] [] same sound = subst (λ (office : Office). IsSound g office.0) same sound
  sound_before old new [] (response ∷ responses) none sound = absurd none
  sound_before old new (text ∷ texts) [] none sound = absurd none
  sound_before old new (text ∷ texts) (response ∷ responses) (next, call, rest) sound = call.stays (sound_before next new texts responses rest sound)

  -- without archives each is a delivery to the desk
  led_alone : (old new : Office) (texts : List (List ℕ)) (responses : List Response) → AllLed old texts responses new → are [] old.1 → LeadsOn (calls.Leads g) old.0 texts responses new.0
  led_alone old new [] [] same none = ap (λ (office : Office). office.0) same
  led_alone old new [] (response ∷ responses) never none = absurd never
  led_alone old new (text ∷ texts) [] never none = absurd never
  led_alone old new (text ∷ texts) (response ∷ responses) (next, call, rest) none = (next.0, call.alone none, led_alone next new texts responses rest (call.these [] none))

  pub answered_all : (content : SetupContent) (es : List Event) (old new : Office) (texts : List (List ℕ)) (responses : List Response) (led : AllLed old texts responses new) → IsSound g new.0 → StandAlike g is_sound are content es old
      → AreAnsweredIfSound g is_sound are content es old texts responses new led × StandAlike g is_sound are content (events_behind es texts responses) new
  answered_all content es old new [] [] same sound at = (tt, subst (StandAlike g is_sound are content es) (sym same) at)
  answered_all content es old new [] (response ∷ responses) none sound at = absurd none
  answered_all content es old new (text ∷ texts) [] none sound at = absurd none
  answered_all content es old new (text ∷ texts) (response ∷ responses) (next, call, rest) sound at =
      let there = sound_before next new texts responses rest sound in
      let others = answered_all content (with_answered es text response) next new texts responses rest sound (record { opening = at.opening; says = at.says; holds = call.stand there at.opening es at.holds }) in
      ((λ whole. answer_alike at.opening content at.says es text response (call.answers there whole at.opening es at.holds), others.0), others.1)

  leaves_some : (closed : ClosedContent) (content : SetupContent) (es : List Event) (old new : Office) (text : List ℕ) (texts : List (List ℕ)) (response : Response) (responses : List Response)
      (led : AllLed old (text ∷ texts) (response ∷ responses) new) → IsSound g new.0 → closed ≡ closed_content old.0.closed → Stands content es old →
      LeavesAll g is_sound are closed content es old (text ∷ texts) (response ∷ responses) new led (state g new.0.conn)
  leaves_some closed content es old new text [] response [] (next, call, same) sound is stands =
      let there : IsSound g next.0 = subst (λ (office : Office). IsSound g office.0) same sound in
      let left = call.crash (call.stays there) there.0 content es stands in (
        stands.list,
        stands.these,
        subst (λ (office : Office). LeavesDelivered stands.list closed content es text response (state g office.0.conn)) (sym same)
            (subst (λ (k : ClosedContent). LeavesDelivered stands.list k content es text response (state g next.0.conn)) (sym is) left),
      )
  leaves_some closed content es old new text [] response (other ∷ responses) (next, call, none) sound is stands = absurd none
  leaves_some closed content es old new text (more ∷ texts) response [] (next, call, none) sound is stands = absurd none
  leaves_some closed content es old new text (more ∷ texts) response (other ∷ responses) (next, call, rest) sound is stands =
      let there = sound_before next new (more ∷ texts) (other ∷ responses) rest sound in
      leaves_some closed content (with_answered es text response) next new more texts other responses rest sound (is ∙ ap closed_content (sym call.closed))
      (call.stand there content es stands)

  pub leaves_all : (closed : ClosedContent) (content : SetupContent) (es : List Event) (old new : Office) (texts : List (List ℕ)) (responses : List Response)
      (led : AllLed old texts responses new) → IsSound g new.0 → closed ≡ closed_content old.0.closed → (stands : Stands content es old) →
      LeavesBeside stands.list closed content es (state g old.0.conn) → LeavesAll g is_sound are closed content es old texts responses new led (state g new.0.conn)
  leaves_all closed content es old new [] [] same sound is stands left =
      (stands.list, stands.these, subst (λ (office : Office). LeavesBeside stands.list closed content es (state g office.0.conn)) (sym same) left)
  leaves_all closed content es old new [] (response ∷ responses) none sound is stands left = absurd none
  leaves_all closed content es old new (text ∷ texts) [] none sound is stands left = absurd none
  leaves_all closed content es old new (text ∷ texts) (response ∷ responses) led sound is stands left =
      leaves_some closed content es old new text texts response responses led sound is stands

  -- deliveries to a store that was opened on files, and to its archives
  pub delivered_over : (image : Image) (opened office : Office) → OpensOn g image opened.0 → (texts : List (List ℕ)) (responses : List Response) → AllLed opened texts responses office
      → AreDeliveredOver g is_sound are image opened office texts responses
  delivered_over image opened office opens texts responses led = record {
    led = led;
    answered = λ sound list content es given holds these.
        let at = (opens.beside (sound_before opened office texts responses led sound) list content es given holds).opens in
        answered_all content es opened office texts responses led sound (record { opening = at.opening; says = at.opening_says; holds = record { list = list; these = these; stands = at.stands } });
    leaves = λ sound list content es given holds these.
        let it = opens.beside (sound_before opened office texts responses led sound) list content es given holds in
        let at = it.opens in
        record {
          opening = at.opening;
          says = at.opening_says;
          holds = leaves_all (closed_content opened.0.closed) at.opening es opened office texts responses led sound refl
              (record { list = list; these = these; stands = at.stands }) it.leaves;
        };
    alone = λ alone. delivered_alone g image opened.0 office.0 alone.events texts responses (led_alone opened office texts responses led alone.none);
  }
