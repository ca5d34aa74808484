-- The rules by place: what holds of the rules of each version holds of them, and where they stay as they are.
use Rattle.std.{specs.{Prelude.{nat_le, ◌==◌, ◌&&◌, is_some}, Option.unwrap_or}, proofs.lemmas.List.append-nil}
use Rattle.std.proofs.Common.{◌≡◌, ℕ, List, [], ◌∷◌, ◌++◌, Bool, true, false, cond, Option, None, Some, Err, refl, sym, ap, subst, ◌∙◌}
use Rattle.edi_syntax.specs.Interchange.{interchange_of}
use Rattle.partner_core.specs.{ByPlace.{taken_by_place, AreNumbered}, Deliveries.{Delivery, delivery, run, first_text}, Machine.Taking}
use Rattle.partner_core.{specs.Order.{order, text_under, state_after, reply_among, state, reply_of}, proofs.{ByPlace.goes_on_by_new, Keepings.keeps_run}}
use Rattle.partner_core.proofs.Orders.{AllUsed, AllUsed-order}
use Rattle.terminal_core.specs.{Versions.newest, declared.change.Version.Version}
use Rattle.office_admission.specs.{Admission.{admission, number_said}, Deliveries.with_delivery, Setups.{SetupContent, parties_in}}
use Rattle.office_admission.specs.{TakingLaws.{ChangesTerminalAlone, KeepsSound}, Taking.{MachineState, interchange_taken, interchange_taken_by}}
use Rattle.office_admission.proofs.{Adding.{deliveries_on, first_admitted, number_told}, Forming.{by_place_alone, by_place_sound, keeps_sound, terminal_alone}}
use Rattle.office_replies.specs.{Events.{Event, delivered, migrated, added}, declared.deliver.Fault.Fault}
use Rattle.office_rows.specs.Rows.{Rows}
use Rattle.office_history.specs.After.{with_earlier_event, migration_in, taking_by, taking_in, content_after, deliveries_of, opening_of, AreRowsOf}
use Rattle.office_history.{specs.Laws.IsFor, proofs.Afters.GoesOn}

-- ---- what holds of the rules of each version

-- the step by place is one by the old rules or one by the new
pub placed : (P : MachineState × List ℕ → Type 0) (before : List Delivery) (old new : Taking MachineState) (machine : MachineState) (p : ℕ) (text : List ℕ) → P (old machine p text) → P (new machine p text)
    → P (taken_by_place number_said before old new machine p text)
placed P before old new machine p text by_old by_new = by (nat_le (number_said text) (run before p))
  where
    by : (is_old : Bool) → P (cond is_old (old machine p text) (new machine p text))
    by true = by_old
    by false = by_new

module _ (P : Taking MachineState → Type 0) (each : (version : Version) → P (interchange_taken_by version))
    (either : (before : List Delivery) (old new : Taking MachineState) → P old → P new → P (taken_by_place number_said before old new)) where
  by_rules : (version : Version) (content : SetupContent) (migration : Option (Version × List Event)) → P (taking_by version content migration)
  by_rules version content None = each version
  by_rules version content (Some migration) =
      either (deliveries_of content migration.1) (interchange_taken_by migration.0) (interchange_taken_by version) (each migration.0) (each version)

  pub in_force : (version : Version) (content : SetupContent) (es : List Event) → P (taking_in version content es)
  unfolding taking_in
  in_force version content es = by_rules version content (migration_in es)

pub sound_in : (version : Version) (content : SetupContent) (es : List Event) → KeepsSound (taking_in version content es)
sound_in version content es = in_force KeepsSound keeps_sound (λ before old new one two. by_place_sound number_said before old new one two) version content es

pub alone_in : (version : Version) (content : SetupContent) (es : List Event) → ChangesTerminalAlone (taking_in version content es)
alone_in version content es = in_force ChangesTerminalAlone terminal_alone (λ before old new one two. by_place_alone number_said before old new one two) version content es

-- ---- where they stay

delivered_stays : (es : List Event) (sent : List ℕ) → migration_in (es ++ delivered sent ∷ []) ≡ migration_in es
delivered_stays [] sent = refl
delivered_stays (delivered text ∷ es) sent = ap (with_earlier_event (delivered text)) (delivered_stays es sent)
delivered_stays (migrated version ∷ es) sent = refl
delivered_stays (added code kind ∷ es) sent = ap (with_earlier_event (added code kind)) (delivered_stays es sent)

added_stays : (es : List Event) (its own : List ℕ) → migration_in (es ++ added its own ∷ []) ≡ migration_in es
added_stays [] its own = refl
added_stays (delivered text ∷ es) its own = ap (with_earlier_event (delivered text)) (added_stays es its own)
added_stays (migrated version ∷ es) its own = refl
added_stays (added code kind ∷ es) its own = ap (with_earlier_event (added code kind)) (added_stays es its own)

pub taking_delivered : (version : Version) (content : SetupContent) (es : List Event) (sent : List ℕ) → taking_in version content (es ++ delivered sent ∷ []) ≡ taking_in version content es
unfolding taking_in
taking_delivered version content es sent = ap (taking_by version content) (delivered_stays es sent)

pub taking_added : (version : Version) (content : SetupContent) (es : List Event) (code kind : List ℕ) → taking_in version content (es ++ added code kind ∷ []) ≡ taking_in version content es
unfolding taking_in
taking_added version content es code kind = ap (taking_by version content) (added_stays es code kind)

-- ---- a migration

pub none_behind : (event : Event) (o : Option (Version × List Event)) → with_earlier_event event o ≡ None → o ≡ None
none_behind event None e = refl
none_behind event (Some migration) e = cc

first_migration : (es : List Event) (version : Version) → migration_in es ≡ None → migration_in (es ++ migrated version ∷ []) ≡ Some (version, es)
first_migration [] version none = refl
first_migration (delivered text ∷ es) version none = ap (with_earlier_event (delivered text)) (first_migration es version (none_behind (delivered text) (migration_in es) none))
first_migration (migrated other ∷ es) version none = cc
first_migration (added code kind ∷ es) version none = ap (with_earlier_event (added code kind)) (first_migration es version (none_behind (added code kind) (migration_in es) none))

pub taking_unmigrated : (version : Version) (content : SetupContent) (es : List Event) → migration_in es ≡ None → taking_in version content es ≡ interchange_taken_by version
unfolding taking_in
taking_unmigrated version content es none = ap (taking_by version content) none

pub taking_migrated : (version old : Version) (content : SetupContent) (es : List Event) → migration_in es ≡ None
    → taking_in version content (es ++ migrated old ∷ []) ≡ taken_by_place number_said (deliveries_of content es) (interchange_taken_by old) (interchange_taken_by version)
unfolding taking_in
taking_migrated version old content es none = ap (taking_by version content) (first_migration es old none)

-- ---- what was delivered is numbered, and goes on by the rules in force

pub numbered : (content : SetupContent) (es : List Event) → AreNumbered number_said (deliveries_of content es)
numbered content es p k text first = number_told (parties_in (content_after content es)) text (p, k) (first_admitted es content p k text first)

pub admitted_more : (content : SetupContent) (es : List Event) (sent : List ℕ) (p k : ℕ) → IsFor content es sent p k
    → deliveries_of content (es ++ delivered sent ∷ []) ≡ deliveries_of content es ++ delivery p k (interchange_of sent) ∷ []
admitted_more content es sent p k is = deliveries_on es (delivered sent ∷ []) content ∙ ap (λ place. deliveries_of content es ++ with_delivery (interchange_of sent) place []) is

pub refused_more : (content : SetupContent) (es : List Event) (sent : List ℕ) (fault : Fault) → admission (parties_in (content_after content es)) (interchange_of sent) ≡ Err fault
    → deliveries_of content (es ++ delivered sent ∷ []) ≡ deliveries_of content es
refused_more content es sent fault is =
    deliveries_on es (delivered sent ∷ []) content ∙ ap (λ place. deliveries_of content es ++ with_delivery (interchange_of sent) place []) is ∙ append-nil (deliveries_of content es)

pub numbered_more : (content : SetupContent) (es : List Event) (sent : List ℕ) (p k : ℕ) → IsFor content es sent p k → AreNumbered number_said (deliveries_of content es ++ delivery p k (interchange_of sent) ∷ [])
numbered_more content es sent p k is = subst (AreNumbered number_said) (admitted_more content es sent p k is) (numbered content (es ++ delivered sent ∷ []))

-- the events before the migration are the first ones
record IsSplit (es before : List Event) : Type 0 where
  later : List Event
  is : es ≡ before ++ later

split_behind : (event : Event) (es : List Event) (o : Option (Version × List Event)) (migration : Version × List Event) → ((m : Version × List Event) → o ≡ Some m → IsSplit es m.1) → with_earlier_event event o ≡ Some migration → IsSplit (event ∷ es) migration.1
split_behind event es None migration rest e = cc
split_behind event es (Some m) migration rest e =
    let own : (m.0, event ∷ m.1) ≡ migration = cc in
    let its : event ∷ m.1 ≡ migration.1 = ap (λ (q : Version × List Event). q.1) own in
    let split = rest m refl in
    record { later = split.later; is = ap (λ l. event ∷ l) split.is ∙ ap (λ l. l ++ split.later) its }

split_of : (es : List Event) (migration : Version × List Event) → migration_in es ≡ Some migration → IsSplit es migration.1
split_of [] migration e = cc
split_of (delivered text ∷ es) migration e = split_behind (delivered text) es (migration_in es) migration (split_of es) e
split_of (migrated version ∷ es) migration e =
    let own : (version, []) ≡ migration = cc in
    let none : [] ≡ migration.1 = ap (λ (q : Version × List Event). q.1) own in
    record { later = migrated version ∷ es; is = ap (λ l. l ++ migrated version ∷ es) none }
split_of (added code kind ∷ es) migration e = split_behind (added code kind) es (migration_in es) migration (split_of es) e

goes_on_by : (content now : SetupContent) (es : List Event) (D : List Delivery) (d : Delivery) (migration : Option (Version × List Event)) → migration_in es ≡ migration → deliveries_of content es ≡ D
    → AreNumbered number_said (D ++ d ∷ []) → GoesOn (taking_by newest content migration) now D d
goes_on_by content now es D d None is own numbered = λ here there keeps takes. keeps_run interchange_taken (opening_of now) D d here there keeps takes
goes_on_by content now es D d (Some migration) is own numbered =
    let split = split_of es migration is in
    let before = deliveries_of content migration.1 in
    let later = deliveries_of (content_after content migration.1) split.later in
    let same : before ++ later ≡ D = sym (deliveries_on migration.1 split.later content) ∙ ap (deliveries_of content) (sym split.is) ∙ own in
    subst (λ E. AreNumbered number_said (E ++ d ∷ []) → GoesOn (taking_by newest content (Some migration)) now E d) same
    (λ numbers here there keeps takes. goes_on_by_new number_said (interchange_taken_by migration.0) interchange_taken (opening_of now) before later d here there numbers keeps takes) numbered

pub goes_on : (content now : SetupContent) (es : List Event) (d : Delivery) → AreNumbered number_said (deliveries_of content es ++ d ∷ []) → GoesOn (taking_in newest content es) now (deliveries_of content es) d
unfolding taking_in
goes_on content now es d numbered = goes_on_by content now es (deliveries_of content es) d (migration_in es) refl refl numbered

-- ---- the same rows, said otherwise

pub moved : (version : Version) (taking taking' : Taking MachineState) (now now' : SetupContent) (D D' : List Delivery) (rows : Rows) → taking' ≡ taking → now' ≡ now → D' ≡ D
    → AreRowsOf version taking now D rows → AreRowsOf version taking' now' D' rows
moved version taking taking' now now' D D' rows one two three are =
    subst (λ t. AreRowsOf version t now' D' rows) (sym one) (subst (λ n. AreRowsOf version taking n D' rows) (sym two) (subst (λ E. AreRowsOf version taking now E rows) (sym three) are))

-- ==== Likeness: Machines that take what was delivered alike come to states alike, with the same replies.

module _ {S : Type 0} (taken : Taking S) (Like : S → S → Type 0) (ds : List Delivery) where
  -- each text that was delivered is taken alike by states that are alike
  abbrev pub TakesAlike : Type 0
  TakesAlike = (one other : S) (p k : ℕ) (text : List ℕ) → Like one other → first_text ds p k ≡ Some text →
      Like (taken one p text).0 (taken other p text).0 × ((taken one p text).1 ≡ (taken other p text).1)

  module _ (alike : TakesAlike) where
    one_alike : (found : Option (List ℕ)) (one other : S) (p k : ℕ) → first_text ds p k ≡ found → is_some found ≡ true → Like one other →
        Like (taken one p (unwrap_or found [])).0 (taken other p (unwrap_or found [])).0 × ((taken one p (unwrap_or found [])).1 ≡ (taken other p (unwrap_or found [])).1)
    one_alike None one other p k e used like = cc
    one_alike (Some text) one other p k e used like = alike one other p k text like e

    after_alike : (numbers : List (ℕ × ℕ)) (one other : S) → AllUsed ds numbers → Like one other → Like (state_after taken (text_under ds) numbers one) (state_after taken (text_under ds) numbers other)
    after_alike [] one other used like = like
    after_alike (e ∷ numbers) one other used like =
        let step = one_alike (first_text ds e.0 e.1) one other e.0 e.1 refl used.0 like in
        after_alike numbers (taken one e.0 (text_under ds e.0 e.1)).0 (taken other e.0 (text_under ds e.0 e.1)).0 used.1 step.0

    replies_alike : (numbers : List (ℕ × ℕ)) (one other : S) (p k : ℕ) → AllUsed ds numbers → Like one other → reply_among taken (text_under ds) numbers one p k ≡ reply_among taken (text_under ds) numbers other p k
    replies_alike [] one other p k used like = refl
    replies_alike (e ∷ numbers) one other p k used like =
        let step = one_alike (first_text ds e.0 e.1) one other e.0 e.1 refl used.0 like in
        ap (λ r. cond ((e.0 == p) && (e.1 == k)) (Some r) (reply_among taken (text_under ds) numbers (taken one e.0 (text_under ds e.0 e.1)).0 p k)) step.1
        ∙ ap (cond ((e.0 == p) && (e.1 == k)) (Some (taken other e.0 (text_under ds e.0 e.1)).1))
        (replies_alike numbers (taken one e.0 (text_under ds e.0 e.1)).0 (taken other e.0 (text_under ds e.0 e.1)).0 p k used.1 step.0)

    pub state_alike : (one other : S) → Like one other → Like (state taken one ds) (state taken other ds)
    unfolding state
    state_alike one other like = after_alike (order ds) one other (AllUsed-order ds) like

    pub reply_alike : (one other : S) (p k : ℕ) → Like one other → reply_of taken one ds p k ≡ reply_of taken other ds p k
    unfolding reply_of
    reply_alike one other p k like = replies_alike (order ds) one other p k (AllUsed-order ds) like

-- what each step keeps holds in the end
pub kept_over : {S : Type 0} (taken : Taking S) (P : S → Type 0) → ((s : S) (p : ℕ) (text : List ℕ) → P s → P (taken s p text).0) → (opening : S) (ds : List Delivery) → P opening → P (state taken opening ds)
kept_over taken P each opening ds is =
    (state_alike taken (λ one other. P one × (one ≡ other)) ds
    (λ one other p k text like first. ((each one p text like.0, ap (λ s. (taken s p text).0) like.1), ap (λ s. (taken s p text).1) like.1)) opening opening (is, refl)).0
