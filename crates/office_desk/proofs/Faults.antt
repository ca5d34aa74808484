-- Why a call fails over the rows of an office.
use Rattle.std.{specs.{Prelude.{◌==◌, Contains, IsUtf8, codes, map}, Result.IsErrAnd, Option.option_and_then}, proofs.lemmas.Bool.{and_parts, eq-eqb, eqb-true}}
use Rattle.std.proofs.Common.{◌≡◌, ℕ, ◌+◌, ◌-◌, ◌<◌, ◌≤◌, ◌&&◌, List, [], ◌∷◌, length, inl, inr, Option, None, Some, option_map, get_or, string_bytes, refl, sym, ap, ap₂, subst, ◌∙◌, arith, ◌⊎◌, ◌++◌, Result, Ok, Err, OnOk, OnErr, true, false, is_some}
use Rattle.std.proofs.{lemmas.List.Sorted.{Contains-permutation, IsPermutation-sym}, lemmas.List.length-map, lemmas.List.FromFn.length-map-range_with_len}
use Rattle.std.proofs.lemmas.Option.{slice_get-get_or}
use Rattle.partner_core.{specs.{Numbered.with_number, Deliveries.{Delivery, delivery, run}}, proofs.{Keepings.with_number-below, Orders.{none_of, some_of}}}
use Rattle.sqlite.specs.{Effect.Database, State.State, Tree.Trees}
use Rattle.sqlite_rules.{specs.Lists.Has, proofs.ListLemmas.{contains_had, has_contained, has_filtered, has_kept}}
use Rattle.edi_messages.specs.declared.codes.PartnerKind.{PartnerKind}
use Rattle.terminal_core.specs.{State.TerminalState, Rows.VisitContent}
use Rattle.office_rows.specs.{Rows.{Partner, Interchange, Rows}, Effects.{is_pair, with_waiting, with_partner}, Office.AreAccounts, Stored.columns_of}
use Rattle.office_rows.specs.{Opening.{setting_row, tables_version}, Shown.{AreNexts, columns_at}, Values.setting_values}
use Rattle.office_rows.proofs.Creating.{has_mapped, stores}
use Rattle.office_admission.specs.{Setups.{SetupContent, parties_in, setup_content}, Given.IsGiven, Kinds.kind_named, Admission.admission}
use Rattle.office_admission.specs.{Accounts.{account_answer, added_as, content_after}, Deliveries.deliveries_of, Parties.{Parties, partner_codes, partner_from}}
use Rattle.office_admission.{specs.declared.setup.Setup.Setup, proofs.Adding.found_low}
use Rattle.office_loading.{specs.{Closed.ClosedContent, Waiting.{HasHighWaiting, is_waiting, waiting_in}}, proofs.VersionLemmas.full}
use Rattle.office_loading.specs.Tables.{FailsToLoadOwn, HasHighNext, HasVersion, LoadsOwn}
use Rattle.office_history.specs.{After.{reply_if_any, AreAfter, machine_after, machine_with, AreKeptOnce, reply_in}, Laws.IsFor}
use Rattle.office_history.specs.Cascade.{text_in, AreTakenFrom, texts_with, with_run}
use Rattle.office_tables.specs.{Answers.{LacksNext, IsKept, IsNextOf}, Faults.IsOfStore, declared.table_fault.TableFault.TableFault, Order.HasRowsInOrder}
use Rattle.office_tables.specs.{declared.table_fault.TableFault.TheVariants.{Store, Damaged, Version, Memory}, DeliveryReading.HasUnfitBehind}
use Rattle.office_tables.specs.{Writing.{Commits, IsWholeInOrder}, declared.interchanges.Kept.Kept}
use Rattle.office_tables.proofs.WriteLemmas.{one_kept, none_kept, no_text, text_kept}
use Rattle.office_reports.specs.declared.query.About.{About}
use Rattle.office_reports.specs.Tickets.{ticket_of as told_ticket}
use Rattle.office_reports.specs.declared.query.View.{View}
use Rattle.office_desk.specs.{Causes.{AsksUnfitReply, AsksUnreadable, HasUnfitReplyOf, LacksReply, LacksSome}, Offices.FailsToOpen, Beside.IsAt, Noting.IsNow}
use Rattle.office_desk.specs.{Reports.{answered, partner_called, TellsReply, contrl_told, ticket_if_taken}, Telling.{Comes, Holds}}
use Rattle.office_desk.specs.Order.{IsInOrder, IsRunInOrder, IsStoredInOrder, LeavesBehindInOrder, LeavesEitherInOrder, LeavesInOrder, LeavesTakenInOrder, stored, with_taken}
use Rattle.office_desk.{specs.declared.beside.Beside.Beside, proofs.{HoldLemmas.{nexts_are, either_of, reply_kept}, OwnNumbers.own_reply}}
use Rattle.office_desk.proofs.DeliverLemmas.{KeepsAccounts, next_follows, next_there, parties_same}
use Rattle.edi_syntax.specs.Interchange.{interchange_of}
use Rattle.office_replies.specs.{Delivering.with_answered, Events.{Event, delivered, added}, declared.deliver.Fault.Fault, declared.deliver.Response.Response}
use Rattle.office_parts.specs.InOrder.{AreAfterInOrder}
use Rattle.office_parts.proofs.JournalOrders.{refused_stays_in_order, used_stays_in_order, early_adds_in_order, next_adds_in_order, account_stays_in_order}
use Rattle.office_report_data.specs.Told.{shown}
use Rattle.office_report_data.specs.Told as value
use Rattle.office_rows.specs.Tables as table
use Rattle.office_reports.specs.declared.query.About.TheVariants as about
use Rattle.office_replies.specs.declared.deliver.Response.TheVariants as response

-- ---- the next numbers

none_high : (id : ℕ) (partners : List Partner) (accounts : List (List ℕ × PartnerKind)) → AreAccounts id partners accounts → (p : Partner) → Has partners p → p.next ≤ 1000000000
none_high id [] accounts are p inside = absurd inside
none_high id (q ∷ qs) [] are p inside = absurd are
none_high id (q ∷ qs) (account ∷ accounts) are p (inl same) = subst (λ (r : Partner). r.next ≤ 1000000000) (sym same) are.4
none_high id (q ∷ qs) (account ∷ accounts) are p (inr later) = none_high (id + 1) qs accounts are.5 p later

-- an office's next numbers are read
pub nexts_fit : (closed : ClosedContent) (db : Database) (content : SetupContent) (terminal : TerminalState) → (loads : LoadsOwn closed db content terminal) → ¬ (HasHighNext loads.0.partners)
nexts_fit closed db content terminal loads high =
    let low = none_high 1 loads.0.partners content.partners loads.2.accounts high.0 (has_contained loads.0.partners high.0 high.1) in
    high.2 (omega (arith, low))

-- the settings of an office name this version
version_shown : (closed : ClosedContent) (db : Database) (content : SetupContent) (terminal : TerminalState) → LoadsOwn closed db content terminal → HasVersion db
version_shown closed db content terminal loads =
    let it = loads.1.settings in
    let version = setting_values (setting_row (codes "version") tables_version) in
    let inside : Contains (map setting_values loads.0.settings) version = subst (λ l. Contains (map setting_values l) version) (sym loads.2.settings) (7, omega arith, refl) in
    let r = has_mapped (columns_at (0 ∷ 1 ∷ [])) it.by_key version (subst (λ l. Has l version) it.is (has_contained _ version inside)) in
    let whole : version ≡ r.0 = r.2 ∙ full db _ it r.0 r.1 in
    subst (Contains (map (columns_of table.setting_table) (db.trees table.setting_table.tree))) (sym whole)
    (Contains-permutation _ _ r.0 (IsPermutation-sym _ _ it.same) (contains_had it.by_key r.0 r.1))

-- what shows an office is opened, but for lack of store or memory
pub opens_alone : (closed : ClosedContent) (db : Database) (content : SetupContent) (terminal : TerminalState) (fault : TableFault) → LoadsOwn closed db content terminal → FailsToOpen closed db fault → IsOfStore fault
opens_alone closed db content terminal fault loads (inl fails) = shows_one fault fails
  where
    shows_one : (fault : TableFault) → FailsToLoadOwn closed db fault → IsOfStore fault
    shows_one (Store error) fails = tt
    shows_one Memory fails = tt
    shows_one Damaged fails = fails.1 loads.0 content terminal loads.1 loads.2
    shows_one Version fails = absurd (fails (version_shown closed db content terminal loads))
opens_alone closed db content terminal fault loads (inr shows) = shows.3

-- each account of an office has a next number beside the rows
pub next_known : (closed : ClosedContent) (content : SetupContent) (rows : Rows) → (its : KeepsAccounts closed content rows) → (nexts : List ℕ) → AreNexts rows nexts → (p : ℕ) → 1 ≤ p → p ≤ length content.partners → ¬ (with_number nexts p ≡ None)
next_known closed content rows its nexts are p one most none =
    let f : ℕ → ℕ = λ q. its.runs q + 1 in
    let many : length nexts ≡ length content.partners = ap length (nexts_are f content.partners rows its.by_id nexts are) ∙ length-map-range_with_len f 1 (length content.partners) in
    let there = slice_get-get_or nexts (p - 1) 0 (omega (arith, many, most, one)) in
    let never : Some (get_or nexts (p - 1) 0) ≡ None = sym there ∙ sym (with_number-below nexts p one) ∙ none in
    cc

-- ---- what is kept under a number

-- a number below a partner's next is kept, if it is not closed
pub low_is_kept : (closed : ClosedContent) (content : SetupContent) (rows : Rows) → (its : KeepsAccounts closed content rows) → (p k : ℕ) → closed.last_closed p < k → k < its.runs p + 1 → ¬ (text_in rows p k ≡ None)
low_is_kept closed content rows its p k far low free = let there = its.keeps.there p k far (omega (arith, low)) in cc

-- what waits has no reply, which is a text
waits_as_text : (reply : List ℕ) → reply_if_any reply ≡ None → IsUtf8 reply
waits_as_text [] e = ([], (refl, refl))
waits_as_text (byte ∷ bytes) e = absurd cc

-- after a partner's next number no reply is kept
pub behind_fits : (closed : ClosedContent) (content : SetupContent) (rows : Rows) → (its : KeepsAccounts closed content rows) → (p k : ℕ) → its.runs p < k → ¬ (HasUnfitBehind p k rows)
behind_fits closed content rows its p k high unfit =
    let i : Interchange = unfit.2.0 in
    let own = has_filtered (is_pair p unfit.0) rows.interchanges i (has_contained _ i unfit.2.1) in
    let parts = and_parts (i.partner == p) (i.number == unfit.0) own.1 in
    let its_own : i.partner ≡ p = eqb-true i.partner p parts.0 in
    let number : i.number ≡ unfit.0 = eqb-true i.number unfit.0 parts.1 in
    let beyond : its.runs i.partner < i.number = subst (λ q. its.runs q < i.number) (sym its_own) (omega (arith, number, high, unfit.1)) in
    unfit.2.2 (waits_as_text i.reply
    (sym (own_reply closed.last_closed (length content.partners) its.runs rows its.keeps i (contains_had rows.interchanges i own.0)) ∙ its.keeps.waits i.partner i.number beyond))

-- ---- what a report reads

-- each account of an office has a next number of 32 bits
next_fits : (closed : ClosedContent) (content : SetupContent) (rows : Rows) → (its : KeepsAccounts closed content rows) → (p : ℕ) → 1 ≤ p → p ≤ length content.partners → ¬ (LacksNext p rows)
next_fits closed content rows its p one most (inl none) =
    let there = next_there closed content rows its p one most in
    absurd (subst (λ l. Has l there.0) none (has_contained _ there.0 there.1))
next_fits closed content rows its p one most (inr lacks) =
    let follows = next_follows closed content rows its p lacks.0.next (lacks.0, lacks.1, refl) in
    lacks.2 (omega (arith, follows, its.high p))

-- what waits for a number has one of 32 bits
waiting_fits : (closed : ClosedContent) (content : SetupContent) (rows : Rows) → (its : KeepsAccounts closed content rows) → (p next : ℕ) → ¬ (HasHighWaiting p next rows)
waiting_fits closed content rows its p next high =
    let r = has_mapped (λ (i : Interchange). i.number) (waiting_in p next rows) high.0 (has_contained _ high.0 high.1) in
    let i : Interchange = r.0 in
    let own = has_filtered (is_waiting p next) rows.interchanges i r.1 in
    let there = has_kept (is_pair i.partner i.number) rows.interchanges i own.0 (ap₂ (λ a b. a && b) (eq-eqb i.partner i.partner refl) (eq-eqb i.number i.number refl)) in
    let kept : text_in rows i.partner i.number ≡ Some i.body = ap (option_map (λ (j : Interchange). j.body)) (one_kept i.partner i.number rows i its.keeps.once (contains_had _ i there)) in
    let within = its.keeps.within i.partner i.number i.body kept in
    high.2 (omega (arith, r.2, within.3))

numbers_fit : (closed : ClosedContent) (content : SetupContent) (rows : Rows) → (its : KeepsAccounts closed content rows) → ¬ (LacksSome rows (length content.partners))
numbers_fit closed content rows its (id, one, most, inl lacks) = next_fits closed content rows its id one most lacks
numbers_fit closed content rows its (id, one, most, inr high) = waiting_fits closed content rows its id high.0 high.1

reply_unfit : (closed : ClosedContent) (content : SetupContent) (rows : Rows) → (its : KeepsAccounts closed content rows) → (number : ℕ) (found : Option ℕ) → ((p : ℕ) → found ≡ Some p → (1 ≤ p) × (p ≤ length content.partners)) → LacksReply rows number found → HasUnfitReplyOf rows number found
reply_unfit closed content rows its number None within lacks = lacks
reply_unfit closed content rows its number (Some p) within (inl unfit) = unfit
reply_unfit closed content rows its number (Some p) within (inr lacks) = let known = within p refl in absurd (next_fits closed content rows its p known.0 known.1 lacks)

-- of an office's rows all is read but a reply that is no text
pub asked_unfit : (closed : ClosedContent) (content : SetupContent) (rows : Rows) → (its : KeepsAccounts closed content rows) → (asked : About) → AsksUnreadable content rows asked → AsksUnfitReply content rows asked
asked_unfit closed content rows its (about.Ticket partner number) lacks = lacks
asked_unfit closed content rows its (about.Contrl partner number) lacks = lacks
asked_unfit closed content rows its (about.Reply partner number) lacks =
    reply_unfit closed content rows its number (partner_called content (string_bytes partner))
    (λ p is. let low = found_low 1 (string_bytes partner) (parties_in content).partners p is in (low.0, omega (arith, low.1, length-map content.partners (λ (account : List ℕ × PartnerKind). account.0)))) lacks
asked_unfit closed content rows its about.Partners lacks = absurd (numbers_fit closed content rows its lacks)
asked_unfit closed content rows its (about.Partner code) lacks = absurd (numbers_fit closed content rows its lacks)
asked_unfit closed content rows its (about.Next code) lacks = absurd (numbers_fit closed content rows its lacks)
asked_unfit closed content rows its about.Health lacks = absurd (numbers_fit closed content rows its lacks)
asked_unfit closed content rows its about.Metrics lacks = absurd (numbers_fit closed content rows its lacks)
asked_unfit closed content rows its about.Start lacks = absurd (numbers_fit closed content rows its lacks)
asked_unfit closed content rows its others lacks = absurd lacks

-- ==== OrderLemmas: Interchanges that stand in the order of arrival, after one event more.

-- what is held, with the rows that stand in order
abbrev pub held_in_order : {content : SetupContent} {es : List Event} {now : SetupContent} {db : Database} {there : Option Beside} → Holds content es now db there → IsInOrder content es db → Holds content es now db there
held_in_order holds order = record { given = holds.given; now_is = holds.now_is; rows = order.rows; has = order.has.has; after = order.after.after; beside = holds.beside }

-- ---- what a crash leaves of what is committed

stored_in_order : (content : SetupContent) (es : List Event) (db : Database) → IsInOrder content es db → IsStoredInOrder content es db.trees
stored_in_order content es db order = record {
  rows = order.rows;
  has = record { has = stores order.rows db order.has.has; in_place = order.has.in_place };
  after = order.after;
}

pub committed_in_order : (content : SetupContent) (es : List Event) (s : State) → ((db : Trees) → s.may_leave db → db ≡ s.committed.trees) → IsInOrder content es s.committed → LeavesInOrder content es s
committed_in_order content es s alone order db left = subst (IsStoredInOrder content es) (sym (alone db left)) (stored_in_order content es s.committed order)

-- ---- one delivery more

module _ (content : SetupContent) (es : List Event) (sent : List ℕ) where
  pub refused_in_order : (fault : Fault) (db : Database) → admission (parties_in (content_after content es)) (interchange_of sent) ≡ Err fault → IsInOrder content es db → IsInOrder content (es ++ delivered sent ∷ []) db
  refused_in_order fault db refused order = record { rows = order.rows; has = order.has; after = refused_stays_in_order content es order.rows sent fault order.after refused }

  -- a number that is used in some rows after the events is used in these
  pub used_in_order : (rows : Rows) (partner number : ℕ) (first : List ℕ) (db : Database) → AreAfter content es rows → IsFor content es sent partner number → text_in rows partner number ≡ Some first →
      IsInOrder content es db → IsInOrder content (es ++ delivered sent ∷ []) db
  used_in_order rows partner number first db after is_for there order =
      let here : text_in order.rows partner number ≡ Some first = order.after.after.texts partner number ∙ sym (after.texts partner number) ∙ there in
      record { rows = order.rows; has = order.has; after = used_stays_in_order content es order.rows sent partner number first order.after is_for here }

  pub early_in_order : (rows : Rows) (text : List ℕ) (partner number next : ℕ) (db : Database) → AreAfterInOrder content es rows → Comes content es sent (delivery partner number text) → text_in rows partner number ≡ None →
      next ≡ run (deliveries_of content es) partner + 1 → next < number → HasRowsInOrder (with_waiting partner number text rows) db → IsInOrder content (es ++ delivered sent ∷ []) db
  early_in_order rows text partner number next db after comes free is later has = record {
    rows = with_waiting partner number (interchange_of sent) rows;
    has = subst (λ t. HasRowsInOrder (with_waiting partner number t rows) db) comes.text_is has;
    after = early_adds_in_order content es rows sent partner number after comes.is_for free (omega (arith, is, later));
  }

  pub run_in_order : (rows : Rows) (text : List ℕ) (partner number next : ℕ) (there : Beside) (db : Database) → IsGiven content → AreAfterInOrder content es rows → IsAt content es there →
      Comes content es sent (delivery partner number text) → text_in rows partner number ≡ None → next ≡ run (deliveries_of content es) partner + 1 → number ≡ next →
      IsRunInOrder rows (delivery partner number text) (machine_with (content_after content es) there.terminal) db → IsInOrder content (es ++ delivered sent ∷ []) db
  run_in_order rows text partner number next there db given after at comes free is same done =
      let own = interchange_of sent in
      let here : AreTakenFrom partner (texts_with rows partner number own) number (machine_after content es) done.taken done.new =
      subst (λ m. AreTakenFrom partner (texts_with rows partner number own) number m done.taken done.new) at.terminal
      (subst (λ t. AreTakenFrom partner (texts_with rows partner number t) number (machine_with (content_after content es) there.terminal) done.taken done.new) comes.text_is done.are_taken) in
      record {
        rows = with_run partner number own done.taken rows;
        has = subst (λ t. HasRowsInOrder (with_run partner number t done.taken rows) db) comes.text_is done.has;
        after = next_adds_in_order content es rows sent partner number done.taken done.new given after comes.is_for free (same ∙ is) here;
      }

  -- ---- by the answer

  pub answered_in_order : (given : Response) (db : Database) → IsInOrder content es db → IsInOrder content (es ++ delivered sent ∷ []) db → IsInOrder content (with_answered es sent given) db
  answered_in_order response.NotNow db before after = before
  answered_in_order given db before after = after

  pub now_in_order : (given : Response) (db : Database) → IsNow given → IsInOrder content (es ++ delivered sent ∷ []) db → IsInOrder content (with_answered es sent given) db
  now_in_order response.NotNow db is after = absurd is
  now_in_order given db is after = after

  pub behind_in_order : (given : Response) (s : State) → LeavesInOrder content (es ++ delivered sent ∷ []) s → LeavesBehindInOrder content es sent given s
  behind_in_order response.NotNow s leaves = λ db left. inr (leaves db left)
  behind_in_order given s leaves = leaves

  -- ---- calls that failed

  pub failed_in_order : (Q : TableFault → Type 0) (r : Result Response TableFault) (db : Database) → IsErrAnd r Q → IsInOrder content es db → IsInOrder content (with_taken es sent r) db
  failed_in_order Q (Ok response) db is order = absurd is
  failed_in_order Q (Err fault) db is order = order

  pub failed_leaves_in_order : (Q : TableFault → Type 0) (r : Result Response TableFault) (s : State) → IsErrAnd r Q → LeavesEitherInOrder content es (delivered sent) s → LeavesTakenInOrder content es sent r s
  failed_leaves_in_order Q (Ok response) s is leaves = absurd is
  failed_leaves_in_order Q (Err fault) s is leaves = leaves

  -- ---- early ones

  module _ (d : Delivery) (old new : State) (next : ℕ) (order : IsInOrder content es old.committed) (comes : Comes content es sent d) (free : text_in order.rows d.partner d.number ≡ None)
      (is : next ≡ run (deliveries_of content es) d.partner + 1) (later : next < d.number) where
    kept_early : (db : Database) → HasRowsInOrder (with_waiting d.partner d.number d.text order.rows) db → IsInOrder content (es ++ delivered sent ∷ []) db
    kept_early db has = early_in_order order.rows d.text d.partner d.number next db order.after comes free is later has

    pub early_rows : (r : Result Response TableFault) → OnOk r (Commits (with_waiting d.partner d.number d.text) old new) → OnErr r (new.committed ≡ old.committed) → IsInOrder content (with_taken es sent r) new.committed
    early_rows (Ok response) wrote same = kept_early new.committed (wrote.in_order order.rows order.has)
    early_rows (Err fault) wrote same = subst (IsInOrder content es) (sym same) order

    pub early_crash : (r : Result Response TableFault) → LeavesInOrder content es old → OnOk r (Commits (with_waiting d.partner d.number d.text) old new) →
        ((db : Trees) → new.may_leave db → old.may_leave db ⊎ IsWholeInOrder (with_waiting d.partner d.number d.text) old db) → LeavesTakenInOrder content es sent r new
    early_crash (Ok response) leaves wrote crash =
        committed_in_order content (es ++ delivered sent ∷ []) new wrote.alone (kept_early new.committed (wrote.in_order order.rows order.has))
    early_crash (Err fault) leaves wrote crash = λ db left.
        either_of (λ before. leaves db before) (λ whole. kept_early (stored db) (whole order.rows order.has)) (crash db left)

-- ---- an account more

pub account_in_order : (content : SetupContent) (es : List Event) (code kind : List ℕ) (own : PartnerKind) (id : ℕ) (rows : Rows) (db : Database) → kind_named kind ≡ Some own →
    account_answer (content_after content es).partners code kind ≡ added_as id → AreAfterInOrder content es rows → HasRowsInOrder (with_partner id code own rows) db → IsInOrder content (es ++ added code kind ∷ []) db
account_in_order content es code kind own id rows db named is after has = record {
  rows = with_partner id code own rows;
  has = has;
  after = account_stays_in_order content es rows code kind own id after named is;
}

-- ==== ReportLemmas: What the tables tell of an interchange, as reports tell it.

pub no_reply : (partner number : ℕ) (rows : Rows) → IsKept partner number rows None → reply_in rows partner number ≡ None
no_reply partner number rows none = ap (option_and_then (λ (i : Interchange). reply_if_any i.reply)) (none_kept partner number rows none)

module _ (rows : Rows) (partner number : ℕ) (once : AreKeptOnce rows.interchanges) where
  -- the reply that is kept
  pub reply_of_kept : (kept : Option Kept) → IsKept partner number rows kept → reply_in rows partner number ≡ option_map string_bytes (option_and_then (λ (k : Kept). k.reply) kept)
  reply_of_kept None is = no_reply partner number rows is
  reply_of_kept (Some kept) is = reply_kept partner number rows kept once is

  pub told_kept : (code : List ℕ) (kept : Kept) (next : ℕ) → IsKept partner number rows (Some kept) → IsNextOf partner rows next →
      TellsReply rows code partner number (text_in rows partner number) (reply_in rows partner number) (Some (answered code number next (option_map string_bytes kept.reply)))
  told_kept code kept next is is_next =
      subst (λ t. TellsReply rows code partner number t (reply_in rows partner number) (Some (answered code number next (option_map string_bytes kept.reply)))) (sym (text_kept partner number rows kept once is))
      (next, is_next, ap (λ reply. Some (answered code number next reply)) (sym (reply_kept partner number rows kept once is)))

  pub told_nothing : (code : List ℕ) → IsKept partner number rows None → TellsReply rows code partner number (text_in rows partner number) (reply_in rows partner number) None
  told_nothing code none = subst (λ t. TellsReply rows code partner number t (reply_in rows partner number) None) (sym (no_text partner number rows none)) refl

  pub ticket_there : (code : List ℕ) (visits : List VisitContent) (kept : Option Kept) (text : List ℕ) → IsKept partner number rows kept → is_some (option_and_then (λ (k : Kept). k.reply) kept) ≡ true →
      (view : View) → text ≡ shown view (value.ticket (told_ticket code (record { partner = partner; number = number }) visits)) →
      Some text ≡ option_map (shown view) (ticket_if_taken visits code partner number (reply_in rows partner number))
  ticket_there code visits kept text is there view told =
      let found = some_of (option_and_then (λ (k : Kept). k.reply) kept) there in
      ap Some told ∙ sym (ap (λ reply. option_map (shown view) (ticket_if_taken visits code partner number reply)) (reply_of_kept kept is ∙ ap (option_map string_bytes) found.1))

  pub no_ticket : (code : List ℕ) (visits : List VisitContent) (kept : Option Kept) → IsKept partner number rows kept → is_some (option_and_then (λ (k : Kept). k.reply) kept) ≡ false →
      None ≡ ticket_if_taken visits code partner number (reply_in rows partner number)
  no_ticket code visits kept is none =
      sym (ap (ticket_if_taken visits code partner number) (reply_of_kept kept is ∙ ap (option_map string_bytes) (none_of (option_and_then (λ (k : Kept). k.reply) kept) none)))

  -- the CONTRL of the reply that is kept
  pub contrl_kept : (code : List ℕ) (view : View) (kept : Option Kept) (reply : Option (List ℕ)) → IsKept partner number rows kept → reply ≡ option_map string_bytes (option_and_then (λ (k : Kept). k.reply) kept) →
      option_map (shown view) (contrl_told code number reply) ≡ option_map (shown view) (contrl_told code number (reply_in rows partner number))
  contrl_kept code view kept reply is told = ap (λ found. option_map (shown view) (contrl_told code number found)) (told ∙ sym (reply_of_kept kept is))

-- who is found among the accounts
pub called : (setup : Setup) (code own : List ℕ) (found : Option ℕ) → found ≡ partner_from 1 code (partner_codes setup.partners.items) → code ≡ own →
    partner_called (setup_content setup) own ≡ found
called setup code own found is is_own =
    ap (λ (P : Parties). partner_from 1 own P.partners) (sym (parties_same setup))
    ∙ ap (λ (c : List ℕ). partner_from 1 c (partner_codes setup.partners.items)) (sym is_own) ∙ sym is
