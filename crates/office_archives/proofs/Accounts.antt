-- An account more, to a desk over a store's own rows and the archives beside it.
use Rattle.std.specs.{Prelude.{get_or, IsSorted}, List.range_with_len, List.Sorted.IsPermutation, Ordering.nat_cmp, declared.alloc.Global.Global}
use Rattle.std.proofs.Common.{◌≡◌, ℕ, ◌+◌, ◌<◌, inl, inr, List, [], ◌∷◌, ◌++◌, length, map, Option, None, Some, String, sym, ap, ap₂, subst, ◌∙◌, arith, is_lt, Greater}
use Rattle.std.proofs.{lemmas.Bool.Decides.nat_tests, lemmas.List.FromFn.{length-range_with_len, get_or-range_with_len}, lemmas.List.Sorted.IsPermutation-refl}
use Rattle.sqlite.specs.{Effect.Database, Held.state, Tree.Trees}
use Rattle.sqlite_trees.specs.declared.store.Store.{Ghosts}
use Rattle.edi_messages.specs.declared.codes.PartnerKind.{PartnerKind}
use Rattle.partner_core.specs.Deliveries.{run}
use Rattle.terminal_core.specs.State.{TerminalState}
use Rattle.office_replies.specs.{Adding.with_added, Events.{Event, added}, declared.accounts.AccountAnswer.AccountAnswer}
use Rattle.office_replies.specs.declared.accounts.AccountAnswer.TheVariants.{Added, Known, Refused, NotNow}
use Rattle.office_loading.specs.{Closed.closed_content, Tables.LoadsOwn}
use Rattle.office_rows.specs.{Rows.Rows, Effects.with_partner, Shown.AreNexts, Stored.{HasRows, StoresRows}}
use Rattle.office_admission.specs.{Kinds.kind_named, Setups.{SetupContent, setup_content, setup_with_account}, Taking.MachineState}
use Rattle.office_admission.specs.Accounts.{AccountContent, added_as, known_as, refused_for, account_answer}
use Rattle.office_history.{specs.After.{AreKeptOnce, accounts_from, content_after, deliveries_of, machine_after}, proofs.Ground.account_adds_row}
use Rattle.office_parts.specs.{Archives.Archive, OwnTerminal.own_terminal, Parts.ArePartsAfter, Away.AreAway, OwnLists.{rows_without_lists, without_lists}}
use Rattle.office_parts.proofs.{Takings.account_more, AwayLemmas.with_account, Writings.own_office_without}
use Rattle.office_desk.specs.{Accounts.{AddsOver, AnswersAccount, IsLengthened, IsSameOrNone, LeavesAddedOver, Says}, Beside.{IsOrNone, nexts_after}}
use Rattle.office_desk.{specs.{Calls.Enrols, Offices.HoldsOffice, declared.beside.Beside.Beside, declared.desk.Desk.Desk}, proofs.KeptLemmas.nexts_from}
use Rattle.office_desk.proofs.{AccountLemmas.{grown, nexts_grown}, HoldLemmas.{either_of, ids_from, nexts_loaded}, DeliverLemmas.{office_once, office_with}}
use Rattle.office_archives.specs.{Standing.{IsOwnWithRest, KnowsClosed, StandsBeside}, Together.{EnrolsTogether, IsBesideAfter, LeavesAccount, StandTogether}}
use Rattle.office_archives.proofs.Filled.{of_whole}

-- ---- the partners' numbers

greater : (m n : ℕ) → n < m → nat_cmp m n ≡ Greater
greater m n below = grind (arith, nat_tests)

ids_sorted : (a n : ℕ) → IsSorted nat_cmp (range_with_len a n)
ids_sorted a n k d low below =
    let many : length (range_with_len a n) ≡ n = length-range_with_len a n in
    let one : get_or (range_with_len a n) (k + 1) d ≡ a + (k + 1) = get_or-range_with_len a n (k + 1) d (omega (arith, below, many)) in
    let other : get_or (range_with_len a n) k d ≡ a + k = get_or-range_with_len a n k d (omega (arith, below, many)) in
    ap₂ (λ x y. is_lt (nat_cmp x y)) one other ∙ ap is_lt (greater (a + (k + 1)) (a + k) (omega arith))

-- of accounts that stand by their ids
nexts_in_order : (rows : Rows) (f : ℕ → ℕ) (accounts : List (List ℕ × PartnerKind)) (nexts : List ℕ) → rows.partners ≡ accounts_from 1 f accounts → nexts ≡ map f (range_with_len 1 (length accounts)) → AreNexts rows nexts
nexts_in_order rows f accounts nexts are same = (
  accounts_from 1 f accounts,
  subst (λ l. IsPermutation l (accounts_from 1 f accounts)) (sym are) (IsPermutation-refl (accounts_from 1 f accounts)),
  subst (IsSorted nat_cmp) (sym (ids_from 1 f accounts)) (ids_sorted 1 (length accounts)),
  same ∙ sym (nexts_from 1 f accounts),
)

-- ---- the answer

added_so : (said : AccountContent) (code : List ℕ) (id : ℕ) (body : String Global) → Says said code (Added id body) → said ≡ added_as id
added_so (added_as other) code id body says = ap added_as (sym says.0)
added_so (known_as other) code id body says = absurd says
added_so (refused_for fault) code id body says = absurd says

module _ {S : Type 0} (g : Ghosts S) (list : List Archive) (content : SetupContent) (es : List Event) (old : Desk S g) (stands : StandsBeside g list content es old) where
  abbrev terminal : TerminalState
  terminal = without_lists stands.away (own_terminal stands.archived.stays (machine_after content es).terminal)

  abbrev left : Rows
  left = rows_without_lists stands.away stands.rows

  -- with the same rows and set-up the desk stands where it stood
  pub still : (new : Desk S g) → new.setup ≡ old.setup → new.closed ≡ old.closed → (state g new.conn).committed ≡ (state g old.conn).committed → IsSameOrNone old.beside new.beside → StandsBeside g list content es new
  still new setup closed committed beside = record {
    given = stands.given;
    now_is = stands.now_is ∙ ap setup_content (sym setup);
    archived = stands.archived;
    own = stands.own;
    whole = stands.whole;
    parts = stands.parts;
    hold = stands.hold;
    knows = subst (λ k. KnowsClosed (closed_content k) stands.archived) (sym closed) stands.knows;
    rows = stands.rows;
    is_own = stands.is_own;
    away = stands.away;
    lists = stands.lists;
    holds =
        subst (λ k. HoldsOffice (closed_content new.closed) (setup_content k) left terminal (state g new.conn).committed new.beside) (sym setup)
        (subst (λ k. HoldsOffice (closed_content k) (setup_content old.setup) left terminal (state g new.conn).committed new.beside) (sym closed)
        (office_with (closed_content old.closed) (setup_content old.setup) left terminal (state g old.conn).committed (state g new.conn).committed old.beside new.beside committed (there beside) stands.holds));
  }
    where
      there : IsSameOrNone old.beside new.beside → IsOrNone left terminal new.beside
      there (inl same) = subst (IsOrNone left terminal) (sym same) stands.holds.beside
      there (inr none) = subst (IsOrNone left terminal) (sym none) tt

  -- what a crash leaves of the rows as they were
  pub kept : (db : Trees) → StoresRows left db → IsBesideAfter list (closed_content old.closed) content es db
  kept db are = record { archived = stands.archived; own = stands.own; whole = stands.whole; parts = stands.parts; hold = stands.hold; knows = stands.knows; rows = stands.rows; is_own = stands.is_own; away = stands.away; lists = stands.lists; are = are }

  -- ---- one that is added

  module _ (code kind : List ℕ) (own : PartnerKind) (id : ℕ) (named : kind_named kind ≡ Some own) (is : account_answer (content_after content es).partners code kind ≡ added_as id) where
    abbrev later : List Event
    later = es ++ added code kind ∷ []

    abbrev own' : Rows
    own' = with_partner id code own stands.own

    abbrev whole' : Rows
    whole' = with_partner id code own stands.whole

    abbrev rows' : Rows
    rows' = with_partner id code own stands.rows

    abbrev left' : Rows
    left' = rows_without_lists stands.away rows'

    abbrev terminal' : TerminalState
    terminal' = without_lists stands.away (own_terminal stands.archived.stays (machine_after content later).terminal)

    parts' : ArePartsAfter content later stands.archived own' whole'
    parts' = account_more content es stands.archived stands.own stands.whole code kind own id stands.parts named is

    is_own' : IsOwnWithRest stands.archived own' rows'
    is_own' = record { beyond = ap (with_partner id code own) stands.is_own.beyond; rest = stands.is_own.rest }

    lists' : AreAway list stands.away content later own'
    lists' = with_account content es list stands.away stands.archived stands.own stands.whole code kind own id stands.lists stands.parts named is

    terminal_same : terminal ≡ terminal'
    terminal_same = ap (λ (m : MachineState). without_lists stands.away (own_terminal stands.archived.stays m.terminal)) (sym (account_adds_row content es stands.whole code kind own id stands.parts.after named is).machine)

    -- what a crash leaves of the rows with it
    pub kept_with : (db : Trees) → StoresRows left' db → IsBesideAfter list (closed_content old.closed) content later db
    kept_with db are = record { archived = stands.archived; own = own'; whole = whole'; parts = parts'; hold = stands.hold; knows = stands.knows; rows = rows'; is_own = is_own'; away = stands.away; lists = lists'; are = are }

    once : AreKeptOnce left'.interchanges
    once = office_once (closed_content old.closed) (setup_content old.setup) left terminal (state g old.conn).committed old.beside stands.holds

    closed_same : (record { last_closed = stands.archived.last_closed; newest_closed = (closed_content old.closed).newest_closed }) ≡ closed_content old.closed
    closed_same i = record { last_closed = λ p. sym (stands.knows.numbers p) i; newest_closed = (closed_content old.closed).newest_closed }

    loads : (db : Database) → HasRows left' db → LoadsOwn (closed_content old.closed) db (content_after content later) terminal'
    loads db has =
        subst (λ c. LoadsOwn c db (content_after content later) terminal') closed_same
        (own_office_without content later stands.archived own' whole' left' stands.away db (closed_content old.closed).newest_closed stands.given parts' (ap (rows_without_lists stands.away) is_own'.beyond) once (of_whole stands.archived own' whole' rows' parts'.parts is_own') stands.knows.visits has)

    beside' : (before after : Option Beside) → IsLengthened before after → IsOrNone left terminal before → IsOrNone left' terminal' after
    beside' None None longer there = tt
    beside' None (Some after) longer there = absurd longer
    beside' (Some before) None longer there = absurd longer
    beside' (Some before) (Some after) longer there =
        let f : ℕ → ℕ = λ p. run (deliveries_of content later) p + 1 in
        let same : stands.rows.partners ≡ stands.whole.partners = sym (stands.parts.parts.partners ∙ ap (λ (r : Rows). r.partners) (sym stands.is_own.beyond)) in
        let nexts = there.nexts in
        let of_all : AreNexts stands.whole before.nexts.items = (nexts.0, subst (λ l. IsPermutation l nexts.0) same nexts.1, nexts.2, nexts.3) in
        let were : before.nexts.items ≡ nexts_after content es = nexts_loaded content es stands.whole before.nexts.items stands.parts.after of_all in
        record {
          terminal_is = longer.0 ∙ there.terminal_is ∙ terminal_same;
          nexts = nexts_in_order left' f (content_after content later).partners after.nexts.items
              (ap (λ (r : Rows). r.partners) (ap (with_partner id code own) (ap (λ ps. record stands.rows { partners = ps }) same)) ∙ parts'.after.partners)
              (longer.1 ∙ ap (λ l. l ++ 1 ∷ []) were ∙ sym (nexts_grown content es code kind own id named is));
        }

    pub stand_with : (new : Desk S g) → setup_content new.setup ≡ setup_with_account (setup_content old.setup) code own → new.closed ≡ old.closed → HasRows left' (state g new.conn).committed → IsLengthened old.beside new.beside
        → StandsBeside g list content later new
    stand_with new setup closed has longer =
        let now : content_after content later ≡ setup_content new.setup = grown content es code kind own id named is ∙ ap (λ c. setup_with_account c code own) stands.now_is ∙ sym setup in
        record {
          given = stands.given;
          now_is = now;
          archived = stands.archived;
          own = own';
          whole = whole';
          parts = parts';
          hold = stands.hold;
          knows = subst (λ k. KnowsClosed (closed_content k) stands.archived) (sym closed) stands.knows;
          rows = rows';
          is_own = is_own';
          away = stands.away;
          lists = lists';
          holds = record {
            has = has;
            loads = subst (λ k. LoadsOwn (closed_content k) (state g new.conn).committed (setup_content new.setup) terminal') (sym closed)
                (subst (λ c. LoadsOwn (closed_content old.closed) (state g new.conn).committed c terminal') now (loads (state g new.conn).committed has));
            beside = beside' old.beside new.beside longer stands.holds.beside;
          };
        }

-- ---- the call

module _ {S A : Type 0} (g : Ghosts S) (are : List Archive → A → Type 0) where
  pub by_account : (old : Desk S g) (a : A) (code kind : List ℕ) (answer : AccountAnswer) (new : Desk S g) → Enrols g old code kind answer new → EnrolsTogether g are old a code kind answer new a
  by_account old a code kind answer new enrols = record {
    adds = λ sound content es stand. (
      says_after content es stand.list stand.stands answer enrols.says,
      together content es stand answer enrols.says (enrols.over sound),
    );
    crash = λ sound clean content es stand. left content es stand answer enrols.says (enrols.crash_over sound clean (rows_without_lists stand.stands.away stand.stands.rows) stand.stands.holds.has);
    closed = enrols.closed;
    stays = enrols.stays;
    noted = enrols.noted;
    these = λ list they. they;
    own = enrols;
  }
    where
      says_after : (content : SetupContent) (es : List Event) (list : List Archive) → StandsBeside g list content es old → (answer : AccountAnswer) → Says (account_answer (setup_content old.setup).partners code kind) code answer → AnswersAccount content es code kind answer
      says_after content es list stands answer says = subst (λ (c : SetupContent). Says (account_answer c.partners code kind) code answer) (sym stands.now_is) says

      is_added : (content : SetupContent) (es : List Event) (list : List Archive) → StandsBeside g list content es old → (id : ℕ) → account_answer (setup_content old.setup).partners code kind ≡ added_as id → account_answer (content_after content es).partners code kind ≡ added_as id
      is_added content es list stands id is = ap (λ (c : SetupContent). account_answer c.partners code kind) stands.now_is ∙ is

      together : (content : SetupContent) (es : List Event) → StandTogether g are content es old a → (answer : AccountAnswer) → Says (account_answer (setup_content old.setup).partners code kind) code answer → AddsOver g old code kind answer new
          → StandTogether g are content (with_added es code kind answer) new a
      together content es stand (Added id body) says over = record {
        list = stand.list;
        these = stand.these;
        stands = stand_with g stand.list content es old stand.stands code kind over.0 id over.1 (is_added content es stand.list stand.stands id (added_so _ code id body says)) new over.2 enrols.closed (over.3 (rows_without_lists stand.stands.away stand.stands.rows) stand.stands.holds.has) over.4;
      }
      together content es stand NotNow says over = record { list = stand.list; these = stand.these; stands = still g stand.list content es old stand.stands new over.0 enrols.closed over.1 over.2 }
      together content es stand (Known id body) says over = record { list = stand.list; these = stand.these; stands = still g stand.list content es old stand.stands new over.1 enrols.closed (ap (λ k. (state g k).committed) over.0) (inl over.2) }
      together content es stand (Refused fault) says over = record { list = stand.list; these = stand.these; stands = still g stand.list content es old stand.stands new over.1 enrols.closed (ap (λ k. (state g k).committed) over.0) (inl over.2) }

      left : (content : SetupContent) (es : List Event) (stand : StandTogether g are content es old a) (answer : AccountAnswer) → Says (account_answer (setup_content old.setup).partners code kind) code answer
          → LeavesAddedOver (setup_content old.setup).partners (rows_without_lists stand.stands.away stand.stands.rows) code kind answer (state g new.conn) → LeavesAccount stand.list (closed_content old.closed) content es code kind answer (state g new.conn)
      left content es stand (Added id body) says leaves = λ db left.
          kept_with g stand.list content es old stand.stands code kind leaves.0 id leaves.1 (is_added content es stand.list stand.stands id (added_so _ code id body says)) db (leaves.2 db left)
      left content es stand NotNow says leaves = λ db left. either_of (λ same. kept g stand.list content es old stand.stands db same)
          (λ more. kept_with g stand.list content es old stand.stands code kind more.0 more.1 more.2 (is_added content es stand.list stand.stands more.1 more.3) db more.4) (leaves db left)
      left content es stand (Known id body) says leaves = λ db left. kept g stand.list content es old stand.stands db (leaves db left)
      left content es stand (Refused fault) says leaves = λ db left. kept g stand.list content es old stand.stands db (leaves db left)
