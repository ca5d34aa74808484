-- What a desk answers to an account that is to be added, and what it holds after it.
use Rattle.std.specs.{List.range_with_len, Prelude.{slice_get, OnErr, OnOk, Result, Ok, Err, slice_index_or, slice_set}, declared.alloc.Global.Global}
use Rattle.std.proofs.Common.{◌≡◌, ℕ, ◌+◌, ◌-◌, ◌<◌, true, cond, map, List, [], ◌∷◌, ◌++◌, length, Option, None, Some, get_or, option_map, inl, inr, refl, sym, ap, ap₂, subst, ◌∙◌, arith, ◌≤◌, String, string_bytes, codes}
use Rattle.std.proofs.{lemmas.List.{length-append, map-append, length-map}, lemmas.List.FromFn.map-range_with_len_more, lemmas.Simd.map-map}
use Rattle.std.proofs.lemmas.Option.{slice_get-get_or, slice_get-map}
use Rattle.sqlite.specs.{Effect.Database, Tree.Trees, State.State, Held.state}
use Rattle.sqlite_trees.specs.declared.store.Store.{Ghosts}
use Rattle.edi_messages.specs.declared.codes.PartnerKind.{PartnerKind}
use Rattle.partner_core.{specs.{Deliveries.{run, delivery}, Numbered.with_number}, proofs.Keepings.with_number-below}
use Rattle.terminal_core.specs.State.{TerminalState}
use Rattle.office_replies.specs.{Events.{Event, added}, declared.accounts.AccountAnswer.AccountAnswer, declared.accounts.AccountFault.TheVariants.Partner}
use Rattle.office_replies.specs.Bodies.{answer_text}
use Rattle.office_replies.specs.Contents.{content_of}
use Rattle.office_replies.specs.Delivering.{AreAnswered, LeadsOn, with_answered}
use Rattle.office_replies.specs.declared.deliver.Response.{Response}
use Rattle.office_rows.specs.{Effects.with_partner, Rows.Rows, Stored.{HasRows, StoresRows}}
use Rattle.office_admission.specs.{Kinds.kind_named, SetupAccounts.account_contents, Parties.{partner_codes, partner_from, partner_kinds}, Given.IsGiven}
use Rattle.office_admission.specs.{declared.setup.Account.Account, PartyCodes.is_party_code, Setups.{SetupContent, setup_content, setup_with_account}}
use Rattle.office_admission.specs.Accounts.{AccountContent, AccountPair, account_answer, added_as, by_kind, by_number, content_after, refused_for}
use Rattle.office_admission.{specs.{Deliveries.deliveries_of, Growth.with_account, declared.setup.Setup.Setup, Taking.machine_of}, proofs.Named.one_further}
use Rattle.office_admission.proofs.Adding.{account_adds, added_last, content_on, given_after, no_run_beyond, parties_grown}
use Rattle.office_tables.specs.{declared.table_fault.TableFault.TableFault, DeliveryReading.IsSame, Writing.Commits, Taken.{taken_content, taken_contents}}
use Rattle.office_tables.specs.declared.running.Taken.{Taken}
use Rattle.office_history.specs.{After.{AreAfter, machine_after, machine_with}, Laws.AddsAccount, Cascade.{AreTakenFrom, texts_with, with_run}}
use Rattle.office_history.proofs.Ground.{account_adds_row}
use Rattle.office_desk.specs.{Accounts.{AnswersAccount, IsLengthened, IsSameOrNone, Says}, Beside.{IsBeside, nexts_after}, Telling.{Holds, TakesNext}}
use Rattle.office_desk.specs.{Crashes.{IsAfter, Leaves, LeavesAll, LeavesBehind}, Desks.{StandsFor, IsSound}, declared.beside.Beside.Beside, Calls.Leads}
use Rattle.office_desk.specs.{declared.desk.Desk.Desk, Answers.{answer_by_model, AnswersNext}}
use Rattle.partner_core.specs.Answers as told
use Rattle.office_replies.specs.declared.deliver.Response.TheVariants as response

-- ---- the answer

-- a code and a kind of their forms are answered by the accounts
pub asked : (accounts : List AccountPair) (code kind : List ℕ) (own : PartnerKind) → is_party_code code ≡ true → kind_named kind ≡ Some own →
    account_answer accounts code kind ≡ by_number accounts own (partner_from 1 code (map (λ (account : AccountPair). account.0) accounts))
asked accounts code kind own coded named =
    ap (λ b. cond b (by_kind accounts code (kind_named kind)) (refused_for Partner)) coded ∙ ap (by_kind accounts code) named

-- ---- the accounts of a set-up

codes_in : (accounts : List Account) → map (λ (pair : AccountPair). pair.0) (account_contents accounts) ≡ partner_codes accounts
codes_in accounts = map-map _ _ accounts

kinds_in : (accounts : List Account) → map (λ (pair : AccountPair). pair.1) (account_contents accounts) ≡ partner_kinds accounts
kinds_in accounts = map-map _ _ accounts

-- the number of a code follows its place
pub found_by_code : (accounts : List Account) (code : List ℕ) (found : Option ℕ) → found ≡ partner_from 0 code (partner_codes accounts) →
    partner_from 1 code (map (λ (pair : AccountPair). pair.0) (account_contents accounts)) ≡ option_map (λ index. index + 1) found
found_by_code accounts code found is =
    ap (partner_from 1 code) (codes_in accounts) ∙ sym (one_further 0 code (partner_codes accounts)) ∙ ap (option_map (λ index. index + 1)) (sym is)

pub kind_at : (accounts : List Account) (index : ℕ) (other : Account) → index < length accounts →
    with_number (map (λ (pair : AccountPair). pair.1) (account_contents accounts)) (index + 1) ≡ Some (get_or accounts index other).kind
kind_at accounts index other low =
    let place : index + 1 - 1 ≡ index = omega arith in
    let there : slice_get accounts (index + 1 - 1) ≡ Some (get_or accounts index other) = ap (slice_get accounts) place ∙ slice_get-get_or accounts index other low in
    ap (λ l. with_number l (index + 1)) (kinds_in accounts)
    ∙ with_number-below (partner_kinds accounts) (index + 1) (omega arith)
    ∙ slice_get-map (λ (account : Account). account.kind) accounts (index + 1 - 1)
    ∙ ap (option_map (λ (account : Account). account.kind)) there

-- ---- the set-up

-- a given set-up is one with the account too
pub given_with : (content : SetupContent) (code kind : List ℕ) (id : ℕ) (own : PartnerKind) → IsGiven content → kind_named kind ≡ Some own → account_answer content.partners code kind ≡ added_as id →
    IsGiven (setup_with_account content code own)
given_with content code kind id own given named is =
    subst IsGiven (added_last content code kind id own named is).content_is (given_after (added code kind ∷ []) content given)

module _ (content : SetupContent) (es : List Event) (code kind : List ℕ) (own : PartnerKind) (id : ℕ) (named : kind_named kind ≡ Some own)
    (is : account_answer (content_after content es).partners code kind ≡ added_as id) where
  abbrev now : SetupContent
  now = content_after content es

  abbrev later : List Event
  later = es ++ added code kind ∷ []

  pub grown : content_after content later ≡ setup_with_account now code own
  grown = content_on es (added code kind ∷ []) content ∙ (added_last now code kind id own named is).content_is

  -- ---- beside the rows

  pub machine_grown : (terminal : TerminalState) → machine_with (setup_with_account now code own) terminal ≡ with_account code own (machine_with now terminal)
  machine_grown terminal = λ i. record {
    parties = parties_grown now code own i;
    codes = now.codes;
    kinds = map-append (λ (account : AccountPair). account.1) now.partners ((code, own) ∷ []) i;
    blocks = now.blocks;
    visit_limit = now.visit_limit;
    terminal = terminal;
  }

  abbrev numbers : List Event → ℕ → ℕ
  numbers events p = run (deliveries_of content events) p + 1

  pub nexts_grown : nexts_after content later ≡ nexts_after content es ++ 1 ∷ []
  nexts_grown =
      let same : numbers later ≡ numbers es = ap (λ ds. λ p. run ds p + 1) (account_adds es content code kind) in
      let many : length (content_after content later).partners ≡ length now.partners + 1 = ap (λ (c : SetupContent). length c.partners) grown ∙ length-append now.partners ((code, own) ∷ []) in
      ap₂ (λ f n. map f (range_with_len 1 n)) same many
      ∙ map-range_with_len_more (numbers es) 1 (length now.partners) (length now.partners + 1) (omega arith)
      ∙ ap (λ r. nexts_after content es ++ (r + 1) ∷ []) (no_run_beyond es content)

  beside_grown : (machine_after content later ≡ with_account code own (machine_after content es)) → (old new : Option Beside) → IsLengthened old new → IsBeside content es old → IsBeside content later new
  beside_grown machine None None longer beside = tt
  beside_grown machine (Some old) (Some new) longer beside = record {
    terminal =
        ap₂ machine_with grown longer.0 ∙ machine_grown old.terminal ∙ ap (with_account code own) beside.terminal ∙ sym machine;
    nexts = longer.1 ∙ ap (λ l. l ++ 1 ∷ []) beside.nexts ∙ sym nexts_grown;
  }
  beside_grown machine None (Some new) longer beside = absurd longer
  beside_grown machine (Some old) None longer beside = absurd longer

  -- ---- what is held

  pub account_held : (setup : SetupContent) (was db : Database) (old new : Option Beside) → (holds : Holds content es setup was old) →
      HasRows (with_partner id code own holds.rows) db → IsLengthened old new → Holds content later (setup_with_account setup code own) db new
  account_held setup was db old new holds has longer =
      let adds : AddsAccount content es code kind own (with_partner id code own holds.rows) = account_adds_row content es holds.rows code kind own id holds.after named is in
      record {
        given = holds.given;
        now_is = grown ∙ ap (λ c. setup_with_account c code own) holds.now_is;
        rows = with_partner id code own holds.rows;
        has = has;
        after = adds.rows_are;
        beside = beside_grown adds.machine old new longer holds.beside;
      }

  -- a store that holds the rows with the account holds those after it
  pub account_after : (rows : Rows) (db : Trees) → AreAfter content es rows → StoresRows (with_partner id code own rows) db → IsAfter content later db
  account_after rows db after are = record { rows = with_partner id code own rows; are = are; after = (account_adds_row content es rows code kind own id after named is).rows_are }

-- ---- what is answered and held

pub asked_is : (accounts : List AccountPair) (code came kind : List ℕ) (own : PartnerKind) (said : AccountContent) → code ≡ came → is_party_code code ≡ true → kind_named kind ≡ Some own →
    said ≡ by_number accounts own (partner_from 1 code (map (λ (account : AccountPair). account.0) accounts)) → account_answer accounts came kind ≡ said
asked_is accounts code came kind own said same coded named is = subst (λ text. account_answer accounts text kind ≡ said) same (asked accounts code kind own coded named ∙ sym is)

pub says_of : (accounts : List AccountPair) (code kind : List ℕ) (said : AccountContent) (answer : AccountAnswer) → account_answer accounts code kind ≡ said → Says said code answer → Says (account_answer accounts code kind) code answer
says_of accounts code kind said answer is says = subst (λ s. Says s code answer) (sym is) says

module _ {S : Type 0} (g : Ghosts S) (content : SetupContent) (es : List Event) (code kind : List ℕ) where
  -- the accounts of a desk that stands there are those so far
  pub says_now : (desk : Desk S g) (answer : AccountAnswer) → StandsFor g content es desk → Says (account_answer (setup_content desk.setup).partners code kind) code answer → AnswersAccount content es code kind answer
  says_now desk answer stands says = subst (λ (k : SetupContent). Says (account_answer k.partners code kind) code answer) (sym stands.now_is) says

pub not_added : (content : SetupContent) (es : List Event) (was is : SetupContent) (db db' : Database) (old new : Option Beside) → Holds content es was db old → is ≡ was → db' ≡ db → IsSameOrNone old new → Holds content es is db' new
not_added content es was is db db' old new holds set same (inl still) = record {
  given = holds.given;
  now_is = holds.now_is ∙ sym set;
  rows = holds.rows;
  has = subst (HasRows holds.rows) (sym same) holds.has;
  after = holds.after;
  beside = subst (IsBeside content es) (sym still) holds.beside;
}
not_added content es was is db db' old new holds set same (inr none) = record {
  given = holds.given;
  now_is = holds.now_is ∙ sym set;
  rows = holds.rows;
  has = subst (HasRows holds.rows) (sym same) holds.has;
  after = holds.after;
  beside = subst (IsBeside content es) (sym none) tt;
}

-- the set-up that an addition leaves is one that can be given: the one with the account, or the old one
pub given_left : {A S : Type 0} (met : Result A TableFault) (content : S → SetupContent) (old new : S) (grown : SetupContent) → OnOk met (content new ≡ grown) → OnErr met (new ≡ old)
    → IsGiven (content old) → IsGiven grown → IsGiven (content new)
given_left (Ok body) content old new grown with_it same was is = subst IsGiven (sym with_it) is
given_left (Err fault) content old new grown with_it same was is = subst IsGiven (sym (ap content same)) was

-- ==== AnswerLemmas: The answers that responses are.

pub taken_is : (body : String Global) (reply : List ℕ) (number : ℕ) (code : List ℕ) → string_bytes body ≡ answer_text (codes "taken") number code reply →
    content_of (response.Taken body) ≡ answer_by_model code number (told.Taken (Some reply))
taken_is body reply number code is = rw is refl

-- ---- a run

split : (first : Taken) (items : List Taken) → 1 ≤ length items → first ≡ slice_index_or items 0 first → (later : List Taken) × (items ≡ first ∷ later)
split first [] some is = absurd (omega (arith, some))
split first (x ∷ items) some is = (items, ap (λ t. t ∷ items) (sym is))

pub takes_next : (rows : Rows) (partner number : ℕ) (text code : List ℕ) (setup : Setup) (old new : Beside) (body : String Global) (first : Taken) (items : List Taken) (was mid end : State) →
    1 ≤ length items → first ≡ slice_index_or items 0 first →
    AreTakenFrom partner (texts_with rows partner number text) number (machine_of setup old.terminal) (taken_contents items) (machine_of setup new.terminal) →
    new.nexts.items ≡ slice_set old.nexts.items (partner - 1) (number + length items) →
    string_bytes body ≡ answer_text (codes "taken") number code (string_bytes first.reply) → HasRows rows was.now → was.now ≡ was.committed → IsSame was mid →
    Commits (with_run partner number text (taken_contents items)) mid end → TakesNext rows (delivery partner number text) code setup old (response.Taken body) new end
takes_next rows partner number text code setup old new body first items was mid end some is taken raised bytes has settled same wrote =
    let parts = split first items some is in
    let before : HasRows rows mid.committed = subst (HasRows rows) (settled ∙ sym same.committed) has in
    record {
      first = taken_content first;
      later = taken_contents parts.0;
      taken = subst (λ l. AreTakenFrom partner (texts_with rows partner number text) number (machine_of setup old.terminal) (taken_contents l) (machine_of setup new.terminal)) parts.1 taken;
      raised = raised ∙ ap (λ n. slice_set old.nexts.items (partner - 1) (number + n)) (sym (length-map items taken_content) ∙ ap (λ l. length (taken_contents l)) parts.1);
      answers = taken_is body (string_bytes first.reply) number code bytes;
      has = subst (λ l. HasRows (with_run partner number text (taken_contents l) rows) end.committed) parts.1 (wrote.rows rows before);
      is_open = wrote.is_open;
      alone = wrote.alone;
    }

-- ==== CallLemmas: Deliveries, one after the other.

module _ {S : Type 0} (g : Ghosts S) where
  pub sound_before : (old new : Desk S g) (texts : List (List ℕ)) (responses : List Response) → LeadsOn (Leads g) old texts responses new → IsSound g new → IsSound g old
  sound_before old new [] [] same sound = subst (IsSound g) same sound
  sound_before old new [] (response ∷ responses) none sound = absurd none
  sound_before old new (text ∷ texts) [] none sound = absurd none
  sound_before old new (text ∷ texts) (response ∷ responses) (next, call, rest) sound = call.stays (sound_before next new texts responses rest sound)

  pub answered_all : (old new : Desk S g) (texts : List (List ℕ)) (responses : List Response) → LeadsOn (Leads g) old texts responses new → IsSound g new →
      (content : SetupContent) (es : List Event) → StandsFor g content es old → AreAnswered (StandsFor g content) (AnswersNext content) es new texts responses
  answered_all old new [] [] same sound content es stands = record { each = tt; stands_now = subst (StandsFor g content es) (sym same) stands }
  answered_all old new [] (response ∷ responses) none sound content es stands = absurd none
  answered_all old new (text ∷ texts) [] none sound content es stands = absurd none
  answered_all old new (text ∷ texts) (response ∷ responses) (next, call, rest) sound content es stands =
      let one = call.delivers (sound_before next new texts responses rest sound) content es stands in
      let others = answered_all next new texts responses rest sound content (with_answered es text response) one.1 in
      record { each = (one.0, others.each); stands_now = others.stands_now }

  leaves_some : (content : SetupContent) (es : List Event) (old new : Desk S g) (text : List ℕ) (texts : List (List ℕ)) (response : Response) (responses : List Response) →
      LeadsOn (Leads g) old (text ∷ texts) (response ∷ responses) new → IsSound g new → StandsFor g content es old →
      LeavesAll content es (text ∷ texts) (response ∷ responses) (state g new.conn)
  leaves_some content es old new text [] response [] (next, call, same) sound stands =
      let there : IsSound g next = subst (IsSound g) same sound in
      subst (λ (desk : Desk S g). LeavesBehind content es text response (state g desk.conn)) (sym same) (call.crash (call.stays there) there.0 content es stands)
  leaves_some content es old new text [] response (other ∷ responses) (next, call, none) sound stands = absurd none
  leaves_some content es old new text (more ∷ texts) response [] (next, call, none) sound stands = absurd none
  leaves_some content es old new text (more ∷ texts) response (other ∷ responses) (next, call, rest) sound stands =
      let there = sound_before next new (more ∷ texts) (other ∷ responses) rest sound in
      leaves_some content (with_answered es text response) next new more texts other responses rest sound (call.delivers there content es stands).1

pub leaves_all : {S : Type 0} (g : Ghosts S) (old new : Desk S g) (texts : List (List ℕ)) (responses : List Response) → LeadsOn (Leads g) old texts responses new → IsSound g new →
    (content : SetupContent) (es : List Event) → StandsFor g content es old → Leaves content es (state g old.conn) → LeavesAll content es texts responses (state g new.conn)
leaves_all g old new [] [] same sound content es stands leaves = subst (λ (desk : Desk _ g). Leaves content es (state g desk.conn)) (sym same) leaves
leaves_all g old new [] (response ∷ responses) none sound content es stands leaves = absurd none
leaves_all g old new (text ∷ texts) [] none sound content es stands leaves = absurd none
leaves_all g old new (text ∷ texts) (response ∷ responses) calls sound content es stands leaves =
    leaves_some g content es old new text texts response responses calls sound stands
