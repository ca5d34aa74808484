-- The lists that texts that wait name, account by account and number by number.
use Rattle.std.specs.{Prelude.{Contains, IsPermutation, ◌==◌, count_by, IsSorted, ◌&&◌, nat_lt, find, string_bytes}, List.{range_with_len, flat_map}}
use Rattle.std.{specs.{List.Sorted.IsNonDecreasing, Ordering.nat_cmp, Option.option_map}, proofs.lemmas.List.Elements.Contains-get_or}
use Rattle.std.proofs.Common.{◌≡◌, ℕ, List, length, true, sym, ap, subst, ◌∙◌, zero, suc, ◌+◌, ◌<◌, ◌≤◌, inl, inr, [], ◌∷◌, ◌++◌, map, take, get_or, Bool, cond, refl, arith, Option, None, Some, Ok}
use Rattle.std.proofs.{lemmas.List.{nil_from_length, get_or-map, length-map, take_more, append-nil}, lemmas.List.FromFn.get_or-range_with_len}
use Rattle.std.proofs.lemmas.List.Sorted.{IsPermutation-sym, IsPermutation-trans, length_permutation, Contains-permutation, IsNonDecreasingBy-from_sort, IsPermutation-map, sum_by-IsPermutation, IsPermutation-append}
use Rattle.std.proofs.{lemmas.Bool.{cases_order, eqb-true, eq-eqb, and_parts, lt-ltb, ltb-true}, lemmas.List.Concat.flat_map-append}
use Rattle.sqlite_rules.{specs.Lists.Has, proofs.ListLemmas.{all_from, all_has, contains_had, has_filtered, has_contained, has_found, has_kept}}
use Rattle.sqlite_rules.proofs.ProbeLemmas.{has_mapped, mapped_has}
use Rattle.sqlite_trees.proofs.ListLemmas.{IsPermutation-filter, all-permutation, map-map}
use Rattle.edi_messages.specs.{Purposes.CallContent, declared.codes.PartnerKind.TheVariants.Gate, declared.codes.PartnerKind.PartnerKind}
use Rattle.terminal_core.specs.{Forms.{IsFormedLine, IsFormedPort, IsWellFormed}, State.{TerminalState, side_code}, declared.lines.LineState.TheVariants.Done}
use Rattle.terminal_core.{specs.{declared.lines.Side.Side, Versions.newest}, proofs.{Indexed.one_place, Whole.found_at}}
use Rattle.office_rows.specs.{ByKey.{AreListedOnce, lines_by}, Rows.{ListingContent, Rows, Partner, Interchange}, Shown.AreNexts, Effects.is_pair}
use Rattle.office_admission.specs.{Setups.{SetupContent, setup_content}, SetupAccounts.partner_kinds, declared.setup.Setup.Setup}
use Rattle.office_history.{specs.{After.AreKeptOnce, Cascade.text_in}, proofs.{ByKeys.{key_of, said}, Kept.{Rises, above, fewer, head_in, one_at, rising_same}}}
use Rattle.office_closing.specs.{Texts.IsOfList, Lists.SettledListContent, Found.list_on}
use Rattle.office_closing.specs.Going.{AreDone, GoesAs, IsAmong, IsDone, MayGo, lines_on, name_of, IsWaitedFor, lists_in}
use Rattle.office_closing.specs.Waiting.{AreWaitedFor, HasWaiting, HaveNexts, WaitsBeyond, lists_beyond, lists_if_any, lists_under}
use Rattle.office_closing.proofs.FoundLemmas.{own_list, line_under, sides_same, flat_has, has_flat}
use Rattle.office_parts.specs.{Bringing.is_of, OwnLists.{ListName, list_name}, Naming.interchange_lists}
use Rattle.sqlite.specs.State.{State}
use Rattle.office_tables.specs.Answers.{IsKept}
use Rattle.office_tables.specs.Reading.{Reads}
use Rattle.office_tables.specs.declared.interchanges.Kept.{Kept}
use Rattle.office_tables.specs.DeliveryReading.{OnlyReads}
use Rattle.office_tables.proofs.WriteLemmas.{one_read, only_on, only_then, text_kept}
use Rattle.office_loading.specs.Waiting.{is_waiting, waiting_in, waiting_numbers}
use Rattle.std.specs.FinMap as finite_map

-- ==== GoesLemmas: What is found of a terminal's lines is what may go from the rows.

-- ---- one list

done_along : (list : ListName) (xs ys : List ListingContent) → IsPermutation xs ys → IsDone xs list → IsDone ys list
done_along list xs ys same done =
    let on = IsPermutation-filter (is_of list) xs ys same in
    record {
      some = λ none. done.some (nil_from_length _ (sym (length_permutation _ _ on) ∙ ap (λ (l : List ListingContent). length l) none));
      done = all-permutation (λ (line : ListingContent). line.state ≡ Done) _ _ on done.done;
    }

-- each line of the list has its form, and is of the list
module _ (lines : List ListingContent) (state : TerminalState) (once : AreListedOnce lines) (are : state.lines ≡ lines_by lines) (formed : IsWellFormed state) where
  line_formed : (line : ListingContent) → Contains lines line → IsFormedLine line.call line.side line.container (said line)
  line_formed line inside =
      formed.lines line.call line.side line.container (said line)
      (ap (λ m. finite_map.get m (key_of line)) are ∙ line_under line lines once inside)

  of_list : (call : CallContent) (side : Side) (line : ListingContent) → Contains lines line → is_of (list_name call side) line ≡ true → line.state ≡ Done → IsOfList call side line
  of_list call side line inside is done =
      let name : list_name call side ≡ list_on line = own_list (list_name call side) line is in
      let vessel : call.vessel ≡ line.call.vessel = cc in
      let voyage : call.voyage ≡ line.call.voyage = cc in
      let code : side_code side ≡ side_code line.side = cc in
      let same : side ≡ line.side = sides_same side line.side code in
      let form = line_formed line inside in
      record {
        of_call = λ i. record { vessel = sym vessel i; voyage = sym voyage i };
        of_side = sym same;
        is_done = done;
        container_formed = form.container_formed;
        port_formed = subst (λ (s : Side). IsFormedPort s line.port) (sym same) form.port_formed;
      }

  pub goes_as : (content : SetupContent) (rows : Rows) (named : List ListName) (archive : ℕ) (found : List SettledListContent) → IsPermutation rows.lines lines → AreWaitedFor content rows named → AreDone lines named archive found
      → (one : SettledListContent) → Contains found one → GoesAs content rows one
  goes_as content rows named archive found same waited done one inside =
      let list = name_of one in
      let its : IsDone lines list = done.done one inside in
      record {
        may = record {
          done = done_along list lines rows.lines (IsPermutation-sym _ _ same) its;
          free = λ is. done.unnamed one inside ((waited list).1 is);
        };
        kept = lines_on list lines;
        is_text = (
          done.text one inside,
          all_from (IsOfList one.call one.side) (lines_on list lines) (λ line has.
              let own = has_filtered (is_of list) lines line has in
              of_list one.call one.side line (contains_had lines line own.0) own.1 (all_has (λ (l : ListingContent). l.state ≡ Done) (lines_on list lines) line its.done has)),
        );
        same = IsPermutation-filter (is_of list) rows.lines lines same;
      }

pub all_found : (content : SetupContent) (rows : Rows) (lines : List ListingContent) (named : List ListName) (archive : ℕ) (found : List SettledListContent) → IsPermutation rows.lines lines → AreWaitedFor content rows named → AreDone lines named archive found
    → (list : ListName) → MayGo content rows list → IsAmong found list
all_found content rows lines named archive found same waited done list may =
    done.all list (done_along list rows.lines lines same may.done) (λ inside. may.free ((waited list).0 inside))

-- ---- for a caller

-- each of these goes from the rows as it stands, and whatever list may go is among them
pub record AreToGo (content : SetupContent) (rows : Rows) (found : List SettledListContent) : Type 0 where
  pub go : (one : SettledListContent) → Contains found one → GoesAs content rows one
  pub all : (list : ListName) → MayGo content rows list → IsAmong found list

-- ==== AccountLemmas: Accounts by their ids 1, 2 and so on.

-- ---- numbers in order

abbrev is_one : ℕ → ℕ → Bool
is_one v x = x == v

-- numbers in order, none of them twice, rise
rise : (low : ℕ) (xs : List ℕ) → IsNonDecreasing xs → ((v : ℕ) → count_by (is_one v) xs ≤ 1) → ((x : ℕ) → Contains xs x → low < x) → Rises (λ x. x) low xs
rise low [] up once above = tt
rise low (x ∷ xs) up once above = (
  above x (head_in x xs),
  rise x xs (λ i j d before within. up (suc i) (suc j) d (omega (arith, before)) (omega (arith, within)))
      (λ v. fewer (is_one v) x xs (once v))
      (λ y inside. beyond y inside (subst (λ z. x ≤ z) inside.2 (up zero (suc inside.0) y (omega arith) (omega (arith, inside.1))))),
)
  where
    beyond : (y : ℕ) → Contains xs y → x ≤ y → x < y
    beyond y inside low = elim (cases_order x y) [
      | inl same ↦
          let bad : 0 ≡ suc inside.0 = one_place (is_one y) (x ∷ xs) 0 (suc inside.0) x y (once y) refl (found_at xs y inside) (eq-eqb x y same) (eq-eqb y y refl) in
          absurd (omega (arith, bad))
      | inr o ↦ elim o [ inl below ↦ below | inr above ↦ absurd (omega (arith, low, above)) ]
    ]

rises_from : (low a n : ℕ) → low < a → Rises (λ x. x) low (range_with_len a n)
rises_from low a zero below = tt
rises_from low a (suc n) below = (below, rises_from a (a + 1) n (omega arith))

-- the ids in order are 1, 2 and so on
in_range : (n : ℕ) (xs : List ℕ) → IsPermutation (range_with_len 1 n) xs → IsSorted nat_cmp xs → xs ≡ range_with_len 1 n
in_range n xs same sorted =
    let all = range_with_len 1 n in
    sym (rising_same (λ x. x) 0 all xs (rises_from 0 1 n (omega arith))
    (rise 0 xs (IsNonDecreasingBy-from_sort (λ x. x) xs sorted)
    (λ v. subst (λ k. k ≤ 1) (sym (sum_by-IsPermutation (λ x. cond (x == v) 1 0) all xs same)) (one_at (λ x. x) (is_one v) v (λ x e. eqb-true x v e) 0 all (rises_from 0 1 n (omega arith))))
    (λ x inside. above (λ x. x) 0 all x (rises_from 0 1 n (omega arith)) (Contains-permutation xs all x (IsPermutation-sym all xs same) inside)))
    same)

-- ---- the accounts

abbrev pub id_of : Partner → ℕ
id_of p = p.id

-- the accounts by id are those of the rows, and numbered from 1
pub record AreById (rows : Rows) (nexts : List ℕ) (by_id : List Partner) : Type 0 where
  pub same : IsPermutation rows.partners by_id
  pub next_numbers : nexts ≡ map (λ (p : Partner). p.next) by_id
  pub ids : map id_of by_id ≡ range_with_len 1 (length by_id)

pub accounts_by_id : (rows : Rows) (nexts : List ℕ) → map id_of rows.partners ≡ range_with_len 1 (length rows.partners) → (are : AreNexts rows nexts) → AreById rows nexts are.0
accounts_by_id rows nexts accounts are =
    let by_id = are.0 in
    let placed : IsPermutation (range_with_len 1 (length rows.partners)) (map id_of by_id) = subst (λ l. IsPermutation l (map id_of by_id)) accounts (IsPermutation-map id_of rows.partners by_id are.1) in
    let count : length by_id ≡ length rows.partners = length_permutation rows.partners by_id are.1 in
    record {
      same = are.1;
      next_numbers = are.3;
      ids = in_range (length rows.partners) (map id_of by_id) placed are.2 ∙ ap (range_with_len 1) (sym count);
    }

rises_of : {A : Type 0} (key : A → ℕ) (low : ℕ) (xs : List A) → Rises (λ x. x) low (map key xs) → Rises key low xs
rises_of key low [] up = tt
rises_of key low (x ∷ xs) up = (up.0, rises_of key (key x) xs up.1)

by_id_rises : (by_id : List Partner) → map id_of by_id ≡ range_with_len 1 (length by_id) → Rises id_of 0 by_id
by_id_rises by_id ids = rises_of id_of 0 by_id (subst (Rises (λ x. x) 0) (sym ids) (rises_from 0 1 (length by_id) (omega arith)))

-- accounts with these ids have their next numbers in one way
pub one_nexts : (rows : Rows) (nexts others : List ℕ) → map id_of rows.partners ≡ range_with_len 1 (length rows.partners) → AreNexts rows nexts → AreNexts rows others → nexts ≡ others
one_nexts rows nexts others accounts these those =
    let one = accounts_by_id rows nexts accounts these in
    let other = accounts_by_id rows others accounts those in
    let same : these.0 ≡ those.0 = rising_same id_of 0 these.0 those.0 (by_id_rises these.0 one.ids) (by_id_rises those.0 other.ids) (IsPermutation-trans _ _ _ (IsPermutation-sym rows.partners these.0 one.same) other.same) in
    one.next_numbers ∙ ap (map (λ (p : Partner). p.next)) same ∙ sym other.next_numbers

-- ---- one more of them

-- the account at that index
pub record IsAccountAt (by_id : List Partner) (index next : ℕ) : Type 0 where
  pub account : Partner
  pub inside : Contains by_id account
  pub more : take (index + 1) by_id ≡ take index by_id ++ account ∷ []
  pub has_id : account.id ≡ index + 1
  pub has_next : account.next ≡ next

abbrev no_account : Partner
no_account = record { id = 0; code = []; kind = Gate; next = 0 }

pub many_accounts : (rows : Rows) (nexts : List ℕ) → HaveNexts rows nexts → length nexts ≡ length rows.partners
many_accounts rows nexts have = ap length have.are.3 ∙ length-map have.are.0 _ ∙ length_permutation rows.partners have.are.0 have.are.1

pub as_many : (rows : Rows) (nexts : List ℕ) (by_id : List Partner) → AreById rows nexts by_id → length nexts ≡ length by_id
as_many rows nexts by_id are = ap length are.next_numbers ∙ length-map by_id _

pub account_at : (rows : Rows) (nexts : List ℕ) (by_id : List Partner) (index : ℕ) → AreById rows nexts by_id → index < length nexts → IsAccountAt by_id index (get_or nexts index 0)
account_at rows nexts by_id index are within =
    let low : index < length by_id = omega (arith, within, as_many rows nexts by_id are) in
    let account = get_or by_id index no_account in
    record {
      account = account;
      inside = Contains-get_or by_id index no_account low;
      more = take_more by_id index no_account low;
      has_id =
          let number : get_or (map id_of by_id) index 0 ≡ 1 + index = ap (λ l. get_or l index 0) are.ids ∙ get_or-range_with_len 1 (length by_id) index 0 low in
          let own : get_or (map id_of by_id) index 0 ≡ account.id = get_or-map id_of by_id index no_account 0 low in
          omega (arith, number, own);
      has_next = sym (ap (λ l. get_or l index 0) are.next_numbers ∙ get_or-map (λ (p : Partner). p.next) by_id index no_account 0 low);
    }

-- a text of the account at that index waits
pub has_waiting : (rows : Rows) (nexts : List ℕ) (by_id : List Partner) → AreById rows nexts by_id → (index next : ℕ) → IsAccountAt by_id index next → WaitsBeyond (index + 1) next rows → HasWaiting rows
has_waiting rows nexts by_id are index next one waits = record {
  account = one.account;
  has = Contains-permutation by_id rows.partners one.account (IsPermutation-sym rows.partners by_id are.same) one.inside;
  waits =
      subst (λ n. WaitsBeyond n one.account.next rows) (sym one.has_id)
      (subst (λ n. WaitsBeyond (index + 1) n rows) (sym one.has_next) waits);
}

-- ==== WaitingLemmas: The lists that texts that wait name, account by account and number by number.

-- ---- one text

-- what the partner's text names, by the set-up's codes and kinds
pub named_under : (setup : Setup) (rows : Rows) (partner number sender : ℕ) (kept : Kept) (text : List ℕ) (lists : List ListName) → AreKeptOnce rows.interchanges → IsKept partner number rows (Some kept) → sender ≡ partner → text ≡ kept.text.items
    → lists ≡ interchange_lists newest setup.codes (partner_kinds setup.partners.items) sender text → lists ≡ lists_under (setup_content setup) rows partner number
named_under setup rows partner number sender kept text lists once is its same named =
    named
    ∙ ap (λ p. interchange_lists newest setup.codes (partner_kinds setup.partners.items) p text) its
    ∙ ap (λ kinds. interchange_lists newest setup.codes kinds partner text) (sym (map-map (λ (account : List ℕ × PartnerKind). account.1) (λ account. (string_bytes account.code, account.kind)) setup.partners.items))
    ∙ ap (lists_in (setup_content setup) partner) same
    ∙ ap (lists_if_any (setup_content setup) partner) (sym (text_kept partner number rows kept once is))

-- ---- one account

abbrev pub account_lists : SetupContent → Rows → Partner → List ListName
account_lists content rows account = lists_beyond content rows account.id account.next

-- those of one account more
pub lists_more : (content : SetupContent) (rows : Rows) (before after : List Partner) (account : Partner) (partner next : ℕ) (lists more all : List ListName) → after ≡ before ++ account ∷ [] → account.id ≡ partner → account.next ≡ next
    → IsPermutation (flat_map (account_lists content rows) before) lists → IsPermutation (lists_beyond content rows partner next) more → all ≡ lists ++ more
    → IsPermutation (flat_map (account_lists content rows) after) all
lists_more content rows before after account partner next lists more all one has_id has_next earlier own is =
    let here : account_lists content rows account ≡ lists_beyond content rows partner next = ap (λ p. lists_beyond content rows p account.next) has_id ∙ ap (lists_beyond content rows partner) has_next in
    let whole : flat_map (account_lists content rows) after ≡ flat_map (account_lists content rows) before ++ lists_beyond content rows partner next =
    ap (flat_map (account_lists content rows)) one
    ∙ flat_map-append (account_lists content rows) before (account ∷ [])
    ∙ ap (λ l. flat_map (account_lists content rows) before ++ l) (append-nil (account_lists content rows account) ∙ here) in
    subst (λ l. IsPermutation l all) (sym whole) (subst (IsPermutation (flat_map (account_lists content rows) before ++ lists_beyond content rows partner next)) (sym is) (IsPermutation-append _ _ _ _ earlier own))

-- ---- all of them

some_text : (content : SetupContent) (partner : ℕ) (o : Option (List ℕ)) (list : ListName) → Has (lists_if_any content partner o) list → (text : List ℕ) × (o ≡ Some text) × Has (lists_in content partner text) list
some_text content partner None list has = absurd has
some_text content partner (Some text) list has = (text, refl, has)

body_in : (o : Option Interchange) (text : List ℕ) → option_map (λ (i : Interchange). i.body) o ≡ Some text → (i : Interchange) × (o ≡ Some i)
body_in None text e = absurd cc
body_in (Some i) text e = (i, refl)

module _ (content : SetupContent) (rows : Rows) where
  waits_for : (account : Partner) (list : ListName) → Contains rows.partners account → Has (account_lists content rows account) list → IsWaitedFor content rows list
  waits_for account list inside has =
      let at = flat_has (lists_under content rows account.id) (waiting_numbers account.id account.next rows) list has in
      let text = some_text content account.id (text_in rows account.id at.0) list at.2 in
      let kept = has_mapped (λ (i : Interchange). i.number) (waiting_in account.id account.next rows) at.0 at.1 in
      let own = has_filtered (is_waiting account.id account.next) rows.interchanges kept.0 kept.1 in
      let far : account.next < kept.0.number = ltb-true account.next kept.0.number (and_parts (kept.0.partner == account.id) (nat_lt account.next kept.0.number) own.1).1 in
      record {
        partner = account.id;
        number = at.0;
        text = text.0;
        waits = record {
          account = account;
          has = inside;
          is_its = refl;
          beyond = subst (λ n. account.next < n) (sym kept.2) far;
          kept = text.1;
        };
        names = contains_had _ _ text.2;
      }

  is_there : (account : Partner) (number : ℕ) (text : List ℕ) (list : ListName) → account.next < number → text_in rows account.id number ≡ Some text → Contains (lists_in content account.id text) list → Has (account_lists content rows account) list
  is_there account number text list beyond kept names =
      let i = body_in (find (is_pair account.id number) rows.interchanges) text kept in
      let here = has_found (is_pair account.id number) rows.interchanges i.0 i.1 in
      let pair = and_parts (i.0.partner == account.id) (i.0.number == number) here.1 in
      let its : i.0.number ≡ number = eqb-true i.0.number number pair.1 in
      let waits : is_waiting account.id account.next i.0 ≡ true =
      ap (λ b. b && nat_lt account.next i.0.number) pair.0 ∙ lt-ltb account.next i.0.number (omega (arith, beyond, its)) in
      let waiting : Has (waiting_numbers account.id account.next rows) number =
      subst (Has (waiting_numbers account.id account.next rows)) its (mapped_has (λ (i : Interchange). i.number) (waiting_in account.id account.next rows) i.0 (has_kept (is_waiting account.id account.next) rows.interchanges i.0 here.0 waits)) in
      has_flat (lists_under content rows account.id) (waiting_numbers account.id account.next rows) number list waiting
      (subst (λ o. Has (lists_if_any content account.id o) list) (sym kept) (has_contained _ _ names))

  -- those of all accounts are those that wait
  pub waited_for : (nexts : List ℕ) (by_id : List Partner) (lists : List ListName) → AreById rows nexts by_id → IsPermutation (flat_map (account_lists content rows) by_id) lists → AreWaitedFor content rows lists
  waited_for nexts by_id lists are same list = (
    λ inside.
        let of = flat_has (account_lists content rows) by_id list (has_contained _ _ (Contains-permutation lists _ list (IsPermutation-sym _ lists same) inside)) in
        waits_for of.0 list (Contains-permutation by_id rows.partners of.0 (IsPermutation-sym rows.partners by_id are.same) (contains_had by_id of.0 of.1)) of.2,
    λ waited.
        let account = waited.waits.account in
        let kept : text_in rows account.id waited.number ≡ Some waited.text = ap (λ p. text_in rows p waited.number) waited.waits.is_its ∙ waited.waits.kept in
        let names : Contains (lists_in content account.id waited.text) list = subst (λ p. Contains (lists_in content p waited.text) list) (sym waited.waits.is_its) waited.names in
        Contains-permutation _ lists list same
        (contains_had _ _ (has_flat (account_lists content rows) by_id account list
        (has_contained by_id account (Contains-permutation rows.partners by_id account are.same waited.waits.has))
        (is_there account waited.number waited.text list waited.waits.beyond kept names))),
  )

-- ---- one number more

pub numbers_more : {A : Type 0} (f : ℕ → List A) (all : List ℕ) (i : ℕ) → i < length all → flat_map f (take i all) ++ f (get_or all i 0) ≡ flat_map f (take (i + 1) all)
numbers_more f all i low =
    ap (λ l. flat_map f (take i all) ++ l) (sym (append-nil (f (get_or all i 0))))
    ∙ sym (flat_map-append f (take i all) (get_or all i 0 ∷ []))
    ∙ ap (flat_map f) (sym (take_more all i 0 low))

-- ---- reading

-- one read more
pub one_more : {X Y Z : Type 0} {a b c : State} {x : X} {y : Y} (z : Z) → OnlyReads a b (Ok x) → Reads b c (Ok y) → OnlyReads a c (Ok z)
one_more z p q = only_on (Ok z) (only_then p (one_read q))
