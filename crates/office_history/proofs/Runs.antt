-- What taking a run of interchanges makes of the rows.
use Rattle.std.specs.{Prelude.{find, ◌&&◌, ◌==◌, count_by, if◌then◌else◌, slice_index_or}, Option.{option_map, option_and_then}, List.Sorted.IsSortedBy}
use Rattle.std.{specs.{Cmp.IsTotalOrder, Cmp.Lexicographic.slice_cmp, Ordering.{on, nat_cmp, int_cmp, ordering_reverse}}, proofs.lemmas.Int.ints}
use Rattle.std.proofs.Common.{◌≡◌, ◌≢◌, ℕ, ◌+◌, ◌≤◌, List, [], ◌∷◌, length, map, Bool, true, false, cond, Option, None, Some, is_some, refl, sym, ap, subst, ◌∙◌, arith, pos, zero, suc, ◌<◌, ap₂, Ordering, Less, Equal, Greater, is_lt, add-one, IsPermutation}
use Rattle.std.proofs.{lemmas.Bool.{and_parts, eq-eqb, eqb-true, eqb-false, ne_eqb, cond-true, cond-false}, lemmas.Cmp.{on_total, then_total}}
use Rattle.std.proofs.lemmas.List.Sorted.{IsPermutation-refl, IsPermutation-cons, IsPermutation-sym, IsPermutation-trans, IsPermutation-middle, IsPermutation-map}
use Rattle.edi_syntax.specs.{Moments.CivilMoment, Text.Content, Interchange.segments_in, Envelope.header_of, Header.preparation}
use Rattle.edi_messages.specs.declared.codes.PartnerKind.{PartnerKind}
use Rattle.partner_core.{specs.{Numbered.with_number, Cascade.TakesTexts}, proofs.Keepings.takes_one_more}
use Rattle.terminal_core.specs.{Rows.{ChangeContent, visit_opened}, State.IsWhole, Changes.{TerminalRows, rows_of, rows_with_all, AreApplicable}}
use Rattle.terminal_core.proofs.Indexed.{found_is}
use Rattle.office_admission.{specs.Admission.{admission, is_for}, proofs.Takings.interchange_leads}
use Rattle.office_admission.specs.Taking.{MachineState, interchange_taken, interchange_changes, nothing_taken, taken_of, taken_at}
use Rattle.office_replies.proofs.Ready.{reply_is_some}
use Rattle.office_rows.specs.{Rows.{Partner, Interchange, Rows}, Effects.{is_pair, with_change}, Values.number_value, Stored.Holds}
use Rattle.office_rows.specs.Shown.{columns_at, ShowsTable}
use Rattle.office_history.specs.{After.{accounts_from, reply_if_any, reply_in, AreKeptOnce}, Laws.AreRowsByKey}
use Rattle.office_history.specs.Cascade.{text_in, TakenContent, with_changes, with_interchange, with_interchanges, AreTakenFrom}
use Rattle.office_history.proofs.ByKeys.{changes_agree, count_mapped, find_mapped}
use Rattle.sqlite.specs.{declared.types.Value.TheVariants.Text, Collation.TheVariants.Binary, Order.{Row, column}, Table.Table, Effect.Database, Query.key_cmp}
use Rattle.sqlite_value.{specs.{Keys.ascending, Order.value_cmp}, proofs.OrderLemmas.{value_cmp_total, value_cmp-Int, value_cmp-Text}}

-- ---- what changes leave alone

pub record SameBeside (old new : Rows) : Type 0 where
  pub partners : new.partners ≡ old.partners
  interchanges : new.interchanges ≡ old.interchanges
  settings : new.settings ≡ old.settings
  blocks : new.blocks ≡ old.blocks

one_beside : (rows : Rows) (change : ChangeContent) → SameBeside rows (with_change change rows)
one_beside rows (visit_opened visit) = record { partners = refl; interchanges = refl; settings = refl; blocks = refl }
one_beside rows change = record { partners = refl; interchanges = refl; settings = refl; blocks = refl }

pub changes_beside : (changes : List ChangeContent) (rows : Rows) → SameBeside rows (with_changes changes rows)
changes_beside [] rows = record { partners = refl; interchanges = refl; settings = refl; blocks = refl }
changes_beside (change ∷ changes) rows =
    let one = one_beside rows change in
    let rest = changes_beside changes (with_change change rows) in
    record { partners = rest.partners ∙ one.partners; interchanges = rest.interchanges ∙ one.interchanges; settings = rest.settings ∙ one.settings; blocks = rest.blocks ∙ one.blocks }

-- ---- one interchange with its reply

abbrev replied : ℕ → ℕ → List ℕ → Interchange → Interchange
replied p n reply i = cond (is_pair p n i) (record i { reply = reply }) i

same_pair : (own : Bool) (reply : List ℕ) (q k : ℕ) (i : Interchange) → is_pair q k (cond own (record i { reply = reply }) i) ≡ is_pair q k i
same_pair true reply q k i = refl
same_pair false reply q k i = refl

same_body : (own : Bool) (reply : List ℕ) (i : Interchange) → (cond own (record i { reply = reply }) i).body ≡ i.body
same_body true reply i = refl
same_body false reply i = refl

body_of : (o : Option Interchange) (p n : ℕ) (reply : List ℕ) → option_map (λ (i : Interchange). i.body) (option_map (replied p n reply) o) ≡ option_map (λ (i : Interchange). i.body) o
body_of None p n reply = refl
body_of (Some i) p n reply = ap Some (same_body (is_pair p n i) reply i)

text_kept : (interchanges : List Interchange) (p n : ℕ) (reply : List ℕ) (q k : ℕ)
    → option_map (λ (i : Interchange). i.body) (find (is_pair q k) (map (replied p n reply) interchanges)) ≡ option_map (λ (i : Interchange). i.body) (find (is_pair q k) interchanges)
text_kept interchanges p n reply q k =
    ap (option_map (λ (i : Interchange). i.body)) (find_mapped (is_pair q k) (replied p n reply) (λ i. same_pair (is_pair p n i) reply q k i) interchanges)
    ∙ body_of (find (is_pair q k) interchanges) p n reply

abbrev reply_there : Option Interchange → Option (List ℕ)
reply_there o = option_and_then (λ (i : Interchange). reply_if_any i.reply) o

pub pair_of : (p n : ℕ) (i : Interchange) → is_pair p n i ≡ true → (i.partner ≡ p) × (i.number ≡ n)
pair_of p n i e = let parts = and_parts (i.partner == p) (i.number == n) e in (eqb-true i.partner p parts.0, eqb-true i.number n parts.1)

pub is_pair_at : (p n : ℕ) (i : Interchange) → i.partner ≡ p → i.number ≡ n → is_pair p n i ≡ true
is_pair_at p n i a b = ap (λ v. v && (i.number == n)) (eq-eqb i.partner p a) ∙ eq-eqb i.number n b

some_reply : (reply : List ℕ) → reply ≢ [] → reply_if_any reply ≡ Some reply
some_reply [] h = absurd (h refl)
some_reply (b ∷ bytes) h = refl

-- the reply of the one that got it
own_reply : (interchanges : List Interchange) (p n : ℕ) (reply : List ℕ) (o : Option Interchange) → find (is_pair p n) interchanges ≡ o → is_some o ≡ true → reply ≢ []
    → reply_there (option_map (replied p n reply) o) ≡ Some reply
own_reply interchanges p n reply None e there said = cc
own_reply interchanges p n reply (Some i) e there said =
    ap (λ b. reply_if_any (cond b (record i { reply = reply }) i).reply) (found_is (is_pair p n) interchanges i e).2 ∙ some_reply reply said

other_reply : (interchanges : List Interchange) (p n : ℕ) (reply : List ℕ) (q k : ℕ) (o : Option Interchange) → find (is_pair q k) interchanges ≡ o → (q ≡ p → k ≡ n → ⊥)
    → reply_there (option_map (replied p n reply) o) ≡ reply_there o
other_reply interchanges p n reply q k None e apart = refl
other_reply interchanges p n reply q k (Some i) e apart = other (is_pair p n i) refl
  where
    other : (own : Bool) → is_pair p n i ≡ own → reply_if_any (cond (is_pair p n i) (record i { reply = reply }) i).reply ≡ reply_if_any i.reply
    other true at =
        let here = pair_of q k i (found_is (is_pair q k) interchanges i e).2 in
        let there = pair_of p n i at in
        absurd (apart (sym here.0 ∙ there.0) (sym here.1 ∙ there.1))
    other false at = ap (λ b. reply_if_any (cond b (record i { reply = reply }) i).reply) at

replies_found : (interchanges : List Interchange) (p n : ℕ) (reply : List ℕ) (q k : ℕ) → find (is_pair q k) (map (replied p n reply) interchanges) ≡ option_map (replied p n reply) (find (is_pair q k) interchanges)
replies_found interchanges p n reply q k = find_mapped (is_pair q k) (replied p n reply) (λ i. same_pair (is_pair p n i) reply q k i) interchanges

-- ---- the partners' next numbers

with_next_from : (id p next : ℕ) (f : ℕ → ℕ) (accounts : List (List ℕ × PartnerKind))
    → map (λ (a : Partner). cond (a.id == p) (record a { next = next }) a) (accounts_from id f accounts) ≡ accounts_from id (λ q. if q == p then next else f q) accounts
with_next_from id p next f [] = refl
with_next_from id p next f (account ∷ accounts) =
    ap (λ a. a ∷ map (λ (a : Partner). cond (a.id == p) (record a { next = next }) a) (accounts_from (id + 1) f accounts)) (one (id == p))
    ∙ ap (λ l. (record { id = id; code = account.0; kind = account.1; next = if id == p then next else f id }) ∷ l) (with_next_from (id + 1) p next f accounts)
  where
    one : (b : Bool) → ◌≡◌ {A = Partner} (cond b (record { id = id; code = account.0; kind = account.1; next = next }) (record { id = id; code = account.0; kind = account.1; next = f id }))
        (record { id = id; code = account.0; kind = account.1; next = cond b next (f id) })
    one true = refl
    one false = refl

-- ---- a reply says something

said_at : (machine : MachineState) (partner : ℕ) (kind : PartnerKind) (segments : List Content) (opened : Option CivilMoment) → (taken_at machine partner kind segments opened).1 ≢ []
said_at machine partner kind segments None = reply_is_some [] []
said_at machine partner kind segments (Some opened) = reply_is_some _ _

said_of : (machine : MachineState) (partner : ℕ) (segments : List Content) (kind : Option PartnerKind) → (taken_of machine partner segments kind).1 ≢ []
said_of machine partner segments None = reply_is_some [] []
said_of machine partner segments (Some kind) = said_at machine partner kind segments (preparation (header_of segments))

said_if : (machine : MachineState) (is : Bool) (taken : MachineState × List ℕ) → taken.1 ≢ [] → (cond is taken (nothing_taken machine)).1 ≢ []
said_if machine true taken h = h
said_if machine false taken h = reply_is_some [] []

pub reply_says : (machine : MachineState) (partner : ℕ) (text : List ℕ) → (interchange_taken machine partner text).1 ≢ []
reply_says machine partner text =
    said_if machine (is_for partner (admission machine.parties text)) (taken_of machine partner (segments_in text) (with_number machine.kinds partner)) (said_of machine partner (segments_in text) (with_number machine.kinds partner))

-- ---- an interchange

-- what taking one interchange leaves of the rows
record LeavesOne (p number : ℕ) (reply : List ℕ) (terminal : TerminalRows) (old new : Rows) : Type 0 where
  by_key : AreRowsByKey new terminal
  texts : (q k : ℕ) → text_in new q k ≡ text_in old q k
  own : (k : ℕ) → reply_in new p k ≡ (if number == k then Some reply else reply_in old p k)
  other : (q k : ℕ) → q ≢ p → reply_in new q k ≡ reply_in old q k
  once : AreKeptOnce new.interchanges
  partners : new.partners ≡ map (λ (a : Partner). cond (a.id == p) (record a { next = number + 1 }) a) old.partners
  settings : new.settings ≡ old.settings
  blocks : new.blocks ≡ old.blocks

some_text : (o : Option Interchange) (text : List ℕ) → option_map (λ (i : Interchange). i.body) o ≡ Some text → is_some o ≡ true
some_text None text e = cc
some_text (Some i) text e = refl

leaves_one : (p : ℕ) (t : TakenContent) (machine : MachineState) (text : List ℕ) (rows : Rows) → IsWhole machine.terminal → AreRowsByKey rows (rows_of machine.terminal) → AreKeptOnce rows.interchanges
    → text_in rows p t.number ≡ Some text → t.reply ≡ (interchange_taken machine p text).1 → t.changes ≡ interchange_changes machine p text
    → LeavesOne p t.number t.reply (rows_of (interchange_taken machine p text).0.terminal) rows (with_interchange p t rows)
leaves_one p t machine text rows whole are once there replies changes =
    let beside = changes_beside t.changes rows in
    let leads = interchange_leads machine p text whole in
    let after = with_changes t.changes rows in
    let terminal : TerminalRows = rows_of (interchange_taken machine p text).0.terminal in
    let by_key : AreRowsByKey after terminal =
    subst (λ r. AreRowsByKey after r) (ap (rows_with_all (rows_of machine.terminal)) changes ∙ leads.turned)
    (changes_agree t.changes rows (rows_of machine.terminal) are (subst (λ c. AreApplicable (rows_of machine.terminal) c) (sym changes) leads.applicable)) in
    let said : t.reply ≢ [] = λ none. reply_says machine p text (sym replies ∙ none) in
    let same : (q k : ℕ) → find (is_pair q k) (map (replied p t.number t.reply) after.interchanges) ≡ option_map (replied p t.number t.reply) (find (is_pair q k) rows.interchanges) =
    λ q k. ap (λ l. find (is_pair q k) (map (replied p t.number t.reply) l)) beside.interchanges ∙ replies_found rows.interchanges p t.number t.reply q k in
    record {
      by_key = record { same = by_key.same; placed_once = by_key.placed_once; listed_once = by_key.listed_once };
      texts = λ q k. ap (λ l. option_map (λ (i : Interchange). i.body) (find (is_pair q k) (map (replied p t.number t.reply) l))) beside.interchanges ∙ text_kept rows.interchanges p t.number t.reply q k;
      own = λ k. ap reply_there (same p k) ∙ own_at k (t.number == k) refl said;
      other = λ q k apart. ap reply_there (same q k) ∙ other_reply rows.interchanges p t.number t.reply q k (find (is_pair q k) rows.interchanges) refl (λ a b. apart a);
      once = λ q k. subst (λ n. n ≤ 1) (sym (ap (λ l. count_by (is_pair q k) (map (replied p t.number t.reply) l)) beside.interchanges ∙ count_mapped (is_pair q k) (replied p t.number t.reply) (λ i. same_pair (is_pair p t.number i) t.reply q k i) rows.interchanges)) (once q k);
      partners = ap (map (λ (a : Partner). cond (a.id == p) (record a { next = t.number + 1 }) a)) beside.partners;
      settings = beside.settings;
      blocks = beside.blocks;
    }
  where
    own_at : (k : ℕ) (is : Bool) → (t.number == k) ≡ is → t.reply ≢ [] → reply_there (option_map (replied p t.number t.reply) (find (is_pair p k) rows.interchanges)) ≡ cond is (Some t.reply) (reply_in rows p k)
    own_at k true e said =
        let here : t.number ≡ k = eqb-true t.number k e in
        ap (λ n. reply_there (option_map (replied p t.number t.reply) (find (is_pair p n) rows.interchanges))) (sym here)
        ∙ own_reply rows.interchanges p t.number t.reply (find (is_pair p t.number) rows.interchanges) refl (some_text (find (is_pair p t.number) rows.interchanges) text there) said
    own_at k false e said = other_reply rows.interchanges p t.number t.reply p k (find (is_pair p k) rows.interchanges) refl (λ a b. eqb-false t.number k e (sym b))

-- ---- a run

pub record RunLeaves (p : ℕ) (texts : ℕ → Option (List ℕ)) (count last : ℕ) (replies : ℕ → Option (List ℕ)) (first : MachineState) (accounts : List (List ℕ × PartnerKind)) (next : ℕ → ℕ) (old new : Rows) (machine' : MachineState) : Type 0 where
  pub by_key : AreRowsByKey new (rows_of machine'.terminal)
  pub whole : IsWhole machine'.terminal
  pub texts_same : (q k : ℕ) → text_in new q k ≡ text_in old q k
  pub takes : TakesTexts interchange_taken p texts count last replies (reply_in new p) first machine'
  pub other : (q k : ℕ) → q ≢ p → reply_in new q k ≡ reply_in old q k
  pub once : AreKeptOnce new.interchanges
  pub nexts : ℕ → ℕ
  pub partners : new.partners ≡ accounts_from 1 nexts accounts
  pub own_next : nexts p ≡ last + 1
  pub other_next : (q : ℕ) → q ≢ p → nexts q ≡ next q
  pub settings : new.settings ≡ old.settings
  pub blocks : new.blocks ≡ old.blocks
  pub ends : texts (last + 1) ≡ None

pub run_leaves : (taken : List TakenContent) (p : ℕ) (texts : ℕ → Option (List ℕ)) (count last : ℕ) (replies : ℕ → Option (List ℕ)) (first machine machine' : MachineState)
    (accounts : List (List ℕ × PartnerKind)) (next : ℕ → ℕ) (rows : Rows)
    → TakesTexts interchange_taken p texts count last replies (reply_in rows p) first machine
    → AreTakenFrom p texts (last + 1) machine taken machine'
    → IsWhole machine.terminal → AreRowsByKey rows (rows_of machine.terminal) → AreKeptOnce rows.interchanges
    → ((k : ℕ) → text_in rows p k ≡ texts k) → ((k : ℕ) → last + 1 ≤ k → reply_in rows p k ≡ None)
    → rows.partners ≡ accounts_from 1 next accounts → next p ≡ last + 1
    → RunLeaves p texts count (last + length taken) replies first accounts next rows (with_interchanges p taken rows) machine'
run_leaves [] p texts count last replies first machine machine' accounts next rows takes from whole are once same free partners here =
    let end : last + 0 ≡ last = omega arith in
    record {
      by_key = subst (λ (m : MachineState). AreRowsByKey rows (rows_of m.terminal)) (sym from.1) are;
      whole = subst (λ (m : MachineState). IsWhole m.terminal) (sym from.1) whole;
      texts_same = λ q k. refl;
      takes = subst (λ n. TakesTexts interchange_taken p texts count n replies (reply_in rows p) first machine') (sym end)
          (subst (λ (m : MachineState). TakesTexts interchange_taken p texts count last replies (reply_in rows p) first m) (sym from.1) takes);
      other = λ q k apart. refl;
      once = once;
      nexts = next;
      partners = partners;
      own_next = here ∙ ap (λ n. n + 1) (sym end);
      other_next = λ q apart. refl;
      settings = refl;
      blocks = refl;
      ends = ap (λ n. texts (n + 1)) end ∙ from.0;
    }
run_leaves (t ∷ taken) p texts count last replies first machine machine' accounts next rows takes from whole are once same free partners here =
    let text : List ℕ = from.0 in
    let there : texts (last + 1) ≡ Some text = from.1 in
    let number : t.number ≡ last + 1 = from.2 in
    let reply : t.reply ≡ (interchange_taken machine p text).1 = from.3 in
    let changes : t.changes ≡ interchange_changes machine p text = from.4 in
    let machine1 : MachineState = (interchange_taken machine p text).0 in
    let held : text_in rows p t.number ≡ Some text = same t.number ∙ ap texts number ∙ there in
    let one = leaves_one p t machine text rows whole are once held reply changes in
    let rows1 = with_interchange p t rows in
    let replies1 : (k : ℕ) → reply_in rows1 p k ≡ (if last + 1 == k then Some (interchange_taken machine p text).1 else reply_in rows p k) =
    λ k. one.own k ∙ ap (λ n. if n == k then Some t.reply else reply_in rows p k) number ∙ ap (λ r. if last + 1 == k then Some r else reply_in rows p k) reply in
    let takes1 = takes_one_more interchange_taken p texts count last replies (reply_in rows p) (reply_in rows1 p) first machine text takes there (free (last + 1) (omega arith)) replies1 in
    let next1 : ℕ → ℕ = λ q. if q == p then t.number + 1 else next q in
    let rest = run_leaves taken p texts count (last + 1) replies first machine1 machine' accounts next1 rows1 takes1 from.5 (interchange_leads machine p text whole).whole one.by_key one.once
    (λ k. one.texts p k ∙ same k)
    (λ k later. replies1 k ∙ cond-false (last + 1 == k) (Some (interchange_taken machine p text).1) (reply_in rows p k) (ne_eqb (last + 1) k (λ e. absurd (omega arith))) ∙ free k (omega arith))
    (one.partners ∙ ap (map (λ (a : Partner). cond (a.id == p) (record a { next = t.number + 1 }) a)) partners ∙ with_next_from 1 p (t.number + 1) next accounts)
    (cond-true (p == p) (t.number + 1) (next p) (eq-eqb p p refl) ∙ ap (λ n. n + 1) number) in
    let end : last + 1 + length taken ≡ last + length (t ∷ taken) = omega arith in
    subst (λ n. RunLeaves p texts count n replies first accounts next rows (with_interchanges p (t ∷ taken) rows) machine') end
    (record {
      by_key = rest.by_key;
      whole = rest.whole;
      texts_same = λ q k. rest.texts_same q k ∙ one.texts q k;
      takes = rest.takes;
      other = λ q k apart. rest.other q k apart ∙ one.other q k apart;
      once = rest.once;
      nexts = rest.nexts;
      partners = rest.partners;
      own_next = rest.own_next;
      other_next = λ q apart. rest.other_next q apart ∙ cond-false (q == p) (t.number + 1) (next q) (ne_eqb q p apart);
      settings = rest.settings ∙ one.settings;
      blocks = rest.blocks ∙ one.blocks;
      ends = rest.ends;
    })

-- ==== Sorting: Rows in the order of their keys, and what the queries of all rows show of them.

-- ---- lists in order

abbrev pub NotAbove : {A : Type 0} → (A → A → Bool) → A → List A → Type 0
NotAbove lt x [] = Unit {0}
NotAbove lt x (y ∷ xs) = lt y x ≡ false

-- none is less than the one before it
abbrev pub InTurn : {A : Type 0} → (A → A → Bool) → List A → Type 0
InTurn lt [] = Unit {0}
InTurn lt (x ∷ xs) = NotAbove lt x xs × InTurn lt xs

adjacent : {A : Type 0} (lt : A → A → Bool) (xs : List A) → InTurn lt xs → (k : ℕ) (d : A) → suc k < length xs → lt (slice_index_or xs (suc k) d) (slice_index_or xs k d) ≡ false
adjacent lt [] turn k d within = absurd (omega arith)
adjacent lt (x ∷ []) turn k d within = absurd (omega arith)
adjacent lt (x ∷ y ∷ xs) turn zero d within = turn.0
adjacent lt (x ∷ y ∷ xs) turn (suc k) d within = adjacent lt (y ∷ xs) turn.1 k d (omega arith)

in_order : {A : Type 0} (lt : A → A → Bool) (xs : List A) → InTurn lt xs → IsSortedBy lt xs
in_order lt xs turn k d low high = rw add-one (adjacent lt xs turn k d (omega arith))

turn_mapped : {A B : Type 0} (lt : B → B → Bool) (f : A → B) (xs : List A) → InTurn (λ x y. lt (f x) (f y)) xs → InTurn lt (map f xs)
turn_mapped lt f [] turn = tt
turn_mapped lt f (x ∷ []) turn = (tt, tt)
turn_mapped lt f (x ∷ y ∷ xs) turn = (turn.0, turn_mapped lt f (y ∷ xs) turn.1)

module _ {A : Type 0} (lt : A → A → Bool) (one_way : (x y : A) → lt x y ≡ true → lt y x ≡ false) where
  abbrev put : A → List A → List A
  put new [] = new ∷ []
  put new (x ∷ xs) = cond (lt x new) (x ∷ put new xs) (new ∷ x ∷ xs)

  put_in_turn : (new : A) (xs : List A) → InTurn lt xs → InTurn lt (put new xs)
  put_in_turn new [] turn = (tt, tt)
  put_in_turn new (x ∷ xs) turn = first (lt x new) refl (put_in_turn new xs turn.1)
    where
      head : (y : A) (ys : List A) (b : Bool) → lt x new ≡ true → lt y x ≡ false → NotAbove lt x (cond b (y ∷ put new ys) (new ∷ y ∷ ys))
      head y ys true less after = after
      head y ys false less after = one_way x new less

      behind : (ys : List A) → lt x new ≡ true → NotAbove lt x ys → NotAbove lt x (put new ys)
      behind [] less after = one_way x new less
      behind (y ∷ ys) less after = head y ys (lt y new) less after

      first : (b : Bool) → lt x new ≡ b → InTurn lt (put new xs) → InTurn lt (cond b (x ∷ put new xs) (new ∷ x ∷ xs))
      first true less rest = (behind xs less turn.0, rest)
      first false not_less rest = (not_less, turn)

  put_among : (new : A) (xs : List A) → IsPermutation (new ∷ xs) (put new xs)
  put_among new [] = IsPermutation-refl (new ∷ [])
  put_among new (x ∷ xs) = first (lt x new) (put_among new xs)
    where
      first : (b : Bool) → IsPermutation (new ∷ xs) (put new xs) → IsPermutation (new ∷ x ∷ xs) (cond b (x ∷ put new xs) (new ∷ x ∷ xs))
      first true rest = IsPermutation-trans _ _ _ (IsPermutation-sym _ _ (IsPermutation-middle (x ∷ []) new xs)) (IsPermutation-cons x _ _ rest)
      first false rest = IsPermutation-refl (new ∷ x ∷ xs)

  -- the elements in order
  pub ordered : (xs : List A) → (ys : List A) × IsPermutation xs ys × InTurn lt ys
  ordered [] = ([], IsPermutation-refl [], tt)
  ordered (x ∷ xs) =
      let rest = ordered xs in
      (put x rest.0, IsPermutation-trans _ _ _ (IsPermutation-cons x _ _ rest.1) (put_among x rest.0), put_in_turn x rest.0 rest.2)

-- ---- keys

-- by these columns, from the least up
abbrev pub keys_cmp : List ℕ → Row → Row → Ordering
keys_cmp key = on (columns_at key) (key_cmp 0 (map (λ (n : ℕ). ascending Binary) key))

none_total : IsTotalOrder (λ (a b : Row). Equal)
none_total = record { antisymm = λ x y. refl; trans = λ x y z p q. p; congr = λ x y z p. refl }

from_total : (key : List ℕ) (at : ℕ) → IsTotalOrder (key_cmp at (map (λ (n : ℕ). ascending Binary) key))
from_total [] at = none_total
from_total (n ∷ key) at = then_total (on_total (λ (r : Row). column r at) value_cmp_total) (from_total key (suc at))

keys_total : (key : List ℕ) → IsTotalOrder (keys_cmp key)
keys_total key = on_total (columns_at key) (from_total key 0)

abbrev pub is_before : {A : Type 0} → List ℕ → (A → Row) → A → A → Bool
is_before key values a b = is_lt (keys_cmp key (values a) (values b))

before_one_way : {A : Type 0} (key : List ℕ) (values : A → Row) (a b : A) → is_before key values a b ≡ true → is_before key values b a ≡ false
before_one_way key values a b less = at (keys_cmp key (values a) (values b)) refl less
  where
    at : (o : Ordering) → keys_cmp key (values a) (values b) ≡ o → is_lt o ≡ true → is_lt (keys_cmp key (values b) (values a)) ≡ false
    at Less e is = ap is_lt ((keys_total key).antisymm (values b) (values a) ∙ ap ordering_reverse e)
    at Equal e is = cc
    at Greater e is = cc

pub number_order : (m n : ℕ) → value_cmp (number_value m) (number_value n) ≡ nat_cmp m n
number_order m n = let same : nat_cmp m n ≡ int_cmp (pos m) (pos n) = grind (arith, ints) in value_cmp-Int (pos m) (pos n) ∙ sym same

pub text_order : (s t : List ℕ) → value_cmp (Text s) (Text t) ≡ slice_cmp nat_cmp s t
text_order s t = value_cmp-Text s t

-- ---- a table

pub columns_shown : {A : Type 0} (columns : List ℕ) (values seen : A → Row) → ((a : A) → columns_at columns (values a) ≡ seen a) → (xs : List A) → map seen xs ≡ map (columns_at columns) (map values xs)
columns_shown columns values seen all [] = refl
columns_shown columns values seen all (x ∷ xs) = ap₂ ◌∷◌ (sym (all x)) (columns_shown columns values seen all xs)

-- records that a table holds, in the order of their keys, are shown
pub shows_records : {A : Type 0} (table : Table) (columns key : List ℕ) (values seen : A → Row) (records zs : List A) (db : Database) → ((a : A) → columns_at columns (values a) ≡ seen a)
    → Holds table values records (db.trees table.tree) → IsPermutation records zs → InTurn (is_before key values) zs → ShowsTable table columns key db (map seen zs)
shows_records table columns key values seen records zs db all held same turn = record {
  by_key = map values zs;
  same = IsPermutation-trans _ _ _ (IsPermutation-sym _ _ held.same) (IsPermutation-map values _ _ same);
  ordered = in_order (λ a b. is_lt (keys_cmp key a b)) (map values zs) (turn_mapped (λ a b. is_lt (keys_cmp key a b)) values zs turn);
  is = columns_shown columns values seen all zs;
}

-- they can be put in the order of their keys
pub by_keys : {A : Type 0} (key : List ℕ) (values : A → Row) (records : List A) → (zs : List A) × IsPermutation records zs × InTurn (is_before key values) zs
by_keys key values records = ordered (is_before key values) (before_one_way key values) records
