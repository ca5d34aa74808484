-- What the desk holds after each delivery.
use Rattle.std.specs.{Prelude.{◌==◌, count_by, Contains, IsSorted, slice_get, slice_set, slice_index_or}, List.range_with_len, Ordering.nat_cmp}
use Rattle.std.specs.{List.Sorted.{IsPermutation, IsNonDecreasing}, declared.alloc.Global.Global, Option.{option_map, option_and_then}, Result.IsErrAnd}
use Rattle.std.{specs.Cmp.Lexicographic.{same_text, other_text}, proofs.{lemmas.Bool.{cases_order, eqb-true, eq-eqb}, lemmas.Option.slice_get_within}}
use Rattle.std.proofs.Common.{◌≡◌, ◌⊎◌, inl, inr, ℕ, ◌+◌, ◌<◌, List, [], ◌∷◌, ◌++◌, None, Some, Option, Err, IsTrue, sym, subst, ◌∙◌, arith, zero, suc, ◌-◌, ◌≤◌, length, map, Bool, cond, refl, ap, ap₂, true, false, String, string_bytes, Result, Ok, IfOk, OnOk, OnErr}
use Rattle.std.proofs.lemmas.List.Sorted.{Contains-permutation, IsNonDecreasingBy-from_sort, IsPermutation-map, IsPermutation-refl, IsPermutation-sym, IsPermutation-trans, sum_by-IsPermutation}
use Rattle.std.proofs.lemmas.Simd.{map-map}
use Rattle.sqlite.specs.{State.{State, HasCleanDisk, Survives}, Tree.Trees, Effect.Database}
use Rattle.edi_syntax.specs.Interchange.{interchange_of}
use Rattle.partner_core.specs.{Deliveries.{delivery, run, Delivery}, Numbered.with_number, Answers.{AnswerModel, Waiting, answer_by}}
use Rattle.partner_core.specs.{Standings.{standing_of, is_same_text}, declared.runs.Standing.TheVariants.{Known, Other}}
use Rattle.office_replies.specs.{Events.{Event, delivered}, declared.deliver.Fault.Fault, declared.deliver.Response.Response, Contents.content_of}
use Rattle.office_rows.{specs.{Rows.{Rows, Partner, Interchange}, Effects.with_waiting, Stored.{HasRows, StoresRows}, Shown.AreNexts}, proofs.Creating.stores}
use Rattle.office_admission.specs.{Given.IsGiven, Setups.{SetupContent, setup_content}, Admission.admission, Parties.partner_kinds, declared.setup.Setup.Setup}
use Rattle.office_admission.specs.Taking.{MachineState, interchange_taken, machine_of}
use Rattle.office_history.specs.After.{AreAfter, content_after, deliveries_of, machine_after, machine_with, parties_in, accounts_from, AreKeptOnce, reply_in, reply_if_any}
use Rattle.office_history.specs.{Cascade.{AreTakenFrom, text_in, texts_with, with_run}, Laws.{IsFor, AddsRun, AnswersBy, answer_model_of}}
use Rattle.office_history.proofs.{Lawful.{refused_adds, used_adds, early_adds, next_adds, now_same}, Accounted.{next_in, answers, text_within}}
use Rattle.office_history.proofs.Kept.{Rises, above, fewer, head_in, one_at, rising_same, tail_in}
use Rattle.office_desk.specs.{Crashes.{IsAfter, Leaves, LeavesBehind, LeavesEither}, Beside.{IsAt, nexts_after, IsBeside}, declared.beside.Beside.Beside}
use Rattle.office_desk.specs.{Telling.{Comes, Holds, IsRunDone, Answers, TakesNext}, Answers.answer_by_model, Taking.{AnswersOrHolds, LeavesTaken}}
use Rattle.edi_messages.specs.declared.codes.PartnerKind.{PartnerKind}
use Rattle.terminal_core.{specs.State.TerminalState, proofs.{Indexed.one_place, Whole.found_at}}
use Rattle.office_tables.specs.{Taken.taken_contents, declared.running.Taken.Taken, Answers.{IsKept, RepliesAs}, declared.interchanges.Kept.Kept}
use Rattle.office_tables.specs.{Taking.IsNumbered, Writing.{Commits, IsWhole}, declared.table_fault.TableFault.TableFault}
use Rattle.office_tables.proofs.WriteLemmas.{one_kept, text_kept}
use Rattle.office_replies.specs.declared.deliver.Response.TheVariants as response

-- ==== CrashLemmas: What a crash leaves behind each delivery.

-- ---- calls that only read

or_never : {A : Type 0} → A ⊎ ⊥ → A
or_never (inl x) = x
or_never (inr never) = absurd never

-- what only reads gives a crash nothing else to leave
pub leaves_less : (old new : State) → HasCleanDisk new → Survives old new (λ _. ⊥) → (db : Trees) → new.may_leave db → old.may_leave db
leaves_less old new clean survives db leaves = or_never (survives.crash clean db leaves)

-- ---- one delivery more

pub either_of : {A B C D : Type 0} → (A → C) → (B → D) → A ⊎ B → C ⊎ D
either_of f g (inl x) = inl (f x)
either_of f g (inr y) = inr (g y)

module _ (content : SetupContent) (es : List Event) (sent : List ℕ) where
  -- what is refused adds nothing
  pub refused_leaves : (fault : Fault) (s : State) → admission (parties_in (content_after content es)) (interchange_of sent) ≡ Err fault → Leaves content es s → Leaves content (es ++ delivered sent ∷ []) s
  refused_leaves fault s refused leaves db left =
      let is = leaves db left in
      record { rows = is.rows; are = is.are; after = (refused_adds content es is.rows sent fault is.after refused).rows_are }

  -- nor does what is used
  pub used_leaves : (rows : Rows) (partner number : ℕ) (kept : List ℕ) (old new : State) → AreAfter content es rows → IsFor content es sent partner number → text_in rows partner number ≡ Some kept →
      ((db : Trees) → new.may_leave db → old.may_leave db) → Leaves content es old → Leaves content (es ++ delivered sent ∷ []) new
  used_leaves rows partner number kept old new after is_for there less leaves db left =
      let is = leaves db (less db left) in
      let here : text_in is.rows partner number ≡ Some kept = is.after.texts partner number ∙ sym (after.texts partner number) ∙ there in
      record { rows = is.rows; are = is.are; after = (used_adds content es is.rows sent partner number kept is.after is_for here).rows_are }

  pub early_after : (rows : Rows) (text : List ℕ) (partner number next : ℕ) (db : Trees) → AreAfter content es rows → Comes content es sent (delivery partner number text) → text_in rows partner number ≡ None →
      next ≡ run (deliveries_of content es) partner + 1 → next < number → StoresRows (with_waiting partner number text rows) db → IsAfter content (es ++ delivered sent ∷ []) db
  early_after rows text partner number next db after comes free is later are = record {
    rows = with_waiting partner number (interchange_of sent) rows;
    are = subst (λ t. StoresRows (with_waiting partner number t rows) db) comes.text_is are;
    after = (early_adds content es rows sent partner number after comes.is_for free (omega (arith, is, later))).rows_are;
  }

  pub run_after : (rows : Rows) (text : List ℕ) (partner number next : ℕ) (now : Beside) (db : Trees) → IsGiven content → AreAfter content es rows → IsAt content es now →
      Comes content es sent (delivery partner number text) → text_in rows partner number ≡ None → next ≡ run (deliveries_of content es) partner + 1 → number ≡ next →
      IsRunDone rows (delivery partner number text) (machine_with (content_after content es) now.terminal) db → IsAfter content (es ++ delivered sent ∷ []) db
  run_after rows text partner number next now db given after at comes free is same done =
      let own = interchange_of sent in
      let here : AreTakenFrom partner (texts_with rows partner number own) number (machine_after content es) done.taken done.new =
      subst (λ m. AreTakenFrom partner (texts_with rows partner number own) number m done.taken done.new) at.terminal
      (subst (λ t. AreTakenFrom partner (texts_with rows partner number t) number (machine_with (content_after content es) now.terminal) done.taken done.new) comes.text_is done.are_taken) in
      record {
        rows = with_run partner number own done.taken rows;
        are = subst (λ t. StoresRows (with_run partner number t done.taken rows) db) comes.text_is done.are;
        after = (next_adds content es rows sent partner number done.taken done.new given after comes.is_for free (same ∙ is) here).rows_are;
      }

  -- what is reported of what a crash leaves, by the answer
  pub answered_behind : (given : Response) (s : State) → Leaves content (es ++ delivered sent ∷ []) s → LeavesBehind content es sent given s
  answered_behind response.NotNow s leaves = λ db left. inr (leaves db left)
  answered_behind given s leaves = leaves

-- a crash leaves what was committed
pub committed_leaves : (content : SetupContent) (es : List Event) (s : State) (rows : Rows) → ((db : Trees) → s.may_leave db → db ≡ s.committed.trees) → HasRows rows s.committed → AreAfter content es rows → Leaves content es s
committed_leaves content es s rows alone has after db left = record { rows = rows; are = subst (StoresRows rows) (sym (alone db left)) (stores rows s.committed has); after = after }

-- while it is open, a crash leaves only what was committed, so the rows that are held
pub held_leaves : (content : SetupContent) (es : List Event) (now : SetupContent) (s : State) (there : Option Beside) → IsTrue s.is_open → ((db : Trees) → s.may_leave db → db ≡ s.committed.trees) →
    Holds content es now s.committed there → Leaves content es s
held_leaves content es now s there is_open alone holds = committed_leaves content es s holds.rows alone holds.has holds.after

-- ==== NumberLemmas: The partners' next numbers, in the order of their ids.

-- ---- numbers by a function, in the order of the ids

pub map_alike : (f f' : ℕ → ℕ) → ((q : ℕ) → f' q ≡ f q) → (xs : List ℕ) → map f' xs ≡ map f xs
map_alike f f' same xs i = map (λ q. same q i) xs

module _ (f f' : ℕ → ℕ) (p : ℕ) (same : (q : ℕ) → (q ≡ p → ⊥) → f' q ≡ f q) where
  map_beyond : (a n : ℕ) → p < a → map f' (range_with_len a n) ≡ map f (range_with_len a n)
  map_beyond a zero low = refl
  map_beyond a (suc n) low = ap₂ ◌∷◌ (same a (λ e. absurd (omega (arith, e, low)))) (map_beyond (a + 1) n (omega (arith, low)))

  set_from : (a n i : ℕ) → a + i ≡ p → slice_set (map f (range_with_len a n)) i (f' p) ≡ map f' (range_with_len a n)
  set_from a zero i e = refl
  set_from a (suc n) zero e =
      let here : p ≡ a = omega (arith, e) in
      ap₂ ◌∷◌ (ap f' here) (sym (map_beyond (a + 1) n (omega (arith, e))))
  set_from a (suc n) (suc i) e = ap₂ ◌∷◌ (sym (same a (λ here. absurd (omega (arith, here, e))))) (set_from (a + 1) n i (omega (arith, e)))

  -- one of them raised
  pub set_one : (n : ℕ) → 1 ≤ p → slice_set (map f (range_with_len 1 n)) (p - 1) (f' p) ≡ map f' (range_with_len 1 n)
  set_one n one = set_from 1 n (p - 1) (omega (arith, one))

number_from : (f : ℕ → ℕ) (a n i next : ℕ) → slice_get (map f (range_with_len a n)) i ≡ Some next → next ≡ f (a + i)
number_from f a zero i next e = cc
number_from f a (suc n) zero next e = let is : f a ≡ next = cc in let here : a ≡ a + 0 = omega arith in sym is ∙ ap f here
number_from f a (suc n) (suc i) next e = let here : a + 1 + i ≡ a + suc i = omega arith in number_from f (a + 1) n i next e ∙ ap f here

pub number_of : (f : ℕ → ℕ) (n p next : ℕ) → with_number (map f (range_with_len 1 n)) p ≡ Some next → next ≡ f p
number_of f n zero next e = cc
number_of f n (suc i) next e = let here : 1 + i ≡ suc i = omega arith in number_from f 1 n i next e ∙ ap f here

pub number_within : {A : Type 0} (xs : List A) (p : ℕ) (x : A) → with_number xs p ≡ Some x → p ≤ length xs
number_within xs zero x e = omega arith
number_within xs (suc i) x e = let rest = slice_get_within xs i x e in omega (arith, rest)

-- ---- the ids, from the least up

abbrev is_one : ℕ → ℕ → Bool
is_one v x = x == v

-- numbers in order, none of them twice, rise
rise : (low : ℕ) (xs : List ℕ) → IsNonDecreasing xs → ((v : ℕ) → count_by (is_one v) xs ≤ 1) → ((x : ℕ) → Contains xs x → low < x) → Rises (λ x. x) low xs
rise low [] up once above = tt
rise low (x ∷ xs) up once above = (
  above x (head_in x xs),
  rise x xs (λ i j d before within. up (suc i) (suc j) d (omega (arith, before)) (omega (arith, within)))
      (λ v. fewer (is_one v) x xs (once v))
      (λ y inside. beyond y inside (subst (λ z. x ≤ z) inside.2 (up zero (suc inside.0) y (omega arith) (omega (arith, inside.1))))),
)
  where
    beyond : (y : ℕ) → Contains xs y → x ≤ y → x < y
    beyond y inside low = elim (cases_order x y) [
      | inl same ↦
          let bad : 0 ≡ suc inside.0 = one_place (is_one y) (x ∷ xs) 0 (suc inside.0) x y (once y) refl (found_at xs y inside) (eq-eqb x y same) (eq-eqb y y refl) in
          absurd (omega (arith, bad))
      | inr o ↦ elim o [ inl below ↦ below | inr above ↦ absurd (omega (arith, low, above)) ]
    ]

pub rises_from : (low a n : ℕ) → low < a → Rises (λ x. x) low (range_with_len a n)
rises_from low a zero below = tt
rises_from low a (suc n) below = (below, rises_from a (a + 1) n (omega arith))

-- the ids in order are 1, 2 and so on
pub in_range : (n : ℕ) (xs : List ℕ) → IsPermutation (range_with_len 1 n) xs → IsSorted nat_cmp xs → xs ≡ range_with_len 1 n
in_range n xs same sorted =
    let all = range_with_len 1 n in
    sym (rising_same (λ x. x) 0 all xs (rises_from 0 1 n (omega arith))
    (rise 0 xs (IsNonDecreasingBy-from_sort (λ x. x) xs sorted)
    (λ v. subst (λ k. k ≤ 1) (sym (sum_by-IsPermutation (λ x. cond (x == v) 1 0) all xs same)) (one_at (λ x. x) (is_one v) v (λ x e. eqb-true x v e) 0 all (rises_from 0 1 n (omega arith))))
    (λ x inside. above (λ x. x) 0 all x (rises_from 0 1 n (omega arith)) (Contains-permutation xs all x (IsPermutation-sym all xs same) inside)))
    same)

-- ---- the accounts

abbrev pub id_of : Partner → ℕ
id_of p = p.id

pub ids_from : (id : ℕ) (f : ℕ → ℕ) (accounts : List (List ℕ × PartnerKind)) → map id_of (accounts_from id f accounts) ≡ range_with_len id (length accounts)
ids_from id f [] = refl
ids_from id f (account ∷ accounts) = ap (λ l. id ∷ l) (ids_from (id + 1) f accounts)

nexts_by : (f : ℕ → ℕ) (ps : List Partner) → ((p : Partner) → Contains ps p → p.next ≡ f p.id) → map (λ (p : Partner). p.next) ps ≡ map f (map id_of ps)
nexts_by f [] all = refl
nexts_by f (p ∷ ps) all = ap₂ ◌∷◌ (all p (head_in p ps)) (nexts_by f ps (λ q inside. all q (tail_in p q ps inside)))

-- the accounts are those of the set-up, each with the next number that f gives its id
module _ (f : ℕ → ℕ) (accounts : List (List ℕ × PartnerKind)) (rows : Rows) (placed : IsPermutation rows.partners (accounts_from 1 f accounts)) where
  pub next_by : (account : Partner) → Contains rows.partners account → account.next ≡ f account.id
  next_by account inside =
      let there = Contains-permutation rows.partners (accounts_from 1 f accounts) account placed inside in
      next_in 1 f accounts account there.0 there.1 there.2

  pub ids_are : (by_id : List Partner) → IsPermutation rows.partners by_id → IsSorted nat_cmp (map id_of by_id) → map id_of by_id ≡ range_with_len 1 (length accounts)
  ids_are by_id same sorted =
      let mine : IsPermutation (map id_of rows.partners) (map id_of by_id) = IsPermutation-map id_of rows.partners by_id same in
      let theirs : IsPermutation (map id_of rows.partners) (range_with_len 1 (length accounts)) =
      subst (IsPermutation (map id_of rows.partners)) (ids_from 1 f accounts) (IsPermutation-map id_of rows.partners (accounts_from 1 f accounts) placed) in
      in_range (length accounts) (map id_of by_id) (IsPermutation-trans _ _ _ (IsPermutation-sym _ _ theirs) mine) sorted

  -- the numbers that the rows have are in the order of the ids
  pub nexts_are : (nexts : List ℕ) → AreNexts rows nexts → nexts ≡ map f (range_with_len 1 (length accounts))
  nexts_are nexts are =
      let by_id = are.0 in
      are.3
      ∙ nexts_by f by_id (λ p inside. next_by p (Contains-permutation by_id rows.partners p (IsPermutation-sym rows.partners by_id are.1) inside))
      ∙ ap (map f) (ids_are by_id are.1 are.2)

-- the numbers that the rows after events have are those after them
pub nexts_loaded : (content : SetupContent) (es : List Event) (rows : Rows) (nexts : List ℕ) → AreAfter content es rows → AreNexts rows nexts → nexts ≡ nexts_after content es
nexts_loaded content es rows nexts after are =
    nexts_are (λ p. run (deliveries_of content es) p + 1) (content_after content es).partners rows (subst (IsPermutation rows.partners) after.partners (IsPermutation-refl rows.partners)) nexts are

-- ---- a run

-- its interchanges are numbered one after the other
pub number_at : (partner : ℕ) (texts : ℕ → Option (List ℕ)) (number : ℕ) (old new : MachineState) (items : List Taken) (k : ℕ) (d : Taken) → AreTakenFrom partner texts number old (taken_contents items) new → k < length items →
    (slice_index_or items k d).number ≡ number + k
number_at partner texts number old new [] k d taken low = absurd (omega (arith, low))
number_at partner texts number old new (x ∷ items) zero d taken low = let here : number ≡ number + 0 = omega arith in taken.2 ∙ here
number_at partner texts number old new (x ∷ items) (suc k) d taken low =
    let here : number + 1 + k ≡ number + suc k = omega arith in
    number_at partner texts (number + 1) (interchange_taken old partner taken.0).0 new items k d taken.5 (omega (arith, low)) ∙ here

-- ==== HoldLemmas: What the desk holds after each delivery.

-- ---- what the rows tell

reply_is : (reply : Option (String Global)) (text : List ℕ) → RepliesAs reply text → reply_if_any text ≡ option_map string_bytes reply
reply_is None text is = ap reply_if_any is
reply_is (Some reply) [] is = absurd (is.1 refl)
reply_is (Some reply) (byte ∷ bytes) is = ap Some is.0

pub reply_kept : (partner number : ℕ) (rows : Rows) (kept : Kept) → AreKeptOnce rows.interchanges → IsKept partner number rows (Some kept) → reply_in rows partner number ≡ option_map string_bytes kept.reply
reply_kept partner number rows kept once is =
    ap (option_and_then (λ (i : Interchange). reply_if_any i.reply)) (one_kept partner number rows is.0 once is.1) ∙ reply_is kept.reply is.0.reply is.3

pub next_is : (content : SetupContent) (es : List Event) (there : Beside) (partner next : ℕ) → IsAt content es there → with_number there.nexts.items partner ≡ Some next → next ≡ run (deliveries_of content es) partner + 1
next_is content es there partner next at is =
    number_of (λ p. run (deliveries_of content es) p + 1) (length (content_after content es).partners) partner next (sym (ap (λ l. with_number l partner) at.nexts) ∙ is)

pub numbered : (content : SetupContent) (es : List Event) (rows : Rows) (partner : ℕ) → AreAfter content es rows → IsNumbered partner rows
numbered content es rows partner after = record { kept_once = after.kept_once; none_beyond = at (text_in rows partner 1000000000) refl }
  where
    at : (found : Option (List ℕ)) → text_in rows partner 1000000000 ≡ found → text_in rows partner 1000000000 ≡ None
    at None e = e
    at (Some text) e = let within = text_within content es rows partner 1000000000 text after e in absurd (omega (arith, within))

-- ---- the answers

module _ (content : SetupContent) (es : List Event) (rows : Rows) (sent : List ℕ) (partner number : ℕ) (after : AreAfter content es rows) (is_for : IsFor content es sent partner number) where
  abbrev told : AnswerModel
  told = answer_model_of content es partner number sent

  abbrev by_rows : AnswersBy content es rows sent partner number
  by_rows = answers content es rows sent partner number after is_for

  used_by : (same : Bool) (kept : List ℕ) (reply : Option (List ℕ)) (next : ℕ) → same ≡ is_same_text kept (interchange_of sent) → text_in rows partner number ≡ Some kept →
      reply_in rows partner number ≡ reply → next ≡ run (deliveries_of content es) partner + 1 → told ≡ answer_by (cond same Known Other) next reply None
  used_by true kept (Some reply) next same there has is =
      by_rows.repeat reply (there ∙ ap Some (same_text kept (interchange_of sent) same)) has
  used_by true kept None next same there has is =
      by_rows.waits (there ∙ ap Some (same_text kept (interchange_of sent) same)) has ∙ ap Waiting (sym is)
  used_by false kept reply next same there has is = by_rows.clash kept there (other_text kept (interchange_of sent) same)

  pub used_told : (kept : List ℕ) (reply : Option (List ℕ)) (next : ℕ) → text_in rows partner number ≡ Some kept →
      reply_in rows partner number ≡ reply → next ≡ run (deliveries_of content es) partner + 1 →
      told ≡ answer_by (standing_of next number (Some kept) (interchange_of sent)) next reply None
  used_told kept reply next there has is = used_by (is_same_text kept (interchange_of sent)) kept reply next refl there has is

-- ---- what is held

-- the same, in a database that has the same rows, with what stands beside them there
abbrev pub held_with : {content : SetupContent} {es : List Event} {now : SetupContent} {db : Database} {there : Option Beside} (holds : Holds content es now db there) (db' : Database) (there' : Option Beside) →
    HasRows holds.rows db' → IsBeside content es there' → Holds content es now db' there'
held_with holds db' there' has beside = record { given = holds.given; now_is = holds.now_is; rows = holds.rows; has = has; after = holds.after; beside = beside }

pub beside_same : (content : SetupContent) (es : List Event) (sent : List ℕ) (there : Option Beside) → machine_after content (es ++ delivered sent ∷ []) ≡ machine_after content es →
    ((partner : ℕ) → run (deliveries_of content (es ++ delivered sent ∷ [])) partner ≡ run (deliveries_of content es) partner) → IsBeside content es there → IsBeside content (es ++ delivered sent ∷ []) there
beside_same content es sent None same runs beside = tt
beside_same content es sent (Some there) same runs beside =
    let es' = es ++ delivered sent ∷ [] in
    let now : content_after content es' ≡ content_after content es = now_same content es sent in
    record {
      terminal = ap (λ c. machine_with c there.terminal) now ∙ beside.terminal ∙ sym same;
      nexts = beside.nexts
          ∙ sym (map_alike (λ p. run (deliveries_of content es) p + 1) (λ p. run (deliveries_of content es') p + 1) (λ p. ap (λ r. r + 1) (runs p)) (range_with_len 1 (length (content_after content es).partners)))
          ∙ ap (λ (k : SetupContent). map (λ p. run (deliveries_of content es') p + 1) (range_with_len 1 (length k.partners))) (sym now);
    }

pub used_answers : (content : SetupContent) (es : List Event) (sent text : List ℕ) (partner number next : ℕ) (code : List ℕ) (kept : Kept) (response : Response) (now : SetupContent) (was db : Database) (there : Option Beside) →
    (holds : Holds content es now was there) → was ≡ db → Comes content es sent (delivery partner number text) → IsKept partner number holds.rows (Some kept) → next ≡ run (deliveries_of content es) partner + 1 →
    content_of response ≡ answer_by_model code number (answer_by (standing_of next number (Some kept.text.items) text) next (option_map string_bytes kept.reply) None) →
    Answers content es sent (delivery partner number text) code response now db there
used_answers content es sent text partner number next code kept response now was db there holds same comes is next_of told =
    let rows = holds.rows in
    let used : text_in rows partner number ≡ Some kept.text.items = text_kept partner number rows kept holds.after.kept_once is in
    let adds = used_adds content es rows sent partner number kept.text.items holds.after comes.is_for used in
    let answer = used_told content es rows sent partner number holds.after comes.is_for kept.text.items (option_map string_bytes kept.reply) next used (reply_kept partner number rows kept holds.after.kept_once is) next_of in
    record {
      answers = told ∙ ap (λ t. answer_by_model code number (answer_by (standing_of next number (Some kept.text.items) t) next (option_map string_bytes kept.reply) None)) comes.text_is ∙ ap (answer_by_model code number) (sym answer);
      holds = record {
        given = holds.given;
        now_is = now_same content es sent ∙ holds.now_is;
        rows = rows;
        has = subst (HasRows rows) same holds.has;
        after = adds.rows_are;
        beside = beside_same content es sent there adds.machine adds.runs holds.beside;
      };
    }

pub early_answers : (content : SetupContent) (es : List Event) (sent text : List ℕ) (partner number next : ℕ) (code : List ℕ) (response : Response) (now : SetupContent) (old new : State) (there : Option Beside) →
    (holds : Holds content es now old.committed there) → Comes content es sent (delivery partner number text) → text_in holds.rows partner number ≡ None →
    next ≡ run (deliveries_of content es) partner + 1 → next < number → content_of response ≡ answer_by_model code number (Waiting next) → Commits (with_waiting partner number text) old new →
    Answers content es sent (delivery partner number text) code response now new.committed there
early_answers content es sent text partner number next code response now old new there holds comes free is later told wrote =
    let rows = holds.rows in
    let beyond : run (deliveries_of content es) partner + 1 < number = omega (arith, is, later) in
    let adds = early_adds content es rows sent partner number holds.after comes.is_for free beyond in
    let answer = (answers content es rows sent partner number holds.after comes.is_for).early free beyond in
    record {
      answers = told ∙ ap (answer_by_model code number) (ap Waiting is ∙ sym answer);
      holds = record {
        given = holds.given;
        now_is = now_same content es sent ∙ holds.now_is;
        rows = with_waiting partner number (interchange_of sent) rows;
        has = subst (λ t. HasRows (with_waiting partner number t rows) new.committed) comes.text_is (wrote.rows rows holds.has);
        after = adds.rows_are;
        beside = beside_same content es sent there adds.machine adds.runs holds.beside;
      };
    }

-- ---- the machine of the set-up

pub machine_same : (setup : Setup) (terminal : TerminalState) → machine_of setup terminal ≡ machine_with (setup_content setup) terminal
machine_same setup terminal =
    ap (λ (codes : List (List ℕ)). record { parties = record { terminal = string_bytes setup.terminal; partners = codes }; codes = setup.codes; kinds = partner_kinds setup.partners.items; blocks = setup.blocks.items; visit_limit = setup.visit_limit; terminal = terminal })
    (sym (map-map _ _ setup.partners.items))
    ∙ ap (λ kinds. record { parties = parties_in (setup_content setup); codes = setup.codes; kinds = kinds; blocks = setup.blocks.items; visit_limit = setup.visit_limit; terminal = terminal }) (sym (map-map _ _ setup.partners.items))

-- the numbers after a run: its partner's is raised by its length
nexts_raised : (content : SetupContent) (es : List Event) (sent nexts : List ℕ) (partner number count : ℕ) (rows : Rows) (machine : MachineState) → 1 ≤ partner → number ≡ run (deliveries_of content es) partner + 1 →
    nexts ≡ nexts_after content es → AddsRun content es sent partner count rows machine → slice_set nexts (partner - 1) (number + count) ≡ nexts_after content (es ++ delivered sent ∷ [])
nexts_raised content es sent nexts partner number count rows machine one is are adds =
    let f : ℕ → ℕ = λ p. run (deliveries_of content es) p + 1 in
    let f' : ℕ → ℕ = λ p. run (deliveries_of content (es ++ delivered sent ∷ [])) p + 1 in
    let last : number + count ≡ f' partner = omega (arith, is, adds.run_is) in
    ap₂ (λ l n. slice_set l (partner - 1) n) are last
    ∙ set_one f f' partner (λ p apart. ap (λ r. r + 1) (adds.other_runs p apart)) (length (content_after content es).partners) one
    ∙ ap (λ (k : SetupContent). map f' (range_with_len 1 (length k.partners))) (sym (now_same content es sent))

pub next_answers : (setup : Setup) (content : SetupContent) (es : List Event) (sent text : List ℕ) (partner number next : ℕ) (code : List ℕ) (response : Response) (now left : Beside) (was : Database) (end : State) →
    (holds : Holds content es (setup_content setup) was (Some now)) → Comes content es sent (delivery partner number text) → text_in holds.rows partner number ≡ None →
    1 ≤ partner → next ≡ run (deliveries_of content es) partner + 1 → number ≡ next → TakesNext holds.rows (delivery partner number text) code setup now response left end →
    Answers content es sent (delivery partner number text) code response (setup_content setup) end.committed (Some left)
next_answers setup content es sent text partner number next code response now left was end holds comes free one is same takes =
    let rows = holds.rows in
    let own = interchange_of sent in
    let number_is : number ≡ run (deliveries_of content es) partner + 1 = same ∙ is in
    let with_accounts : (t : TerminalState) → machine_of setup t ≡ machine_with (content_after content es) t = λ t. machine_same setup t ∙ ap (λ c. machine_with c t) (sym holds.now_is) in
    let here : AreTakenFrom partner (texts_with rows partner number own) number (machine_after content es) (takes.first ∷ takes.later) (machine_with (content_after content es) left.terminal) =
    subst (λ m. AreTakenFrom partner (texts_with rows partner number own) number (machine_after content es) (takes.first ∷ takes.later) m) (with_accounts left.terminal)
    (subst (λ m. AreTakenFrom partner (texts_with rows partner number own) number m (takes.first ∷ takes.later) (machine_of setup left.terminal)) (with_accounts now.terminal ∙ holds.beside.terminal)
    (subst (λ t. AreTakenFrom partner (texts_with rows partner number t) number (machine_of setup now.terminal) (takes.first ∷ takes.later) (machine_of setup left.terminal)) comes.text_is takes.taken)) in
    let machine = machine_with (content_after content es) left.terminal in
    let adds = next_adds content es rows sent partner number (takes.first ∷ takes.later) machine holds.given holds.after comes.is_for free number_is here in
    let answer = (answers content es rows sent partner number holds.after comes.is_for).next takes.first takes.later machine holds.given free number_is here in
    record {
      answers = takes.answers ∙ ap (answer_by_model code number) (sym answer);
      holds = record {
        given = holds.given;
        now_is = now_same content es sent ∙ holds.now_is;
        rows = with_run partner number own (takes.first ∷ takes.later) rows;
        has = subst (λ t. HasRows (with_run partner number t (takes.first ∷ takes.later) rows) end.committed) comes.text_is takes.has;
        after = adds.rows_are;
        beside = record {
          terminal = ap (λ c. machine_with c left.terminal) (now_same content es sent) ∙ adds.machine_is;
          nexts = takes.raised ∙ nexts_raised content es sent now.nexts.items partner number (length (takes.first ∷ takes.later)) _ _ one number_is holds.beside.nexts adds;
        };
      };
    }

-- ==== TakingLemmas: Deliveries that were taken in, and calls that failed.

module _ (content : SetupContent) (es : List Event) where
  -- ---- calls that failed

  pub failed_holds : (Q : TableFault → Type 0) (d : Delivery) (code : List ℕ) (r : Result Response TableFault) (now : SetupContent) (db : Database) (there : Option Beside) → IsErrAnd r Q → Holds content es now db there →
      AnswersOrHolds content es d code r now db there
  failed_holds Q d code (Ok response) now db there is holds = absurd is
  failed_holds Q d code (Err fault) now db there is holds = holds

  pub failed_leaves : (Q : TableFault → Type 0) (sent : List ℕ) (r : Result Response TableFault) (s : State) → IsErrAnd r Q → LeavesEither content es sent s → LeavesTaken content es sent r s
  failed_leaves Q sent (Ok response) s is leaves = absurd is
  failed_leaves Q sent (Err fault) s is leaves = leaves

  -- ---- early ones

  module _ (d : Delivery) (code : List ℕ) (now : SetupContent) (old new : State) (there : Option Beside) (next : ℕ) (holds : Holds content es now old.committed there) (free : text_in holds.rows d.partner d.number ≡ None)
      (is : next ≡ run (deliveries_of content es) d.partner + 1) (later : next < d.number) where
    pub early_events : (r : Result Response TableFault) → IfOk r (λ response. content_of response ≡ answer_by_model code d.number (Waiting next)) → OnOk r (Commits (with_waiting d.partner d.number d.text) old new) →
        OnErr r (new.committed ≡ old.committed) → AnswersOrHolds content es d code r now new.committed there
    early_events (Ok response) told wrote same = λ sent comes. early_answers content es sent d.text d.partner d.number next code response now old new there holds comes free is later told wrote
    early_events (Err fault) told wrote same = held_with holds new.committed there (subst (HasRows holds.rows) (sym same) holds.has) holds.beside

    pub early_leaves : (sent : List ℕ) (r : Result Response TableFault) → Comes content es sent d → Leaves content es old → IfOk r (λ response. content_of response ≡ answer_by_model code d.number (Waiting next)) →
        OnOk r (Commits (with_waiting d.partner d.number d.text) old new) → ((db : Trees) → new.may_leave db → old.may_leave db ⊎ IsWhole (with_waiting d.partner d.number d.text) old db) →
        LeavesTaken content es sent r new
    early_leaves sent (Ok response) comes leaves told wrote crash =
        let after = (early_answers content es sent d.text d.partner d.number next code response now old new there holds comes free is later told wrote).holds in
        committed_leaves content (es ++ delivered sent ∷ []) new after.rows wrote.alone after.has after.after
    early_leaves sent (Err fault) comes leaves told wrote crash = λ db left.
        either_of (λ before. leaves db before)
        (λ whole. early_after content es sent holds.rows d.text d.partner d.number next db holds.after comes free is later (whole holds.rows holds.has))
        (crash db left)
