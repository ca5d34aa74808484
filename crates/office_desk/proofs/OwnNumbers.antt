-- What a store keeps of its partners' interchanges, of which some were put away: by number, and by what its tables show.
use Rattle.std.specs.{Prelude.{slice_get, nat_le, if◌then◌else◌, find, filter, Contains}, Option.{unwrap_or, option_map, option_and_then}}
use Rattle.std.{specs.{List.{range_with_len, AllByRecursion}, List.Sorted.IsPermutation}, proofs.{lemmas.Option.slice_get-map, lemmas.Bool.cases_order}}
use Rattle.std.proofs.Common.{◌≡◌, ℕ, ◌-◌, ◌≤◌, List, [], Ok, Err, Some, refl, sym, ap, subst, ◌∙◌, string_bytes, ◌+◌, ◌∷◌, ◌++◌, Result, ap₂, ◌⊎◌, zero, suc, ◌<◌, inl, inr, length, map, Option, None, is_some, true, arith}
use Rattle.std.proofs.{lemmas.List.Elements.All-contains, lemmas.List.Sorted.{IsPermutation-sym, Contains-permutation}}
use Rattle.edi_syntax.specs.{Text.Content, Interchange.{interchange_of, segments_in}, Envelope.header_of, Header.control_number}
use Rattle.partner_core.{specs.{Numbered.with_number, Deliveries.{Delivery, delivery, first_text, run}, Order.state}, proofs.Keepings.with_number-below}
use Rattle.partner_core.{specs.Answers.{AnswerModel, Taken, Repeat, Waiting, Clash, is_other, answer_of}, proofs.Orders.none_of}
use Rattle.office_replies.specs.{Contents.GivesOrNotNow, declared.deliver.Fault.Fault, declared.deliver.Response.Response, Events.Event}
use Rattle.office_admission.specs.{Parties.{Parties, parties_of, partner_codes}, declared.setup.Account.Account, declared.setup.Setup.Setup}
use Rattle.office_admission.specs.{Admission.{admission, number_in}, Outcomes.{IsRefused, fault_in}, Refusals.{RefusedSurely, refusal_of}}
use Rattle.office_admission.specs.{declared.refusal.Refusal.Refusal, declared.refusal.Refusal.TheVariants.{Plain, WithContrl}}
use Rattle.office_admission.specs.Setups.{SetupContent, parties_in}
use Rattle.edi_messages.specs.{Codes.table_texts, declared.code.CodeTable.CodeTable, declared.codes.PartnerKind.PartnerKind}
use Rattle.terminal_core.specs.Versions.{newest}
use Rattle.office_history.specs.After.{SaysSame, content_after, deliveries_of, machine_after, opening_of, taking_in, AreKeptOnce, accounts_from, reply_if_any, reply_in}
use Rattle.office_history.{specs.{Laws.answer_model_of, Cascade.text_in}, proofs.{Kept.{Has, taken_by, found_only, head_in, tail_in}, Runs.is_pair_at}}
use Rattle.office_history.proofs.Alike.{after_with_codes, delivered_with_codes, now_with_codes, opening_like, reply_like, state_like, taking_with_codes, with_codes}
use Rattle.office_history.proofs.KeptNumbers.{HaveRuns, found_pair, has_in, has_left, has_right, has_taken, replies, within_at}
use Rattle.office_parts.{specs.{Kept.kept, Closing.is_beyond}, proofs.{Opening.IsBeyond, Orders.beyond_numbered, OwnOffices.{KeepsOwn, beyond_in, in_beyond}}}
use Rattle.office_desk.specs.{Answers.{code_of, answer_by_model, answer_at, answer_to}, Alike.AnswersAlike}
use Rattle.office_rows.specs.{Rows.{Partner, Interchange, Rows}, Effects.is_pair, Opened.{NumberKept, number_kept}, Office.AreWaiting}
use Rattle.office_loading.specs.{Checks.{AreKeptBeyond, taken_beyond}, OwnOffice.{AreInOrder, AreOwnNumbers, IsClosedBelow}}
pub use Rattle.office_history.proofs.Alike.{codes_after}

-- ==== Admitted: What is known of a text that was admitted, or refused.

-- why a text is refused
pub refused_for : (setup : Setup) (text : List ℕ) (refusal : Refusal) → IsRefused setup text refusal → admission (parties_of setup) text ≡ Err (fault_in refusal)
refused_for setup text (Plain fault) is = is.0
refused_for setup text (WithContrl fault error head) is = is.0

-- what is admitted isn't refused
pub admitted_surely : (P : Parties) (delivered text : List ℕ) (place : ℕ × ℕ) (given : Response) → text ≡ interchange_of delivered → admission P text ≡ Ok place →
    RefusedSurely P (interchange_of delivered) given
admitted_surely P delivered text place given is admits =
    let here : admission P (interchange_of delivered) ≡ Ok place = subst (λ other. admission P other ≡ Ok place) is admits in
    λ other e none. let never : Ok place ≡ Err other = sym here ∙ e in absurd cc

-- the number that the header of its envelope writes
pub numbered : (P : Parties) (text : List ℕ) (segments : List Content) (partner number : ℕ) → segments ≡ segments_in text → control_number (header_of segments) ≡ Some number →
    admission P text ≡ Ok (partner, number_in (header_of (segments_in text))) → admission P text ≡ Ok (partner, number)
numbered P text segments partner number same is admits =
    admits ∙ ap (λ found. Ok (partner, unwrap_or found 0)) (subst (λ others. control_number (header_of others) ≡ Some number) same is)

-- the code of a partner, counted from 1
pub code_at : (accounts : List Account) (partner : ℕ) (account : Account) → 1 ≤ partner → slice_get accounts (partner - 1) ≡ Some account →
    unwrap_or (with_number (partner_codes accounts) partner) [] ≡ string_bytes account.code
code_at accounts partner account positive e = rw (with_number-below (partner_codes accounts) partner positive, slice_get-map (λ other. string_bytes other.code) accounts (partner - 1), e) refl

-- a refusal is that of the fault for which the text is refused
pub refused_so : (setup : Setup) (delivered text : List ℕ) (refusal : Refusal) (fault : Fault) (given : Response) → text ≡ interchange_of delivered → IsRefused setup text refusal →
    admission (parties_of setup) (interchange_of delivered) ≡ Err fault → GivesOrNotNow (refusal_of (parties_of setup) (header_of (segments_in text)) (fault_in refusal)) given →
    GivesOrNotNow (refusal_of (parties_of setup) (header_of (segments_in (interchange_of delivered))) fault) given
refused_so setup delivered text refusal fault given is refused e gives =
    let P = parties_of setup in
    let both : Err (fault_in refusal) ≡ Err fault = sym (refused_for setup text refusal refused) ∙ ap (admission P) is ∙ e in
    let same : fault_in refusal ≡ fault = cc in
    subst (λ f. GivesOrNotNow (refusal_of P (header_of (segments_in (interchange_of delivered))) f) given) same
    (subst (λ other. GivesOrNotNow (refusal_of P (header_of (segments_in other)) (fault_in refusal)) given) is gives)

-- what is admitted is never refused
pub never_refused : (P : Parties) (delivered text : List ℕ) (place : ℕ × ℕ) (fault : Fault) → text ≡ interchange_of delivered → admission P text ≡ Ok place → admission P (interchange_of delivered) ≡ Err fault → ⊥
never_refused P delivered text place fault is admits e = let never : Ok place ≡ Err fault = sym admits ∙ ap (admission P) is ∙ e in absurd cc

-- ==== AlikeLemmas: Set-ups that say the same answer alike.

module _ (content : SetupContent) (table : CodeTable) (same : table_texts table ≡ table_texts content.codes) (es : List Event) where
  abbrev now : SetupContent
  now = content_after content es

  abbrev other : SetupContent
  other = with_codes table content

  abbrev D : List Delivery
  D = deliveries_of content es

  says_now : SaysSame (with_codes table now) now
  says_now = record { terminal = refl; codes = same ∙ ap table_texts (sym (codes_after es content)); partners = refl; blocks = refl; limit = refl }

  by_codes : (d : Delivery) → answer_of (taking_in newest content es) (opening_of (with_codes table now)) D d ≡ answer_of (taking_in newest content es) (opening_of now) D d
  unfolding answer_of
  by_codes d =
      let like = opening_like (with_codes table now) now says_now in
      ap₂ (λ before after. if is_other (first_text D d.partner d.number) d.text then Clash
      else if nat_le d.number (run D d.partner) then Repeat before
      else if nat_le d.number (run (D ++ d ∷ []) d.partner) then Taken after
      else Waiting (run D d.partner + 1))
      (reply_like newest content es (opening_of (with_codes table now)) (opening_of now) D d.partner d.number like)
      (reply_like newest content es (opening_of (with_codes table now)) (opening_of now) (D ++ d ∷ []) d.partner d.number like)

  told_same : (partner number : ℕ) (sent : List ℕ) → answer_model_of other es partner number sent ≡ answer_model_of content es partner number sent
  told_same partner number sent =
      (λ i. answer_of (taking_with_codes newest content es table i) (opening_of (now_with_codes es content table i)) (delivered_with_codes es content table i) (delivery partner number (interchange_of sent)))
      ∙ by_codes (delivery partner number (interchange_of sent))

  at_same : (sent : List ℕ) (place : Result (ℕ × ℕ) Fault) → answer_at other es sent place ≡ answer_at content es sent place
  at_same sent (Err fault) = ap (λ (k : SetupContent). refusal_of (parties_in k) (header_of (segments_in (interchange_of sent))) fault) (now_with_codes es content table)
  at_same sent (Ok place) =
      ap₂ (λ (k : SetupContent) (told : AnswerModel). answer_by_model (code_of (parties_in k) place.0) place.1 told) (now_with_codes es content table) (told_same place.0 place.1 sent)

  answers_same : (sent : List ℕ) → answer_to other es sent ≡ answer_to content es sent
  answers_same sent =
      at_same sent (admission (parties_in (content_after other es)) (interchange_of sent))
      ∙ ap (λ (k : SetupContent). answer_at content es sent (admission (parties_in k) (interchange_of sent))) (now_with_codes es content table)

  terminal_same : (machine_after other es).terminal ≡ (machine_after content es).terminal
  terminal_same =
      (λ i. (state (taking_with_codes newest content es table i) (opening_of (now_with_codes es content table i)) (delivered_with_codes es content table i)).terminal)
      ∙ state_like newest content es (opening_of (with_codes table now)) (opening_of now) D (opening_like (with_codes table now) now says_now)

  alike_but_codes : AnswersAlike other content es
  alike_but_codes = record {
    answers = answers_same;
    terminal = terminal_same;
    rows = λ rows are. after_with_codes newest other es rows content.codes (sym same ∙ ap table_texts (sym (codes_after es other))) are;
    order = λ rows are. are ∙ ap kept (delivered_with_codes es content table);
  }

-- set-ups that say the same differ in codes that say the same
pub answers_alike : (one other : SetupContent) → SaysSame one other → (es : List Event) → AnswersAlike one other es
answers_alike one other says es =
    let but_codes : one ≡ with_codes one.codes other = λ i. record { terminal = says.terminal i; codes = one.codes; partners = says.partners i; blocks = says.blocks i; visit_limit = says.limit i } in
    subst (λ k. AnswersAlike k other es) (sym but_codes) (alike_but_codes other one.codes says.codes es)

-- ==== OwnNumbers: What a store keeps of its partners' interchanges, of which some were put away: by number, and by what its tables show.

-- Beyond what is closed each number up to its partner's run was taken; the next is not there, and those beyond it wait.
pub record KeepsBeyond (closed : ℕ → ℕ) (count : ℕ) (runs : ℕ → ℕ) (rows : Rows) : Type 0 where
  pub once : AreKeptOnce rows.interchanges
  pub within : (p k : ℕ) (text : List ℕ) → text_in rows p k ≡ Some text → (1 ≤ p) × (p ≤ count) × (1 ≤ k) × (k ≤ 999999999)
  pub there : (p k : ℕ) → closed p < k → k ≤ runs p → is_some (text_in rows p k) ≡ true
  pub taken : (p k : ℕ) → closed p < k → k ≤ runs p → is_some (reply_in rows p k) ≡ true
  pub free : (p : ℕ) → text_in rows p (runs p + 1) ≡ None
  pub waits : (p k : ℕ) → runs p < k → reply_in rows p k ≡ None
  pub below : (p : ℕ) → 1 ≤ p → p ≤ count → closed p ≤ runs p

-- ---- from the interchanges to their numbers

module _ (closed : ℕ → ℕ) (count : ℕ) (runs : ℕ → ℕ) (rows : Rows) (keeps : KeepsOwn closed count runs rows) where
  abbrev Found : ℕ → ℕ → Option Interchange → Type 0
  Found p k o = find (is_pair p k) rows.interchanges ≡ o

  its_found : (p k : ℕ) → closed p < k → k ≤ runs p → (i : Interchange) × Found p k (Some i) × Contains rows.interchanges i × (i.partner ≡ p) × (i.number ≡ k)
  its_found p k far within =
      let there = keeps.there p k far within in
      (there.0, found_only (is_pair p k) rows.interchanges there.0 (keeps.once p k) there.1 (is_pair_at p k there.0 there.2 there.3), there.1, there.2, there.3)

  text_range : (p k : ℕ) (text : List ℕ) (o : Option Interchange) → Found p k o → option_map (λ (i : Interchange). i.body) o ≡ Some text → (1 ≤ p) × (p ≤ count) × (1 ≤ k) × (k ≤ 999999999)
  text_range p k text None e is = absurd cc
  text_range p k text (Some i) e is =
      let pair = found_pair rows p k i e in
      let its = keeps.range i pair.0 in
      (omega (arith, its.0, pair.1), omega (arith, its.1, pair.1), omega (arith, its.2, pair.2), omega (arith, its.3, pair.2))

  -- what stands beyond a partner's run waits
  beyond_run : (p k : ℕ) (i : Interchange) → Found p k (Some i) → runs p < k → (i.partner ≡ p) × (i.number ≡ k) × IsBeyond closed count runs (number_kept i)
  beyond_run p k i e far =
      let pair = found_pair rows p k i e in
      let its = keeps.range i pair.0 in
      let low = keeps.below i.partner its.0 its.1 in
      let own_run : runs i.partner ≡ runs p = ap runs pair.1 in
      (pair.1, pair.2, keeps.beyond i pair.0 (omega (arith, low, own_run, pair.2, far)))

  none_next : (p : ℕ) (o : Option Interchange) → Found p (runs p + 1) o → option_map (λ (i : Interchange). i.body) o ≡ None
  none_next p None e = refl
  none_next p (Some i) e =
      let its = beyond_run p (runs p + 1) i e (omega arith) in
      let own_run : runs i.partner ≡ runs p = ap runs its.0 in
      let waits = its.2.waits (omega (arith, own_run, its.1)) in
      absurd (omega (arith, waits.0, own_run, its.1))

  none_yet : (p k : ℕ) (o : Option Interchange) → Found p k o → runs p < k → option_and_then (λ (i : Interchange). reply_if_any i.reply) o ≡ None
  none_yet p k None e far = refl
  none_yet p k (Some i) e far =
      let its = beyond_run p k i e far in
      let own_run : runs i.partner ≡ runs p = ap runs its.0 in
      let waits = its.2.waits (omega (arith, own_run, its.1, far)) in
      none_of (reply_if_any i.reply) (replies i.reply ∙ waits.1)

  pub by_number : KeepsBeyond closed count runs rows
  by_number = record {
    once = keeps.once;
    within = λ p k text e. text_range p k text (find (is_pair p k) rows.interchanges) refl e;
    there = λ p k far within. ap (λ o. is_some (option_map (λ (i : Interchange). i.body) o)) (its_found p k far within).1;
    taken = λ p k far within.
        let found = its_found p k far within in
        let own_run : runs found.0.partner ≡ runs p = ap runs found.3 in
        let own_closed : closed found.0.partner ≡ closed p = ap closed found.3 in
        ap (λ o. is_some (option_and_then (λ (i : Interchange). reply_if_any i.reply) o)) found.1
        ∙ replies found.0.reply ∙ (keeps.beyond found.0 found.2 (omega (arith, own_closed, found.4, far))).taken (omega (arith, own_run, found.4, within));
    free = λ p. none_next p (find (is_pair p (runs p + 1)) rows.interchanges) refl;
    waits = λ p k far. none_yet p k (find (is_pair p k) rows.interchanges) refl far;
    below = keeps.below;
  }

-- ---- and back

module _ (closed : ℕ → ℕ) (count : ℕ) (runs : ℕ → ℕ) (rows : Rows) (keeps : KeepsBeyond closed count runs rows) where
  found : (i : Interchange) → Contains rows.interchanges i → find (is_pair i.partner i.number) rows.interchanges ≡ Some i
  found i inside = found_only (is_pair i.partner i.number) rows.interchanges i (keeps.once i.partner i.number) inside (is_pair_at i.partner i.number i refl refl)

  own_text : (i : Interchange) → Contains rows.interchanges i → text_in rows i.partner i.number ≡ Some i.body
  own_text i inside = ap (option_map (λ (x : Interchange). x.body)) (found i inside)

  pub own_reply : (i : Interchange) → Contains rows.interchanges i → reply_in rows i.partner i.number ≡ reply_if_any i.reply
  own_reply i inside = ap (option_and_then (λ (x : Interchange). reply_if_any x.reply)) (found i inside)

  past_next : (i : Interchange) → Contains rows.interchanges i → i.number ≡ runs i.partner + 1 → ⊥
  past_next i inside at = let bad : Some i.body ≡ None = sym (own_text i inside) ∙ ap (text_in rows i.partner) at ∙ keeps.free i.partner in cc

  beyond_next : (i : Interchange) → Contains rows.interchanges i → runs i.partner < i.number → runs i.partner + 1 < i.number
  beyond_next i inside beyond = elim (cases_order (runs i.partner + 1) i.number) [
    | inl same ↦ absurd (past_next i inside (sym same))
    | inr o ↦ elim o [ inl below ↦ below | inr above ↦ absurd (omega (arith, above, beyond)) ]
  ]

  body_found : (p k : ℕ) (o : Option Interchange) → find (is_pair p k) rows.interchanges ≡ o → is_some (option_map (λ (x : Interchange). x.body) o) ≡ true → (i : Interchange) × Contains rows.interchanges i × (i.partner ≡ p) × (i.number ≡ k)
  body_found p k None e is = absurd cc
  body_found p k (Some i) e is = let its = found_pair rows p k i e in (i, its.0, its.1, its.2)

  pub by_interchange : KeepsOwn closed count runs rows
  by_interchange = record {
    once = keeps.once;
    range = λ i inside. keeps.within i.partner i.number i.body (own_text i inside);
    beyond = λ i inside far.
        let range = keeps.within i.partner i.number i.body (own_text i inside) in
        record {
          partner_low = range.0;
          partner_high = range.1;
          low = far;
          high = range.3;
          taken = λ within. sym (replies i.reply) ∙ ap is_some (sym (own_reply i inside)) ∙ keeps.taken i.partner i.number far within;
          waits = λ beyond. (beyond_next i inside beyond, sym (replies i.reply) ∙ ap is_some (sym (own_reply i inside) ∙ keeps.waits i.partner i.number beyond));
        };
    there = λ p k far within. body_found p k (find (is_pair p k) rows.interchanges) refl (keeps.there p k far within);
    below = keeps.below;
  }

-- ---- from what is kept in order

-- each is of an account, under a number that there is
abbrev IsRanged : ℕ → NumberKept → Type 0
IsRanged count n = (1 ≤ n.partner) × (n.partner ≤ count) × (1 ≤ n.number) × (n.number ≤ 999999999)

all_ranged : (count p k : ℕ) (ns : List NumberKept) → 1 ≤ p → AreInOrder count p k ns → AllByRecursion (IsRanged count) ns
all_ranged count p k [] one order = tt
all_ranged count p k (n ∷ ns) one order = (first order.0.0, all_ranged count n.partner n.number ns (first order.0.0).0 order.1)
  where
    first : ((n.partner ≡ p) × (k < n.number)) ⊎ ((p < n.partner) × (1 ≤ n.number)) → IsRanged count n
    first (inl near) = (omega (arith, near.0, one), order.0.1, omega (arith, near.1), order.0.2)
    first (inr far) = (omega (arith, far.0), order.0.1, far.1, order.0.2)

-- ---- the accounts

many_from : (id : ℕ) (f : ℕ → ℕ) (accounts : List (List ℕ × PartnerKind)) → length (accounts_from id f accounts) ≡ length accounts
many_from id f [] = refl
many_from id f (account ∷ accounts) = ap suc (many_from (id + 1) f accounts)

pub account_there : (id : ℕ) (f : ℕ → ℕ) (accounts : List (List ℕ × PartnerKind)) (p : ℕ) → id ≤ p → p < id + length accounts → (q : Partner) × Contains (accounts_from id f accounts) q × (q.id ≡ p) × (q.next ≡ f p)
account_there id f [] p low below = absurd (omega (arith, low, below))
account_there id f (account ∷ accounts) p low below = elim (cases_order id p) [
  | inl same ↦ (record { id = id; code = account.0; kind = account.1; next = f id }, head_in _ _, same, ap f same)
  | inr o ↦ elim o [
    | inl less ↦
        let rest = account_there (id + 1) f accounts p (omega (arith, less)) (omega (arith, below)) in
        (rest.0, tail_in _ rest.0 _ rest.1, rest.2, rest.3)
    | inr more ↦ absurd (omega (arith, more, low))
  ]
]

module _ (closed : ℕ → ℕ) (count : ℕ) (runs : ℕ → ℕ) (high : (p : ℕ) → runs p ≤ 999999999) (below : (p : ℕ) → 1 ≤ p → p ≤ count → closed p ≤ runs p) where
  abbrev next : ℕ → ℕ
  next p = runs p + 1

  abbrev AreBeyond : List NumberKept → Type 0
  AreBeyond ns = AllByRecursion (IsBeyond closed count runs) ns

  both_beyond : (ns ms : List NumberKept) → AreBeyond ns → AreBeyond ms → AreBeyond (ns ++ ms)
  both_beyond [] ms one two = two
  both_beyond (n ∷ ns) ms one two = (one.0, both_beyond ns ms one.1 two)

  taken_all : (p from many : ℕ) → 1 ≤ p → p ≤ count → closed p < from → from + many ≤ runs p + 1 → AreBeyond (map (taken_by p) (range_with_len from many))
  taken_all p from zero one most low below = tt
  taken_all p from (suc many) one most low below = (
    record {
      partner_low = one;
      partner_high = most;
      low = low;
      high = omega (arith, below, high p);
      taken = λ within. refl;
      waits = λ far. absurd (omega (arith, far, below));
    },
    taken_all p (from + 1) many one most (omega (arith, low)) (omega (arith, below)),
  )

  waiting_all : (p above : ℕ) (ns : List NumberKept) → 1 ≤ p → p ≤ count → runs p + 1 ≤ above → AreWaiting p above ns → AreBeyond ns
  waiting_all p above [] one most beyond wait = tt
  waiting_all p above (n ∷ ns) one most beyond wait =
      let own : n.partner ≡ p = wait.0 in
      let far : above < n.number = wait.2 in
      let own_run : runs n.partner ≡ runs p = ap runs own in
      let own_closed : closed n.partner ≡ closed p = ap closed own in
      let low = below p one most in (
        record {
          partner_low = omega (arith, own, one);
          partner_high = omega (arith, own, most);
          low = omega (arith, own_closed, low, far, beyond);
          high = wait.3;
          taken = λ within. absurd (omega (arith, within, own_run, far, beyond));
          waits = λ later. (omega (arith, own_run, far, beyond), wait.1);
        },
        waiting_all p n.number ns one most (omega (arith, far, beyond)) wait.4,
      )

  abbrev partner_of : ℕ → List ℕ × PartnerKind → Partner
  partner_of id account = record { id = id; code = account.0; kind = account.1; next = next id }

  abbrev own_taken : ℕ → List NumberKept
  own_taken id = map (taken_by id) (range_with_len (closed id + 1) (runs id - closed id))

  taken_is : (id : ℕ) (account : List ℕ × PartnerKind) → taken_beyond closed (partner_of id account) ≡ own_taken id
  taken_is id account = let many : runs id + 1 - 1 - closed id ≡ runs id - closed id = omega arith in ap (λ c. map (taken_by id) (range_with_len (closed id + 1) c)) many

  all_beyond : (id : ℕ) (accounts : List (List ℕ × PartnerKind)) (ns : List NumberKept) → 1 ≤ id → id + length accounts ≡ count + 1 → AreKeptBeyond closed (accounts_from id next accounts) ns → AreBeyond ns
  all_beyond id [] ns one ends kept = subst AreBeyond (sym kept) tt
  all_beyond id (account ∷ accounts) ns one ends kept =
      let its = kept.3 in
      let most : id ≤ count = omega (arith, ends) in
      let low = below id one most in
      let own = both_beyond (own_taken id) its.waiting (taken_all id (closed id + 1) (runs id - closed id) one most (omega arith) (omega (arith, low))) (waiting_all id (runs id + 1) its.waiting one most (omega arith) its.wait) in
      subst AreBeyond (sym (kept.2 ∙ ap (λ l. l ++ kept.1) (its.are ∙ ap (λ l. l ++ its.waiting) (taken_is id account))))
      (both_beyond _ kept.1 own (all_beyond (id + 1) accounts kept.1 (omega arith) (omega (arith, ends)) kept.4))

  has_beyond : (id : ℕ) (accounts : List (List ℕ × PartnerKind)) (ns : List NumberKept) (p k : ℕ) → AreKeptBeyond closed (accounts_from id next accounts) ns → id ≤ p → p < id + length accounts → closed p < k → k ≤ runs p → Has p k ns
  has_beyond id [] ns p k kept low last far within = absurd (omega (arith, low, last))
  has_beyond id (account ∷ accounts) ns p k kept low last far within =
      let its = kept.3 in
      elim (cases_order id p) [
        | inl same ↦
            let own_run : runs id ≡ runs p = ap runs same in
            let own_closed : closed id ≡ closed p = ap closed same in
            let taken : Has id k (own_taken id) = has_taken id k (closed id + 1) (runs id - closed id) (omega (arith, own_closed, far)) (omega (arith, within, own_run, own_closed, far)) in
            subst (Has p k) (sym (kept.2 ∙ ap (λ l. l ++ kept.1) (its.are ∙ ap (λ l. l ++ its.waiting) (taken_is id account))))
            (subst (λ q. Has q k ((own_taken id ++ its.waiting) ++ kept.1)) same (has_left id k _ kept.1 (has_left id k _ its.waiting taken)))
        | inr o ↦ elim o [
          | inl less ↦ subst (Has p k) (sym kept.2) (has_right p k kept.0 kept.1 (has_beyond (id + 1) accounts kept.1 p k kept.4 (omega (arith, less)) (omega (arith, last)) far within))
          | inr more ↦ absurd (omega (arith, more, low))
        ]
      ]

-- the interchanges beyond what is closed
abbrev zs_beyond : (ℕ → ℕ) → List Interchange → List Interchange
zs_beyond closed zs = filter (is_beyond closed) zs

-- who has a run has an account
account_of : (partners : List Partner) (accounts : List (List ℕ × PartnerKind)) (its : HaveRuns 1 partners accounts) (p : ℕ) → 1 ≤ its.runs p → (1 ≤ p) × (p ≤ length accounts)
account_of partners accounts its p some = elim (cases_order p 0) [
  | inl none ↦ absurd (omega (arith, some, its.below p (omega (arith, none))))
  | inr o ↦ elim o [
    | inl less ↦ absurd (omega (arith, less))
    | inr more ↦ elim (cases_order p (1 + length accounts)) [
      | inl last ↦ absurd (omega (arith, some, its.beyond p (omega (arith, last))))
      | inr far ↦ elim far [
        | inl inside ↦ (omega (arith, more), omega (arith, inside))
        | inr past ↦ absurd (omega (arith, some, its.beyond p (omega (arith, past))))
      ]
    ]
  ]
]

-- the accounts and what is kept for them, in order
pub keeps_own : (closed : ℕ → ℕ) (partners : List Partner) (accounts : List (List ℕ × PartnerKind)) (rows : Rows) (zs : List Interchange) (its : HaveRuns 1 partners accounts) → IsPermutation rows.interchanges zs → AreKeptOnce rows.interchanges →
    AreOwnNumbers closed partners (map number_kept zs) → KeepsOwn closed (length accounts) its.runs rows
keeps_own closed partners accounts rows zs its same once own =
    let runs = its.runs in
    let count = length accounts in
    let many : length partners ≡ count = ap length its.are ∙ many_from 1 (λ p. runs p + 1) accounts in
    let ranged = all_ranged (length partners) 1 0 (map number_kept zs) (omega arith) own.in_order in
    let zs_in : (i : Interchange) → Contains rows.interchanges i → Contains zs i = λ i inside. Contains-permutation rows.interchanges zs i same inside in
    let back : (i : Interchange) → Contains zs i → Contains rows.interchanges i = λ i inside. Contains-permutation zs rows.interchanges i (IsPermutation-sym rows.interchanges zs same) inside in
    let low : (p : ℕ) → 1 ≤ p → p ≤ count → closed p ≤ runs p = λ p one most. (
    let account = account_there 1 (λ q. runs q + 1) accounts p one (omega (arith, most)) in
    let there : Contains partners account.0 = subst (λ l. Contains l account.0) (sym its.are) account.1 in
    let its_own : closed account.0.id < account.0.next = All-contains (IsClosedBelow closed) partners account.0 own.below there in
    let own_closed : closed account.0.id ≡ closed p = ap closed account.2 in
    omega (arith, its_own, own_closed, account.3)) in
    let beyond : AreKeptBeyond closed (accounts_from 1 (λ p. runs p + 1) accounts) (map number_kept (zs_beyond closed zs)) = subst (λ l. AreKeptBeyond closed l (map number_kept (zs_beyond closed zs))) its.are (subst (AreKeptBeyond closed partners) (beyond_numbered closed zs) own.kept) in
    let all = all_beyond closed count runs its.high low 1 accounts (map number_kept (zs_beyond closed zs)) (omega arith) (omega arith) beyond in
    record {
      once = once;
      range = λ i inside. (
          let there = zs_in i inside in
          let r = within_at (IsRanged (length partners)) zs i there.0 ranged there.1 there.2 in
          (r.0, omega (arith, r.1, many), r.2, r.3));
      beyond = λ i inside far. (
          let there = beyond_in closed zs i (zs_in i inside) far in
          within_at (IsBeyond closed count runs) (zs_beyond closed zs) i there.0 all there.1 there.2);
      there = λ p k far within. (
          let known = account_of partners accounts its p (omega (arith, far, within)) in
          let has = has_beyond closed count runs its.high low 1 accounts (map number_kept (zs_beyond closed zs)) p k beyond known.0 (omega (arith, known.1)) far within in
          let there = has_in (zs_beyond closed zs) p k has in
          (there.0, back there.0 (in_beyond closed zs there.0 there.1).0, there.2, there.3));
      below = low;
    }
