-- Two ways of taking that agree on what is taken come to the same.
use Rattle.std.{specs.{Prelude.{Option, Some, ◌==◌, is_some}, Option.{option_or, unwrap_or}}, proofs.lemmas.List.append-nil}
use Rattle.std.proofs.Common.{◌≡◌, ℕ, zero, suc, ◌+◌, ◌-◌, ◌<◌, ◌≤◌, true, false, cond, ◌&&◌, inl, inr, List, [], ◌∷◌, ◌++◌, refl, sym, ◌∙◌, ap, subst, arith, append_assoc, nat_le}
use Rattle.std.proofs.lemmas.Bool.{cond-true, cond-false, le-leb, leb-true, cases_Bool}
use Rattle.partner_core.specs.{Machine.Taking, Deliveries.{Delivery, first_text, is_under, is_used, run}, Cascade.{TakesTexts, for_each_partner}}
use Rattle.partner_core.specs.Order.{numbers_above, numbers_made_next, order_after, order, text_under, state_after, reply_among, state, reply_of}
use Rattle.partner_core.specs.{Keeping.{Holdings, Keeps, TakesRun}, ByPlace.{taken_by_place, AreNumbered, FoldsByPlace, RulesByPlace, GoesOnByNew}}
use Rattle.partner_core.proofs.Orders.{some_of, used_within_run, free_after_run, AllUsed-order, state_after-append, reply_among-append, state_after-texts, reply_among-texts, run_grows}
use Rattle.partner_core.proofs.{OnceEach.first-added, Keepings.keeps_run}

-- ---- two ways of taking

-- they agree on each of these numbers, from whatever state
abbrev Agree : {S : Type 0} → Taking S → Taking S → (ℕ → ℕ → List ℕ) → List (ℕ × ℕ) → Type 0
Agree one two texts [] = Unit {0}
Agree {S} one two texts (e ∷ es) = ((s : S) → one s e.0 (texts e.0 e.1) ≡ two s e.0 (texts e.0 e.1)) × Agree one two texts es

module _ {S : Type 0} (one two : Taking S) (texts : ℕ → ℕ → List ℕ) where
  same_state : (xs : List (ℕ × ℕ)) (s : S) → Agree one two texts xs → state_after one texts xs s ≡ state_after two texts xs s
  same_state [] s a = refl
  same_state (x ∷ xs) s a =
      same_state xs (one s x.0 (texts x.0 x.1)).0 a.1 ∙ ap (λ r. state_after two texts xs r.0) (a.0 s)

  same_replies : (xs : List (ℕ × ℕ)) (s : S) (p k : ℕ) → Agree one two texts xs → reply_among one texts xs s p k ≡ reply_among two texts xs s p k
  same_replies [] s p k a = refl
  same_replies (x ∷ xs) s p k a =
      ap (cond ((x.0 == p) && (x.1 == k)) (Some (one s x.0 (texts x.0 x.1)).1)) (same_replies xs (one s x.0 (texts x.0 x.1)).0 p k a.1)
      ∙ ap (λ r. cond ((x.0 == p) && (x.1 == k)) (Some r.1) (reply_among two texts xs r.0 p k)) (a.0 s)

-- ---- what becomes next between two lists

-- each number is above the one's run and within the other's
abbrev Within : List Delivery → List Delivery → List (ℕ × ℕ) → Type 0
Within low high [] = Unit {0}
Within low high (e ∷ es) = (run low e.0 < e.1) × (e.1 ≤ run high e.0) × Within low high es

Within-append : (low high : List Delivery) (xs ys : List (ℕ × ℕ)) → Within low high xs → Within low high ys → Within low high (xs ++ ys)
Within-append low high [] ys a b = b
Within-append low high (x ∷ xs) ys a b = (a.0, a.1, Within-append low high xs ys a.2 b)

Within-numbers : (low high : List Delivery) (p from count : ℕ) → run low p ≤ from → from + count ≤ run high p → Within low high (numbers_above p from count)
Within-numbers low high p from zero a b = tt
Within-numbers low high p from (suc count) a b = (omega arith, omega arith, Within-numbers low high p (from + 1) count (omega arith) (omega arith))

Within-from : (low higher high : List Delivery) (xs : List (ℕ × ℕ)) → ((p : ℕ) → run low p ≤ run higher p) → Within higher high xs → Within low high xs
Within-from low higher high [] up a = tt
Within-from low higher high (x ∷ xs) up a =
    let l : run low x.0 ≤ run higher x.0 = up x.0 in
    let b : run higher x.0 < x.1 = a.0 in
    (omega arith, a.1, Within-from low higher high xs up a.2)

Within-order_after : (before ds : List Delivery) → Within before (before ++ ds) (order_after before ds)
unfolding numbers_made_next
Within-order_after before [] = tt
Within-order_after before (d ∷ ds) =
    let one = before ++ d ∷ [] in
    let all : one ++ ds ≡ before ++ d ∷ ds = append_assoc before (d ∷ []) ds in
    let low : run before d.partner ≤ run one d.partner = run_grows before (d ∷ []) d.partner in
    let high : run one d.partner ≤ run (before ++ d ∷ ds) d.partner = subst (λ b. run one d.partner ≤ run b d.partner) all (run_grows one ds d.partner) in
    Within-append before (before ++ d ∷ ds) (numbers_made_next before d) (order_after one ds)
    (Within-numbers before (before ++ d ∷ ds) d.partner (run before d.partner) (run one d.partner - run before d.partner) (omega arith) (omega arith))
    (Within-from before one (before ++ d ∷ ds) (order_after one ds) (λ p. run_grows before (d ∷ []) p) (subst (λ b. Within one b (order_after one ds)) all (Within-order_after one ds)))

order_after-append : (before ds es : List Delivery) → order_after before (ds ++ es) ≡ order_after before ds ++ order_after (before ++ ds) es
order_after-append before [] es = ap (λ b. order_after b es) (sym (append-nil before))
order_after-append before (d ∷ ds) es =
    ap (λ o. numbers_made_next before d ++ o) (order_after-append (before ++ d ∷ []) ds es ∙ ap (λ b. order_after (before ++ d ∷ []) ds ++ order_after b es) (append_assoc before (d ∷ []) ds))
    ∙ sym (append_assoc (numbers_made_next before d) (order_after (before ++ d ∷ []) ds) (order_after (before ++ d ∷ ds) es))

-- ---- rules by place

module _ {S : Type 0} (number_of : List ℕ → ℕ) (before : List Delivery) (old new : Taking S) where
  by_old : (p k : ℕ) (text : List ℕ) (s : S) → number_of text ≡ k → k ≤ run before p → taken_by_place number_of before old new s p text ≡ old s p text
  by_old p k text s is low =
      let l : number_of text ≤ run before p = omega arith in
      cond-true (nat_le (number_of text) (run before p)) (old s p text) (new s p text) (le-leb (number_of text) (run before p) l)

  not_within : (a b : ℕ) → b < a → nat_le a b ≡ false
  not_within a b h = elim (cases_Bool (nat_le a b)) [
    | inl e ↦ absurd (let l : a ≤ b = leb-true a b e in omega arith)
    | inr e ↦ e
  ]

  by_new : (p k : ℕ) (text : List ℕ) (s : S) → number_of text ≡ k → run before p < k → taken_by_place number_of before old new s p text ≡ new s p text
  by_new p k text s is high =
      let h : run before p < number_of text = omega arith in
      cond-false (nat_le (number_of text) (run before p)) (old s p text) (new s p text) (not_within (number_of text) (run before p) h)

  -- the text of a number within the run carries that number
  numbered : (all : List Delivery) (p k : ℕ) → AreNumbered number_of all → 1 ≤ k → k ≤ run all p → number_of (text_under all p k) ≡ k
  numbered all p k are one within =
      let there = some_of (first_text all p k) (used_within_run all p k one within) in
      ap (λ o. number_of (unwrap_or o [])) there.1 ∙ are p k there.0 there.1

  agree_old : (all : List Delivery) (xs : List (ℕ × ℕ)) → AreNumbered number_of all → ((p : ℕ) → run before p ≤ run all p) → Within [] before xs → Agree (taken_by_place number_of before old new) old (text_under all) xs
  agree_old all [] are up w = tt
  agree_old all (x ∷ xs) are up w =
      let a : run [] x.0 < x.1 = w.0 in
      let b : x.1 ≤ run before x.0 = w.1 in
      let c : run before x.0 ≤ run all x.0 = up x.0 in
      (λ s. by_old x.0 x.1 (text_under all x.0 x.1) s (numbered all x.0 x.1 are (omega arith) (omega arith)) b, agree_old all xs are up w.2)

  agree_new : (all : List Delivery) (xs : List (ℕ × ℕ)) → AreNumbered number_of all → Within before all xs → Agree (taken_by_place number_of before old new) new (text_under all) xs
  agree_new all [] are w = tt
  agree_new all (x ∷ xs) are w =
      let a : run before x.0 < x.1 = w.0 in
      (λ s. by_new x.0 x.1 (text_under all x.0 x.1) s (numbered all x.0 x.1 are (omega arith) w.1) a, agree_new all xs are w.2)

  -- a run of kept texts beyond the change
  agree_run : (texts : ℕ → Option (List ℕ)) (p low count : ℕ) → run before p ≤ low → ((k : ℕ) (text : List ℕ) → texts k ≡ Some text → number_of text ≡ k)
      → ((k : ℕ) → low < k → k ≤ low + count → is_some (texts k) ≡ true) → Agree (taken_by_place number_of before old new) new (for_each_partner texts) (numbers_above p low count)
  agree_run texts p low zero l are kept = tt
  agree_run texts p low (suc count) l are kept =
      let there = some_of (texts (low + 1)) (kept (low + 1) (omega arith) (omega arith)) in
      let is : number_of (for_each_partner texts p (low + 1)) ≡ low + 1 = ap (λ o. number_of (unwrap_or o [])) there.1 ∙ are (low + 1) there.0 there.1 in
      (λ s. by_new p (low + 1) (for_each_partner texts p (low + 1)) s is (omega arith), agree_run texts p (low + 1) count (omega arith) are (λ k a b. kept k (omega arith) (omega arith)))

  takes_by_place : (p : ℕ) (texts : ℕ → Option (List ℕ)) (count count' : ℕ) (replies replies' : ℕ → Option (List ℕ)) (s s' : S) → run before p ≤ count
      → ((k : ℕ) (text : List ℕ) → texts k ≡ Some text → number_of text ≡ k)
      → TakesTexts new p texts count count' replies replies' s s' → TakesTexts (taken_by_place number_of before old new) p texts count count' replies replies' s s'
  takes_by_place p texts count count' replies replies' s s' low are takes =
      let grows : count ≤ count' = takes.grows in
      let agree = agree_run texts p count (count' - count) low are (λ k a b. takes.kept k a (omega arith)) in
      record {
        grows = takes.grows;
        kept = takes.kept;
        state_is = takes.state_is ∙ sym (same_state (taken_by_place number_of before old new) new (for_each_partner texts) (numbers_above p count (count' - count)) s agree);
        replies_are = λ k. takes.replies_are k ∙ ap (option_or (replies k)) (sym (same_replies (taken_by_place number_of before old new) new (for_each_partner texts) (numbers_above p count (count' - count)) s p k agree));
      }

  goes_on : (opening : S) (later : List Delivery) (d : Delivery) (here there : Holdings S) → AreNumbered number_of ((before ++ later) ++ d ∷ []) →
      Keeps (taken_by_place number_of before old new) opening (before ++ later) here → TakesRun new here there d → Keeps (taken_by_place number_of before old new) opening ((before ++ later) ++ d ∷ []) there
  goes_on opening later d here there are keeps takes =
      let p = d.partner in
      let runs : here.counts p ≡ run (before ++ later) p = keeps.runs p in
      let grows : run before p ≤ run (before ++ later) p = run_grows before later p in
      let is_next : d.number ≡ run (before ++ later) p + 1 = takes.is_next ∙ ap (λ n. n + 1) runs in
      let free : is_used (before ++ later) p d.number ≡ false = ap (is_used (before ++ later) p) is_next ∙ ap is_some (free_after_run (before ++ later) p) in
      let all : (k : ℕ) (text : List ℕ) → there.texts p k ≡ Some text → number_of text ≡ k = λ k text e.
      are p k text (first-added (before ++ later) d free p k ∙ ap (cond (is_under d p k) (Some d.text)) (sym (keeps.firsts p k)) ∙ sym (takes.texts p k) ∙ e) in
      keeps_run (taken_by_place number_of before old new) opening (before ++ later) d here there keeps (record {
        texts = takes.texts;
        is_next = takes.is_next;
        takes = takes_by_place p (there.texts p) (here.counts p) (there.counts p) (here.replies p) (there.replies p) here.state_now there.state_now (omega arith) all takes.takes;
        ends = takes.ends;
        other_counts = takes.other_counts;
        other_replies = takes.other_replies;
      })

  module _ (opening : S) (later : List Delivery) (are : AreNumbered number_of (before ++ later)) where
    first_state : state_after (taken_by_place number_of before old new) (text_under (before ++ later)) (order before) opening ≡ state old opening before
    unfolding state order
    first_state =
        same_state (taken_by_place number_of before old new) old (text_under (before ++ later)) (order_after [] before) opening
        (agree_old (before ++ later) (order_after [] before) are (run_grows before later) (Within-order_after [] before))
        ∙ state_after-texts old before later (order before) opening (AllUsed-order before)

    folds : FoldsByPlace number_of old new opening before later
    unfolding state reply_of order
    folds = record {
      state_is =
          ap (λ xs. state_after (taken_by_place number_of before old new) (text_under (before ++ later)) xs opening) (order_after-append [] before later)
          ∙ state_after-append (taken_by_place number_of before old new) (text_under (before ++ later)) (order_after [] before) (order_after before later) opening
          ∙ ap (state_after (taken_by_place number_of before old new) (text_under (before ++ later)) (order_after before later)) first_state
          ∙ same_state (taken_by_place number_of before old new) new (text_under (before ++ later)) (order_after before later) (state old opening before) (agree_new (before ++ later) (order_after before later) are (Within-order_after before later));
      replies = λ p k.
          ap (λ xs. reply_among (taken_by_place number_of before old new) (text_under (before ++ later)) xs opening p k) (order_after-append [] before later)
          ∙ reply_among-append (taken_by_place number_of before old new) (text_under (before ++ later)) (order_after [] before) (order_after before later) opening p k
          ∙ ap (λ o. option_or o (reply_among (taken_by_place number_of before old new) (text_under (before ++ later)) (order_after before later) (state_after (taken_by_place number_of before old new) (text_under (before ++ later)) (order_after [] before) opening) p k))
          (same_replies (taken_by_place number_of before old new) old (text_under (before ++ later)) (order_after [] before) opening p k (agree_old (before ++ later) (order_after [] before) are (run_grows before later) (Within-order_after [] before))
          ∙ reply_among-texts old before later (order before) opening p k (AllUsed-order before))
          ∙ ap (λ s. option_or (reply_of old opening before p k) (reply_among (taken_by_place number_of before old new) (text_under (before ++ later)) (order_after before later) s p k)) first_state
          ∙ ap (option_or (reply_of old opening before p k)) (same_replies (taken_by_place number_of before old new) new (text_under (before ++ later)) (order_after before later) (state old opening before) p k (agree_new (before ++ later) (order_after before later) are (Within-order_after before later)));
    }

pub rules_by_place : {S : Type 0} (number_of : List ℕ → ℕ) (old new : Taking S) → RulesByPlace number_of old new
rules_by_place number_of old new opening before later are = folds number_of before old new opening later are

pub goes_on_by_new : {S : Type 0} (number_of : List ℕ → ℕ) (old new : Taking S) → GoesOnByNew number_of old new
goes_on_by_new number_of old new opening before later d here there are keeps takes = goes_on number_of before old new opening later d here there are keeps takes
