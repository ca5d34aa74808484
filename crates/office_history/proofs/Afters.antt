-- The rows after one delivery more.
use Rattle.std.{specs.{Prelude.{find, ◌&&◌, ◌==◌, if◌then◌else◌}, Option.{option_map, option_and_then, option_or, unwrap_or}}, proofs.lemmas.Option.same_Some}
use Rattle.std.proofs.Common.{◌≡◌, ◌≢◌, ℕ, suc, ◌+◌, ◌-◌, ◌<◌, ◌≤◌, inl, inr, List, [], ◌∷◌, ◌++◌, length, Bool, true, false, cond, Option, None, Some, is_some, refl, sym, ap, subst, ◌∙◌, arith}
use Rattle.std.proofs.{lemmas.Bool.{and_parts, eq-eqb, eqb-true, ne_eqb, cond-true, cond-false, cases_eq}, lemmas.List.length-map}
use Rattle.std.proofs.lemmas.List.Folds.{find-append}
use Rattle.edi_messages.specs.declared.codes.PartnerKind.{PartnerKind}
use Rattle.partner_core.specs.{Deliveries.{Delivery, delivery, run}, Machine.Taking, Order.{state, reply_of, numbers_above, numbers_between, reply_among}}
use Rattle.partner_core.specs.{Answers.{answer_of, answer_by}, Standings.standing_of, Keeping.{Holdings, Keeps, TakesRun}, Growth.AddsNothing}
use Rattle.partner_core.{specs.Cascade.{TakesTexts, for_each_partner}, proofs.{Keepings.{takes_none, answer-kept}, Orders.none_of}}
use Rattle.partner_core.proofs.OnceEach.{adds_nothing, adds_text, replied_within}
use Rattle.terminal_core.{specs.{Changes.rows_of, State.IsWhole, declared.change.Version.Version}, proofs.{Removed.empty_whole, Applying.empty_formed}}
use Rattle.office_admission.specs.{Setups.SetupContent, Given.IsGiven, Taking.{MachineState, interchange_taken}, TakingLaws.{IsSoundMachine, KeepsSound}}
use Rattle.office_admission.proofs.Forming.{runs_sound}
use Rattle.office_rows.specs.{Rows.{Interchange, Rows}, Effects.{is_pair, with_waiting}}
use Rattle.office_history.specs.{After.{opening_of, empty_yard, accounts_from, reply_if_any, reply_in, AreKeptOnce, AreRowsOf}, Laws.AreRowsByKey}
use Rattle.office_history.{specs.Cascade.{text_in, TakenContent, texts_with, with_run, AreTakenFrom}, proofs.ByKeys.{none_found, none_mapped, once_more}}
use Rattle.office_history.proofs.Runs.{RunLeaves, run_leaves}

-- ---- the rows after deliveries of partners

abbrev held : Taking MachineState → SetupContent → List Delivery → Rows → Holdings MachineState
held taking now D rows = record { texts = text_in rows; counts = run D; replies = reply_in rows; state_now = state taking (opening_of now) D }

held_keeps : (version : Version) (taking : Taking MachineState) (now : SetupContent) (D : List Delivery) (rows : Rows) → AreRowsOf version taking now D rows → Keeps taking (opening_of now) D (held taking now D rows)
held_keeps version taking now D rows are = record { firsts = are.texts; runs = λ p. refl; replies_are = are.replies; state_is = refl }

-- ---- nothing more

nothing_more : (version : Version) (taking : Taking MachineState) (now : SetupContent) (D : List Delivery) (d : Delivery) (rows : Rows) → AreRowsOf version taking now D rows → AddsNothing taking (opening_of now) D d → AreRowsOf version taking now (D ++ d ∷ []) rows
nothing_more version taking now D d rows are adds = record {
  partners = are.partners ∙ sym (λ i. accounts_from 1 (λ p. adds.runs p i + 1) now.partners);
  texts = λ p k. are.texts p k ∙ sym (adds.first p k);
  replies = λ p k. are.replies p k ∙ sym (adds.replies p k);
  kept_once = are.kept_once;
  terminal = are.terminal ∙ ap (λ (m : MachineState). rows_of m.terminal) (sym adds.state_is);
  placed_once = are.placed_once;
  listed_once = are.listed_once;
  settings = are.settings;
  blocks = are.blocks;
}

pub known_adds : (version : Version) (taking : Taking MachineState) (now : SetupContent) (D : List Delivery) (d : Delivery) (rows : Rows) (kept : List ℕ) → AreRowsOf version taking now D rows → text_in rows d.partner d.number ≡ Some kept → AreRowsOf version taking now (D ++ d ∷ []) rows
known_adds version taking now D d rows kept are there =
    nothing_more version taking now D d rows are (adds_nothing taking (opening_of now) D d (ap is_some (sym (are.texts d.partner d.number) ∙ there)))

-- ---- a text more

abbrev waiting : ℕ → ℕ → List ℕ → Interchange
waiting p k text = record { partner = p; number = k; body = text; reply = [] }

text_end : (is : Bool) (text : List ℕ) (p k : ℕ) (o : Option Interchange) → (is ≡ true → option_map (λ (i : Interchange). i.body) o ≡ None)
    → option_map (λ (i : Interchange). i.body) (option_or o (cond is (Some (waiting p k text)) None)) ≡ cond is (Some text) (option_map (λ (i : Interchange). i.body) o)
text_end true text p k (Some i) free = let bad : Some i.body ≡ None = free refl in cc
text_end true text p k None free = refl
text_end false text p k None free = refl
text_end false text p k (Some i) free = refl

reply_end : (is : Bool) (text : List ℕ) (p k : ℕ) (o : Option Interchange)
    → option_and_then (λ (i : Interchange). reply_if_any i.reply) (option_or o (cond is (Some (waiting p k text)) None)) ≡ option_and_then (λ (i : Interchange). reply_if_any i.reply) o
reply_end true text p k None = refl
reply_end true text p k (Some i) = refl
reply_end false text p k None = refl
reply_end false text p k (Some i) = refl

pub pair_is : (p k q j : ℕ) → ((p == q) && (k == j)) ≡ true → (q ≡ p) × (j ≡ k)
pair_is p k q j e = let parts = and_parts (p == q) (k == j) e in (sym (eqb-true p q parts.0), sym (eqb-true k j parts.1))

pub text_with : (rows : Rows) (p k : ℕ) (text : List ℕ) → text_in rows p k ≡ None → (q j : ℕ) → text_in (with_waiting p k text rows) q j ≡ (if (p == q) && (k == j) then Some text else text_in rows q j)
text_with rows p k text free q j =
    ap (option_map (λ (i : Interchange). i.body)) (find-append (is_pair q j) rows.interchanges (waiting p k text ∷ []))
    ∙ text_end ((p == q) && (k == j)) text p k (find (is_pair q j) rows.interchanges) (λ e. let is = pair_is p k q j e in ap (λ r. text_in rows r j) is.0 ∙ ap (text_in rows p) is.1 ∙ free)

pub reply_with : (rows : Rows) (p k : ℕ) (text : List ℕ) (q j : ℕ) → reply_in (with_waiting p k text rows) q j ≡ reply_in rows q j
reply_with rows p k text q j =
    ap (option_and_then (λ (i : Interchange). reply_if_any i.reply)) (find-append (is_pair q j) rows.interchanges (waiting p k text ∷ []))
    ∙ reply_end ((p == q) && (k == j)) text p k (find (is_pair q j) rows.interchanges)

pub once_with : (rows : Rows) (p k : ℕ) (text : List ℕ) → text_in rows p k ≡ None → AreKeptOnce rows.interchanges → AreKeptOnce (with_waiting p k text rows).interchanges
once_with rows p k text free once q j =
    once_more (is_pair q j) rows.interchanges (waiting p k text) ((p == q) && (k == j)) refl (once q j)
    (λ e. let is = pair_is p k q j e in none_found (is_pair q j) rows.interchanges (ap (λ r. find (is_pair r j) rows.interchanges) is.0 ∙ ap (λ r. find (is_pair p r) rows.interchanges) is.1 ∙ none_mapped (λ (i : Interchange). i.body) (find (is_pair p k) rows.interchanges) free))

pub early_keeps : (version : Version) (taking : Taking MachineState) (now : SetupContent) (D : List Delivery) (p k : ℕ) (text : List ℕ) (rows : Rows) → AreRowsOf version taking now D rows → text_in rows p k ≡ None → run D p + 1 < k
    → AreRowsOf version taking now (D ++ delivery p k text ∷ []) (with_waiting p k text rows)
early_keeps version taking now D p k text rows are free early =
    let d = delivery p k text in
    let adds = adds_text taking (opening_of now) D d (ap is_some (sym (are.texts p k) ∙ free)) early in
    record {
      partners = are.partners ∙ sym (λ i. accounts_from 1 (λ q. adds.runs q i + 1) now.partners);
      texts = λ q j. text_with rows p k text free q j ∙ ap (cond ((p == q) && (k == j)) (Some text)) (are.texts q j) ∙ sym (adds.first q j);
      replies = λ q j. reply_with rows p k text q j ∙ are.replies q j ∙ sym (adds.replies q j);
      kept_once = once_with rows p k text free are.kept_once;
      terminal = are.terminal ∙ ap (λ (m : MachineState). rows_of m.terminal) (sym adds.state_is);
      placed_once = are.placed_once;
      listed_once = are.listed_once;
      settings = are.settings;
      blocks = are.blocks;
    }

-- ---- a run more

-- the opening is sound, and so is what any run leaves
opening_sound : (now : SetupContent) → IsGiven now → IsSoundMachine (opening_of now)
opening_sound now given =
    let few : length now.partners ≤ 999 = given.counted.1 in
    let same : length (opening_of now).kinds ≡ length now.partners = length-map now.partners _ in
    record {
      few = omega arith;
      whole = empty_whole (empty_yard now) now.visit_limit given.plan refl;
      one_by_one = tt;
      formed = empty_formed (empty_yard now) now.visit_limit refl;
    }

pub state_sound : (taking : Taking MachineState) (now : SetupContent) (D : List Delivery) → KeepsSound taking → IsGiven now → IsSoundMachine (state taking (opening_of now) D)
state_sound taking now D sound given = runs_sound taking (opening_of now) D sound (opening_sound now given)

-- no reply is kept above the run
pub unreplied : (version : Version) (taking : Taking MachineState) (now : SetupContent) (D : List Delivery) (rows : Rows) (p k : ℕ) → AreRowsOf version taking now D rows → run D p + 1 ≤ k → reply_in rows p k ≡ None
unreplied version taking now D rows p k are beyond = none_of (reply_in rows p k) (none (is_some (reply_in rows p k)) refl)
  where
    none : (b : Bool) → is_some (reply_in rows p k) ≡ b → is_some (reply_in rows p k) ≡ false
    none true e =
        let within = replied_within taking (opening_of now) D p k (sym (ap is_some (are.replies p k)) ∙ e) in
        absurd (omega (arith, within.1))
    none false e = e

-- what is left of the rows by a text that is kept and then taken, and those after it
pub record RunTaken (accounts : List (List ℕ × PartnerKind)) (runs : ℕ → ℕ) (machine : MachineState) (rows : Rows) (p k : ℕ) (text : List ℕ) (last : ℕ) (new : Rows) (machine' : MachineState) : Type 0 where
  pub by_key : AreRowsByKey new (rows_of machine'.terminal)
  pub texts : (q j : ℕ) → text_in new q j ≡ (if (p == q) && (k == j) then Some text else text_in rows q j)
  pub takes : TakesTexts interchange_taken p (text_in new p) (runs p) last (reply_in rows p) (reply_in new p) machine machine'
  pub other : (q j : ℕ) → q ≢ p → reply_in new q j ≡ reply_in rows q j
  pub once : AreKeptOnce new.interchanges
  pub partners : new.partners ≡ accounts_from 1 (λ q. (if q == p then last else runs q) + 1) accounts
  pub settings : new.settings ≡ rows.settings
  pub blocks : new.blocks ≡ rows.blocks
  pub ends : text_in new p (last + 1) ≡ None

module _ (accounts : List (List ℕ × PartnerKind)) (runs : ℕ → ℕ) (machine machine' : MachineState) (rows : Rows) (p k : ℕ) (text : List ℕ) (taken : List TakenContent)
    (partners : rows.partners ≡ accounts_from 1 (λ q. runs q + 1) accounts) (whole : IsWhole machine.terminal) (by_key : AreRowsByKey rows (rows_of machine.terminal)) (once : AreKeptOnce rows.interchanges)
    (waits : (j : ℕ) → runs p + 1 ≤ j → reply_in rows p j ≡ None) (free : text_in rows p k ≡ None) (is_next : k ≡ runs p + 1) (from : AreTakenFrom p (texts_with rows p k text) k machine taken machine') where
  abbrev kept : Rows
  kept = with_waiting p k text rows

  abbrev left : Rows
  left = with_run p k text taken rows

  abbrev last : ℕ
  last = runs p + length taken

  itself : (p == p) ≡ true
  itself = eq-eqb p p refl

  kept_texts : (j : ℕ) → text_in kept p j ≡ texts_with rows p k text j
  kept_texts j = text_with rows p k text free p j ∙ ap (λ b. cond (b && (k == j)) (Some text) (text_in rows p j)) itself

  leaves : RunLeaves p (texts_with rows p k text) (runs p) last (reply_in kept p) machine accounts (λ q. runs q + 1) kept left machine'
  leaves = run_leaves taken p (texts_with rows p k text) (runs p) (runs p) (reply_in kept p) machine machine machine' accounts (λ q. runs q + 1) kept
      (takes_none interchange_taken p (texts_with rows p k text) (runs p) (reply_in kept p) machine)
      (subst (λ n. AreTakenFrom p (texts_with rows p k text) n machine taken machine') is_next from)
      whole
      (record { same = by_key.same; placed_once = by_key.placed_once; listed_once = by_key.listed_once })
      (once_with rows p k text free once)
      kept_texts
      (λ j later. reply_with rows p k text p j ∙ waits j later)
      partners refl

  own_texts : texts_with rows p k text ≡ text_in left p
  own_texts i j = (sym (kept_texts j) ∙ sym (leaves.texts_same p j)) i

  own_replies : reply_in kept p ≡ reply_in rows p
  own_replies i j = reply_with rows p k text p j i

  nexts_at : (q : ℕ) → leaves.nexts q ≡ (if q == p then last else runs q) + 1
  nexts_at q = elim (cases_eq q p) [
    | inl e ↦ ap leaves.nexts e ∙ leaves.own_next ∙ ap (λ n. n + 1) (sym (cond-true (q == p) last (runs q) (eq-eqb q p e)))
    | inr ne ↦ leaves.other_next q ne ∙ ap (λ n. n + 1) (sym (cond-false (q == p) last (runs q) (ne_eqb q p ne)))
  ]

  pub run_taken : RunTaken accounts runs machine rows p k text last left machine'
  run_taken = record {
    by_key = leaves.by_key;
    texts = λ q j. leaves.texts_same q j ∙ text_with rows p k text free q j;
    takes = subst (λ f. TakesTexts interchange_taken p f (runs p) last (reply_in rows p) (reply_in left p) machine machine') own_texts
        (subst (λ f. TakesTexts interchange_taken p (texts_with rows p k text) (runs p) last f (reply_in left p) machine machine') own_replies leaves.takes);
    other = λ q j apart. leaves.other q j apart ∙ reply_with rows p k text q j;
    once = leaves.once;
    partners = leaves.partners ∙ (λ i. accounts_from 1 (λ q. nexts_at q i) accounts);
    settings = leaves.settings;
    blocks = leaves.blocks;
    ends = ap (λ f. f (last + 1)) (sym own_texts) ∙ leaves.ends;
  }

-- a run that is taken by the rules in force goes on from the fold by those rules
abbrev pub GoesOn : Taking MachineState → SetupContent → List Delivery → Delivery → Type 0
GoesOn taking now D d = (here there : Holdings MachineState) → Keeps taking (opening_of now) D here → TakesRun interchange_taken here there d → Keeps taking (opening_of now) (D ++ d ∷ []) there

-- what is left of a run
pub record RunMore (version : Version) (taking : Taking MachineState) (now : SetupContent) (D : List Delivery) (p k : ℕ) (text : List ℕ) (count : ℕ) (rows : Rows) (machine' : MachineState) : Type 0 where
  pub rows_are : AreRowsOf version taking now (D ++ delivery p k text ∷ []) rows
  pub machine : machine' ≡ state taking (opening_of now) (D ++ delivery p k text ∷ [])
  pub ends : run (D ++ delivery p k text ∷ []) p + 1 ≡ k + count

module _ (version : Version) (taking : Taking MachineState) (now : SetupContent) (D : List Delivery) (p k : ℕ) (text : List ℕ) (rows : Rows) (taken : List TakenContent) (machine' : MachineState)
    (sound : KeepsSound taking) (goes_on : GoesOn taking now D (delivery p k text)) (given : IsGiven now) (are : AreRowsOf version taking now D rows) (free : text_in rows p k ≡ None) (is_next : k ≡ run D p + 1)
    (from : AreTakenFrom p (texts_with rows p k text) k (state taking (opening_of now) D) taken machine') where
  abbrev d : Delivery
  d = delivery p k text

  abbrev machine : MachineState
  machine = state taking (opening_of now) D

  abbrev run_end : ℕ
  run_end = run D p + length taken

  abbrev rows_left : Rows
  rows_left = with_run p k text taken rows

  taken_so : RunTaken now.partners (run D) machine rows p k text run_end rows_left machine'
  taken_so = run_taken now.partners (run D) machine machine' rows p k text taken are.partners (state_sound taking now D sound given).whole
      (record { same = are.terminal; placed_once = are.placed_once; listed_once = are.listed_once }) are.kept_once
      (λ j later. unreplied version taking now D rows p j are later) free is_next from

  abbrev counts : ℕ → ℕ
  counts q = if q == p then run_end else run D q

  abbrev new_held : Holdings MachineState
  new_held = record { texts = text_in rows_left; counts = counts; replies = reply_in rows_left; state_now = machine' }

  counts_here : counts p ≡ run_end
  counts_here = cond-true (p == p) run_end (run D p) (eq-eqb p p refl)

  takes_run : TakesRun interchange_taken (held taking now D rows) new_held d
  takes_run = record {
    texts = taken_so.texts;
    is_next = is_next;
    takes = subst (λ n. TakesTexts interchange_taken p (text_in rows_left p) (run D p) n (reply_in rows p) (reply_in rows_left p) machine machine') (sym counts_here) taken_so.takes;
    ends = ap (λ n. text_in rows_left p (n + 1)) counts_here ∙ taken_so.ends;
    other_counts = λ q apart. cond-false (q == p) run_end (run D q) (ne_eqb q p apart);
    other_replies = taken_so.other;
  }

  keeps : Keeps taking (opening_of now) (D ++ d ∷ []) new_held
  keeps = goes_on (held taking now D rows) new_held (held_keeps version taking now D rows are) takes_run

  pub run_more : RunMore version taking now D p k text (length taken) rows_left machine'
  run_more = record {
    rows_are = record {
      partners = taken_so.partners ∙ (λ i. accounts_from 1 (λ q. keeps.runs q i + 1) now.partners);
      texts = keeps.firsts;
      replies = keeps.replies_are;
      kept_once = taken_so.once;
      terminal = taken_so.by_key.same ∙ ap (λ (m : MachineState). rows_of m.terminal) keeps.state_is;
      placed_once = taken_so.by_key.placed_once;
      listed_once = taken_so.by_key.listed_once;
      settings = taken_so.settings ∙ are.settings;
      blocks = taken_so.blocks ∙ are.blocks;
    };
    machine = keeps.state_is;
    ends = ap (λ n. n + 1) (sym (keeps.runs p) ∙ counts_here) ∙ omega (arith, is_next);
  }

-- the reply to the first of the run
pub first_reply : (version : Version) (taking : Taking MachineState) (now : SetupContent) (D : List Delivery) (p k : ℕ) (text : List ℕ) (rows : Rows) (first : TakenContent) (later : List TakenContent) (machine' : MachineState)
    → (sound : KeepsSound taking) → (goes_on : GoesOn taking now D (delivery p k text)) → IsGiven now → (are : AreRowsOf version taking now D rows) → (free : text_in rows p k ≡ None) → (is_next : k ≡ run D p + 1)
    → (from : AreTakenFrom p (texts_with rows p k text) k (state taking (opening_of now) D) (first ∷ later) machine')
    → reply_of taking (opening_of now) (D ++ delivery p k text ∷ []) p k ≡ Some first.reply
first_reply version taking now D p k text rows first later machine' sound goes_on given are free is_next from =
    let taken : List TakenContent = first ∷ later in
    let machine = state taking (opening_of now) D in
    let texts = text_in (with_run p k text taken rows) p in
    let left = taken_so version taking now D p k text rows taken machine' sound goes_on given are free is_next from in
    let kept_all = keeps version taking now D p k text rows taken machine' sound goes_on given are free is_next from in
    let low = run D p in
    let here : (p == p) && (low + 1 == k) ≡ true = ap (λ b. b && (low + 1 == k)) (eq-eqb p p refl) ∙ eq-eqb (low + 1) k (sym is_next) in
    let many : low + length taken - low ≡ suc (length later) = omega arith in
    let own : texts k ≡ Some text = left.texts p k ∙ cond-true ((p == p) && (k == k)) (Some text) (text_in rows p k) (ap (λ b. b && (k == k)) (eq-eqb p p refl) ∙ eq-eqb k k refl) in
    let given_text : text ≡ from.0 = same_Some text from.0 (sym (cond-true (k == k) (Some text) (text_in rows p k) (eq-eqb k k refl)) ∙ from.1) in
    let among : reply_among interchange_taken (for_each_partner texts) (numbers_between p low (low + length taken)) machine p k ≡ Some first.reply =
    ap (λ n. reply_among interchange_taken (for_each_partner texts) (numbers_above p low n) machine p k) many
    ∙ cond-true ((p == p) && (low + 1 == k)) (Some (interchange_taken machine p (for_each_partner texts p (low + 1))).1)
    (reply_among interchange_taken (for_each_partner texts) (numbers_above p (low + 1) (length later)) (interchange_taken machine p (for_each_partner texts p (low + 1))).0 p k) here
    ∙ ap (λ n. Some (interchange_taken machine p (unwrap_or (texts n) [])).1) (sym is_next)
    ∙ ap (λ o. Some (interchange_taken machine p (unwrap_or o [])).1) own
    ∙ ap (λ t. Some (interchange_taken machine p t).1) given_text
    ∙ ap Some (sym from.3) in
    let none : reply_in rows p k ≡ None = unreplied version taking now D rows p k are (omega (arith, is_next)) in
    sym (kept_all.replies_are p k)
    ∙ left.takes.replies_are k
    ∙ ap (λ o. option_or o (reply_among interchange_taken (for_each_partner texts) (numbers_between p low (low + length taken)) machine p k)) none
    ∙ among

-- ---- answers

pub answered : (version : Version) (taking : Taking MachineState) (now : SetupContent) (D : List Delivery) (p k : ℕ) (text : List ℕ) (rows : Rows) → AreRowsOf version taking now D rows → 1 ≤ k
    → answer_of taking (opening_of now) D (delivery p k text)
    ≡ answer_by (standing_of (run D p + 1) k (text_in rows p k) text) (run D p + 1) (reply_in rows p k) (reply_of taking (opening_of now) (D ++ delivery p k text ∷ []) p k)
answered version taking now D p k text rows are one = answer-kept taking (opening_of now) D (delivery p k text) (held taking now D rows) (held_keeps version taking now D rows are) one
