-- What is away stays away.
use Rattle.std.specs.Prelude.{filter, find, not, ◌&&◌, ◌==◌, IsPermutation}
use Rattle.std.specs.Option.{option_map, option_or}
use Rattle.std.specs.Str.{bytes_eq}
use Rattle.std.{specs.Cmp.Lexicographic.bytes_decides, proofs.lemmas.Bool.{and_parts, eqb-true, eq-eqb, cond-true, cases_eq}}
use Rattle.std.proofs.Common.{◌≡◌, ℕ, ◌+◌, List, [], ◌∷◌, ◌++◌, map, Bool, true, false, cond, Option, None, Some, refl, sym, ap, subst, ◌∙◌, arith, ◌<◌, ◌≤◌, inl, inr, length}
use Rattle.std.proofs.{lemmas.List.{append-nil, length-map}, lemmas.List.Elements.{filter-append, All-from_recursion, recursion_from_All}}
use Rattle.std.proofs.lemmas.List.Sorted.{IsPermutation-sym, IsPermutation-trans, All-permutation}
use Rattle.box6346.specs.declared.box_number.BoxNumber.{BoxNumber}
use Rattle.edi_messages.specs.Purposes.{CallContent}
use Rattle.terminal_core.specs.{declared.lines.LineState.TheVariants.{Pending, Done}, declared.lines.Side.Side, State.{side_code, line_key}, Versions.newest}
use Rattle.terminal_core.specs.Rows.{ChangeContent, visit_opened, visit_closed, placed_at, moved_to, removed_from, listed_on, line_done, unlisted}
use Rattle.terminal_core.proofs.Lined.{same_key}
use Rattle.office_rows.specs.{Rows.{Interchange, ListingContent, Rows}, Effects.{is_line, is_pair, with_change, with_reply, with_waiting}}
use Rattle.office_admission.specs.{Taking.{MachineState, interchange_taken}, Accounts.content_after, Deliveries.deliveries_of, Setups.SetupContent}
use Rattle.office_admission.proofs.{Forming.runs_alone, Takings.kind_still}
use Rattle.office_history.specs.Cascade.{text_in, TakenContent, AreTakenFrom, with_changes, with_interchange, with_interchanges, texts_with, with_run}
use Rattle.office_history.{specs.After.{machine_after, machine_with, opening_of, taking_in}, proofs.{ByKeys.find_mapped, Afters.{pair_is, text_with}}}
use Rattle.office_history.proofs.{Ground.account_adds_row, Lawful.{early_adds, now_same}, Places.alone_in, Accounted.text_within}
use Rattle.office_parts.specs.{OwnLists.{ListName, list_name}, Bringing.{is_list, is_of, lines_of, all_but}, ListLaws.NameOwnLists, Archives.Archive}
use Rattle.office_parts.specs.{Parts.{Archived, ArePartsAfter}, Away.{ArePutAway, HasDoneLine, lines_away, lists_after}, Done.IsDoneLine}
use Rattle.office_parts.{specs.{Naming.{AreHere, interchange_lists, lists_named_by}, ListParts.AddsWithoutLists}, proofs.Orders.body_there}
use Rattle.office_parts.specs.Staying.{NextNamesNoneAway, AwayStaysWithoutRow, AwayStaysWithEarly, AwayStaysWithNext, AwayStaysWithAccount, OthersStayAway, NoLineIsAway, OtherLinesAreThere, ListsThatCameBackHaveLines}
use Rattle.office_parts.proofs.{BringingLemmas.{twice, same_tests, own_get, own_there}, ListTakings.named_same, Writings.{IsHere, AllHere, changes_here}}
use Rattle.office_parts.proofs.{Takings.free_in_whole, DoneLemmas.run_stays_done}
use Rattle.sqlite_trees.proofs.ListLemmas.{IsPermutation-filter}
use Rattle.edi_syntax.specs.Interchange.{interchange_of}
use Rattle.partner_core.specs.Deliveries.{run}
use Rattle.office_replies.specs.Events.{Event, added, delivered}
use Rattle.std.specs.FinMap as finite_map

-- ==== Untouched: What a run leaves as it is: the lines of the lists that are away, and the texts that are kept.

-- ---- the lines of a list that is away

-- a line is of the list that it is found in
named : (call : CallContent) (side : Side) (container : BoxNumber) (l : ListingContent) → is_line call side container l ≡ true → list_name l.call l.side ≡ list_name call side
named call side container l e =
    let first = and_parts (bytes_eq l.call.vessel call.vessel) (bytes_eq l.call.voyage call.voyage && ((side_code l.side == side_code side) && bytes_eq l.container container)) e in
    let second = and_parts (bytes_eq l.call.voyage call.voyage) ((side_code l.side == side_code side) && bytes_eq l.container container) first.1 in
    let third = and_parts (side_code l.side == side_code side) (bytes_eq l.container container) second.1 in
    let vessel : l.call.vessel ≡ call.vessel = (bytes_decides l.call.vessel call.vessel).0 first.0 in
    let voyage : l.call.voyage ≡ call.voyage = (bytes_decides l.call.voyage call.voyage).0 second.0 in
    let code : side_code l.side ≡ side_code side = eqb-true (side_code l.side) (side_code side) third.0 in
    λ i. vessel i ∷ voyage i ∷ (code i ∷ []) ∷ []

module _ (away : ListName → Bool) (list : ListName) (gone : away list ≡ true) where
  -- a list that is not away is another
  other_list : (call : CallContent) (side : Side) → away (list_name call side) ≡ false → is_list list (list_name call side) ≡ false
  other_list call side here = by (is_list list (list_name call side)) refl
    where
      by : (is : Bool) → is_list list (list_name call side) ≡ is → is ≡ false
      by true e = let no : true ≡ false = sym gone ∙ ap away (same_key list (list_name call side) e) ∙ here in cc
      by false e = refl

  other_line : (call : CallContent) (side : Side) (container : BoxNumber) (l : ListingContent) → away (list_name call side) ≡ false → is_of list l ≡ true → is_line call side container l ≡ false
  other_line call side container l here its = by (is_line call side container l) refl
    where
      by : (is : Bool) → is_line call side container l ≡ is → is ≡ false
      by true e = let no : true ≡ false = sym its ∙ ap (is_list list) (named call side container l e) ∙ other_list call side here in cc
      by false e = refl

  abbrev with_done : CallContent → Side → BoxNumber → ListingContent → ListingContent
  with_done call side container l = cond (is_line call side container l) (record l { state = Done }) l

  done_apart : (call : CallContent) (side : Side) (container : BoxNumber) → away (list_name call side) ≡ false → (lines : List ListingContent)
      → filter (is_of list) (map (with_done call side container) lines) ≡ filter (is_of list) lines
  done_apart call side container here [] = refl
  done_apart call side container here (l ∷ lines) =
      by (map (with_done call side container) lines) (is_line call side container l) (is_of list l) refl refl (done_apart call side container here lines)
    where
      by : (later : List ListingContent) (is its : Bool) → is_line call side container l ≡ is → is_of list l ≡ its → filter (is_of list) later ≡ filter (is_of list) lines
          → filter (is_of list) (cond is (record l { state = Done }) l ∷ later) ≡ cond its (l ∷ filter (is_of list) lines) (filter (is_of list) lines)
      by later true true e o rest = let no : true ≡ false = sym e ∙ other_line call side container l here o in cc
      by later true false e o rest = ap (λ b. cond b ((record l { state = Done }) ∷ filter (is_of list) later) (filter (is_of list) later)) o ∙ rest
      by later false true e o rest = ap (λ b. cond b (l ∷ filter (is_of list) later) (filter (is_of list) later)) o ∙ ap (λ ls. l ∷ ls) rest
      by later false false e o rest = ap (λ b. cond b (l ∷ filter (is_of list) later) (filter (is_of list) later)) o ∙ rest

  spares : (is its : Bool) → (its ≡ true → is ≡ false) → (not is && its) ≡ its
  spares true true e = let no : true ≡ false = e refl in cc
  spares true false e = refl
  spares false its e = refl

  change_apart : (change : ChangeContent) (rows : Rows) → IsHere away change → lines_of list (with_change change rows) ≡ lines_of list rows
  change_apart (visit_opened visit) rows here = refl
  change_apart (visit_closed number departure) rows here = refl
  change_apart (placed_at container visit slot) rows here = refl
  change_apart (moved_to container slot) rows here = refl
  change_apart (removed_from container) rows here = refl
  change_apart (listed_on call side container port) rows here =
      let new : ListingContent = record { call = call; side = side; container = container; port = port; state = Pending } in
      filter-append (is_of list) rows.lines (new ∷ [])
      ∙ ap (λ b. filter (is_of list) rows.lines ++ cond b (new ∷ []) []) (other_list call side here)
      ∙ append-nil (filter (is_of list) rows.lines)
  change_apart (line_done call side container) rows here = done_apart call side container here rows.lines
  change_apart (unlisted call side container) rows here =
      twice (λ l. not (is_line call side container l)) (is_of list) rows.lines
      ∙ same_tests _ _ (λ (l : ListingContent). spares (is_line call side container l) (is_of list l) (other_line call side container l here)) rows.lines

  changes_apart : (changes : List ChangeContent) (rows : Rows) → AllHere away changes → lines_of list (with_changes changes rows) ≡ lines_of list rows
  changes_apart [] rows all = refl
  changes_apart (change ∷ changes) rows all = changes_apart changes (with_change change rows) all.1 ∙ change_apart change rows all.0

  -- a run whose texts name none that is away leaves its lines
  pub run_apart : (partner : ℕ) (texts : ℕ → Option (List ℕ)) (number : ℕ) (machine : MachineState) (taken : List TakenContent) (machine' : MachineState) (rows : Rows) → NameOwnLists away machine partner texts number → AreTakenFrom partner texts number machine taken machine'
      → lines_of list (with_interchanges partner taken rows) ≡ lines_of list rows
  run_apart partner texts number machine [] machine' rows here from = refl
  run_apart partner texts number machine (t ∷ taken) machine' rows here from =
      let text : List ℕ = from.0 in
      let all : AllHere away t.changes = subst (AllHere away) (sym from.4) (changes_here away newest machine partner text (here number text (omega arith) from.1)) in
      run_apart partner texts (number + 1) (interchange_taken machine partner text).0 taken machine' (with_interchange partner t rows) (named_same away machine partner texts number text here) from.5
      ∙ changes_apart t.changes rows all

-- ---- the texts that are kept

module _ (p n : ℕ) (reply : List ℕ) where
  abbrev replied : Interchange → Interchange
  replied i = cond (is_pair p n i) (record i { reply = reply }) i

  same_pair : (is : Bool) (q k : ℕ) (i : Interchange) → is_pair q k (cond is (record i { reply = reply }) i) ≡ is_pair q k i
  same_pair true q k i = refl
  same_pair false q k i = refl

  same_body : (is : Bool) (i : Interchange) → (cond is (record i { reply = reply }) i).body ≡ i.body
  same_body true i = refl
  same_body false i = refl

  bodies : (o : Option Interchange) → body_there (option_map replied o) ≡ body_there o
  bodies None = refl
  bodies (Some i) = ap Some (same_body (is_pair p n i) i)

  text_replied : (rows : Rows) (q k : ℕ) → text_in (with_reply p n reply rows) q k ≡ text_in rows q k
  text_replied rows q k = ap body_there (find_mapped (is_pair q k) replied (λ i. same_pair (is_pair p n i) q k i) rows.interchanges) ∙ bodies (find (is_pair q k) rows.interchanges)

text_changed : (change : ChangeContent) (rows : Rows) (q k : ℕ) → text_in (with_change change rows) q k ≡ text_in rows q k
text_changed (visit_opened visit) rows q k = refl
text_changed change rows q k = refl

texts_changed : (changes : List ChangeContent) (rows : Rows) (q k : ℕ) → text_in (with_changes changes rows) q k ≡ text_in rows q k
texts_changed [] rows q k = refl
texts_changed (change ∷ changes) rows q k = texts_changed changes (with_change change rows) q k ∙ text_changed change rows q k

-- a run keeps each text
pub texts_kept : (p : ℕ) (taken : List TakenContent) (rows : Rows) (q k : ℕ) → text_in (with_interchanges p taken rows) q k ≡ text_in rows q k
texts_kept p [] rows q k = refl
texts_kept p (t ∷ taken) rows q k =
    texts_kept p taken (with_interchange p t rows) q k
    ∙ text_replied p t.number t.reply (with_changes t.changes rows) q k
    ∙ texts_changed t.changes rows q k

-- ==== AwayLemmas: What is away stays away.

-- ---- one archive more

-- what it has of a list was put away last
pub away_with : (archives : List Archive) (one : Archive) (list : ListName) → lines_away (archives ++ one ∷ []) list ≡ option_or (one.lists list) (lines_away archives list)
away_with [] one list = by (one.lists list)
  where
    by : (o : Option (List ListingContent)) → o ≡ option_or o None
    by None = refl
    by (Some kept) = refl
away_with (archive ∷ archives) one list = ap (λ o. option_or o (archive.lists list)) (away_with archives one list) ∙ by (one.lists list)
  where
    by : (o : Option (List ListingContent)) → option_or (option_or o (lines_away archives list)) (archive.lists list) ≡ option_or o (option_or (lines_away archives list) (archive.lists list))
    by None = refl
    by (Some kept) = refl

-- ---- what a text names

-- by the accounts so far
abbrev named_in : SetupContent → ℕ → List ℕ → List ListName
named_in now partner text = interchange_lists newest now.codes (opening_of now).kinds partner text

machine_is : (content : SetupContent) (es : List Event) → machine_after content es ≡ machine_with (content_after content es) (machine_after content es).terminal
machine_is content es = runs_alone (taking_in newest content es) (opening_of (content_after content es)) (deliveries_of content es) (alone_in newest content es)

lists_are : (content : SetupContent) (es : List Event) (partner : ℕ) (text : List ℕ) → lists_after content es partner text ≡ named_in (content_after content es) partner text
lists_are content es partner text = ap (λ (m : MachineState). interchange_lists newest m.codes m.kinds partner text) (machine_is content es)

-- a delivery changes nothing of it
lists_stay : (content : SetupContent) (es : List Event) (sent : List ℕ) (partner : ℕ) (text : List ℕ) → lists_after content (es ++ delivered sent ∷ []) partner text ≡ lists_after content es partner text
lists_stay content es sent partner text =
    lists_are content (es ++ delivered sent ∷ []) partner text
    ∙ ap (λ (now : SetupContent). named_in now partner text) (now_same content es sent)
    ∙ sym (lists_are content es partner text)

-- ---- deliveries

pub next_names : NextNamesNoneAway
next_names content es archives away own sent p n are is here k text above there = by (n == k) there
  where
    by : (tie : Bool) → cond tie (Some (interchange_of sent)) (text_in own p k) ≡ Some text → AreHere away (lists_after content es p text)
    by true has = let same : interchange_of sent ≡ text = cc in subst (λ t. AreHere away (lists_after content es p t)) same here
    by false has = are.waits p k text (omega (arith, is, above)) has

pub without_row : AwayStaysWithoutRow
without_row content es archives away own whole sent are adds = record {
  kept = are.kept;
  done = λ list kept had. subst (λ (m : MachineState). HasDoneLine list m.terminal.lines) (sym adds.machine) (are.done list kept had);
  waits = λ p n text far has. subst (AreHere away) (sym (lists_stay content es sent p text)) (are.waits p n text (subst (λ r. r < n) (adds.runs p) far) has);
}

-- of texts that wait, with one more
waiting_too : (P : ℕ → List ℕ → Type 0) (own : Rows) (p n : ℕ) (new : List ℕ) → text_in own p n ≡ None → P p new → (q m : ℕ) (text : List ℕ) → (text_in own q m ≡ Some text → P q text) → text_in (with_waiting p n new own) q m ≡ Some text → P q text
waiting_too P own p n new free is q m text before has = by ((p == q) && (n == m)) refl (sym (text_with own p n new free q m) ∙ has)
  where
    by : (tie : Bool) → ((p == q) && (n == m)) ≡ tie → cond tie (Some new) (text_in own q m) ≡ Some text → P q text
    by true e there =
        let same : new ≡ text = cc in
        let partner : q ≡ p = (pair_is p n q m e).0 in
        subst (λ r. P r text) (sym partner) (subst (P p) same is)
    by false e there = before there

pub with_early : AwayStaysWithEarly
with_early content es archives away archived own whole sent p n are parts for free later here =
    let far : run (deliveries_of content es) p < n = omega (arith, later) in
    let adds = early_adds content es whole sent p n parts.after for (free_in_whole content es archived own whole p n parts far ∙ free) later in
    record {
      kept = are.kept;
      done = λ list kept had. subst (λ (m : MachineState). HasDoneLine list m.terminal.lines) (sym adds.machine) (are.done list kept had);
      waits = λ q m text beyond has. subst (AreHere away) (sym (lists_stay content es sent q text))
          (waiting_too (λ r t. AreHere away (lists_after content es r t)) own p n (interchange_of sent) free here q m text
          (λ had. are.waits q m text (subst (λ r. r < m) (adds.runs q) beyond) had) has);
    }

-- a run
module _ (content : SetupContent) (es : List Event) (away : ListName → Bool) (archived : Archived) (own whole : Rows) (sent : List ℕ) (p n : ℕ) (taken : List TakenContent) (there : MachineState) (parts : ArePartsAfter content es archived own whole)
    (is : n ≡ run (deliveries_of content es) p + 1) (named : NameOwnLists away (machine_after content es) p (texts_with own p n (interchange_of sent)) n) (adds : AddsWithoutLists content es archived own whole away sent p n taken there) where
  abbrev text : List ℕ
  text = interchange_of sent

  abbrev texts : ℕ → Option (List ℕ)
  texts = texts_with whole p n text

  abbrev kept : Rows
  kept = with_waiting p n text own

  of_whole : NameOwnLists away (machine_after content es) p texts n
  of_whole k t above has = named k t above (ap (cond (n == k) (Some text)) (sym (free_in_whole content es archived own whole p k parts (omega (arith, is, above)))) ∙ has)

  lines_stay : (list : ListName) → away list ≡ true → lines_of list (with_run p n text taken own) ≡ lines_of list own
  lines_stay list gone = run_apart away list gone p texts n (machine_after content es) taken adds.machine kept of_whole adds.on_whole

  stays_done : (list : ListName) → HasDoneLine list (machine_after content es).terminal.lines → HasDoneLine list (machine_after content (es ++ delivered sent ∷ [])).terminal.lines
  stays_done list was = record {
    call = was.call;
    side = was.side;
    container = was.container;
    is_its = was.is_its;
    is_done = subst (λ (m : MachineState). IsDoneLine m.terminal.lines (line_key was.call was.side was.container)) adds.adds.machine_is
        (run_stays_done p texts n (machine_after content es) taken adds.machine (line_key was.call was.side was.container) adds.on_whole was.is_done);
  }

  itself : AreHere away (lists_after content es p text)
  itself = named n text (omega arith) (cond-true (n == n) (Some text) (text_in own p n) (eq-eqb n n refl))

  -- runs go up
  before : (q m : ℕ) → run (deliveries_of content (es ++ delivered sent ∷ [])) q < m → run (deliveries_of content es) q < m
  before q m beyond = elim (cases_eq q p) [
    | inl e ↦ subst (λ r. run (deliveries_of content es) r < m) (sym e) (omega (arith, adds.adds.run_is, subst (λ r. run (deliveries_of content (es ++ delivered sent ∷ [])) r < m) e beyond))
    | inr apart ↦ subst (λ r. r < m) (adds.adds.other_runs q apart) beyond
  ]

pub with_next : AwayStaysWithNext
with_next content es archives away archived own whole sent p n taken there are parts for free is named adds = record {
  kept = λ list gone. subst (ArePutAway archives list) (sym (lines_stay content es away archived own whole sent p n taken there parts is named adds list gone)) (are.kept list gone);
  done = λ list kept had. stays_done content es away archived own whole sent p n taken there parts is named adds list (are.done list kept had);
  waits = λ q m t beyond has.
      let still : text_in (with_waiting p n (interchange_of sent) own) q m ≡ Some t = sym (texts_kept p taken (with_waiting p n (interchange_of sent) own) q m) ∙ has in
      subst (AreHere away) (sym (lists_stay content es sent q t))
      (waiting_too (λ r t. AreHere away (lists_after content es r t)) own p n (interchange_of sent) free (itself content es away archived own whole sent p n taken there parts is named adds) q m t
      (λ had. are.waits q m t (before content es away archived own whole sent p n taken there parts is named adds q m beyond) had) still);
}

-- ---- an account more

as_many : (content : SetupContent) (es : List Event) → length (machine_after content es).kinds ≡ length (content_after content es).partners
as_many content es = ap (λ (m : MachineState). length m.kinds) (machine_is content es) ∙ length-map (content_after content es).partners _

pub with_account : AwayStaysWithAccount
with_account content es archives away archived own whole code kind named id are parts is answer =
    let adds = account_adds_row content es whole code kind named id parts.after is answer in
    let old : MachineState = machine_after content es in
    record {
      kept = are.kept;
      done = λ list kept had. subst (λ (m : MachineState). HasDoneLine list m.terminal.lines) (sym adds.machine) (are.done list kept had);
      waits = λ q m text beyond has.
          let far : run (deliveries_of content es) q < m = subst (λ ds. run ds q < m) adds.deliveries beyond in
          let within = text_within content es whole q m text parts.after (free_in_whole content es archived own whole q m parts far ∙ has) in
          let same : lists_after content (es ++ added code kind ∷ []) q text ≡ lists_after content es q text =
          ap (λ (m : MachineState). interchange_lists newest m.codes m.kinds q text) adds.machine
          ∙ ap (lists_named_by newest old.codes text) (kind_still old.kinds named q within.0 (omega (arith, within.1, as_many content es))) in
          subst (AreHere away) (sym same) (are.waits q m text far has);
    }

-- ---- bringing back

fewer_away : (away : ListName → Bool) (list : ListName) (lists : List ListName) → AreHere away lists → AreHere (all_but list away) lists
fewer_away away list [] here = tt
fewer_away away list (other ∷ lists) here = (ap (λ b. b && not (is_list list other)) here.0, fewer_away away list lists here.1)

abbrev AreDone : ListingContent → Type 0
AreDone line = line.state ≡ Done

pub others_stay : OthersStayAway
others_stay content es archives archived away list own back brings are = record {
  kept = λ other gone.
      let was = are.kept other (and_parts (away other) (not (is_list list other)) gone).0 in
      let same : IsPermutation (lines_of other own) (lines_of other brings.most) = IsPermutation-filter (is_of other) own.lines brings.most.lines brings.same in
      record {
        kept = was.kept;
        are = was.are;
        same = IsPermutation-trans _ _ _ (IsPermutation-sym _ _ same) was.same;
        done = recursion_from_All AreDone _ (All-permutation AreDone _ _ same (All-from_recursion AreDone _ was.done));
      };
  done = are.done;
  waits = λ q m text far has. fewer_away away list _ (are.waits q m text far (sym (ap (λ (r : Rows). text_in r q m) brings.but_lines) ∙ has));
}

-- ---- the store's terminal

pub none_away : NoLineIsAway
none_away away state call side container gone =
    own_get away state.lines (line_key call side container)
    ∙ ap (λ b. cond (not b) (finite_map.get state.lines (line_key call side container)) None) gone

pub others_there : OtherLinesAreThere
others_there away state call side container here = own_there away state.lines (line_key call side container) here

pub came_back : ListsThatCameBackHaveLines
came_back content es archives away stays own call side kept are had here =
    let was = are.done (list_name call side) kept had in
    let lines = (machine_after content es).terminal.lines in
    let key : line_key was.call was.side was.container ≡ line_key call side was.container = ap (λ (l : ListName). l ++ was.container ∷ []) was.is_its in
    record {
      container = was.container;
      line = was.is_done.line;
      has = own_there away lines (line_key call side was.container) here ∙ ap (finite_map.get lines) (sym key) ∙ was.is_done.there;
    }
