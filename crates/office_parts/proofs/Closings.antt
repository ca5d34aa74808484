-- A closing moves rows from the store to its archives.
use Rattle.std.specs.{Prelude.{Contains, find, filter, nat_le, not, ◌&&◌, ◌==◌, count_by}, List.AllByRecursion, Option.{option_or, option_and_then}}
use Rattle.std.proofs.Common.{◌≡◌, inl, inr, ℕ, ◌+◌, ◌<◌, ◌≤◌, List, [], ◌∷◌, ◌++◌, Bool, true, false, cond, Option, None, Some, is_some, refl, sym, ap, ap₂, subst, ◌∙◌, arith, ◌⊎◌}
use Rattle.std.proofs.{lemmas.Bool.{and_parts, eqb-true, le-leb, leb-true, cases_order}, lemmas.List.Folds.find-append}
use Rattle.partner_core.{specs.Machine.Taking, proofs.OnceEach.within_replied}
use Rattle.terminal_core.{specs.{Rows.VisitContent, State.last_number, Versions.newest}, proofs.Indexed.found_is}
use Rattle.office_admission.specs.{Deliveries.deliveries_of, Setups.SetupContent, Taking.MachineState}
use Rattle.office_replies.specs.Events.{Event}
use Rattle.office_rows.specs.{Rows.{Interchange, Rows, ListingContent}, Effects.is_pair}
use Rattle.office_history.specs.{After.{opening_of, taking_in, content_after, reply_in}, Cascade.text_in}
use Rattle.office_parts.specs.{OwnTerminal.{is_own, own_visits, IsOverOrStays, MayStay}, Parts.{Archived, rows_of_archives, ArePartsAfter}}
use Rattle.office_parts.specs.Closing.{is_closed, is_beyond, is_put_away, carried, archived_with, whole_with, MayClose}
use Rattle.office_parts.specs.Laws.{ClosingKeepsParts, AddedArchivesHold, ClosingsAreHeld}
use Rattle.office_parts.specs.Archives.{Archive, reaches, archive_of, text_by, reply_by, IsInArchive, Hold, HoldsWhatGoes}
use Rattle.office_parts.proofs.Splits.{or_some, or_assoc, count_both, split_counts, split_finds, found_tested, found_in_half, Has, has_contained, contained_has, has_left, has_right, has_filtered, had_both, had_filtered, has_pushed}
use Rattle.office_parts.proofs.Orders.{body_there, reply_there, there_if_replied, found_whole, once_here}

-- ---- visits

pub not_true : (b : Bool) → not b ≡ true → b ≡ false
not_true true e = sym e
not_true false e = refl

kept_twice : (one two : ℕ → Bool) (visits : List VisitContent) → own_visits two (own_visits one visits) ≡ own_visits (λ n. one n && two n) visits
kept_twice one two [] = refl
kept_twice one two (v ∷ visits) = by (one v.number) (kept_twice one two visits)
  where
    by : (b : Bool) → own_visits two (own_visits one visits) ≡ own_visits (λ n. one n && two n) visits
        → own_visits two (cond b (v ∷ own_visits one visits) (own_visits one visits)) ≡ cond (b && two v.number) (v ∷ own_visits (λ n. one n && two n) visits) (own_visits (λ n. one n && two n) visits)
    by true rest = ap (λ l. cond (two v.number) (v ∷ l) l) rest
    by false rest = rest

both_over : (one two : ℕ → Bool) (visits : List VisitContent) → AllByRecursion (IsOverOrStays one) visits → AllByRecursion (IsOverOrStays two) (own_visits one visits) → AllByRecursion (IsOverOrStays (λ n. one n && two n)) visits
both_over one two [] over over' = tt
both_over one two (v ∷ visits) over over' = by (one v.number) refl over' (both_over one two visits over.1)
  where
    by : (b : Bool) → one v.number ≡ b → AllByRecursion (IsOverOrStays two) (cond b (v ∷ own_visits one visits) (own_visits one visits))
        → (AllByRecursion (IsOverOrStays two) (own_visits one visits) → AllByRecursion (IsOverOrStays (λ n. one n && two n)) visits) → AllByRecursion (IsOverOrStays (λ n. one n && two n)) (v ∷ visits)
    by true e these rest = ((λ gone. these.0 (sym (ap (λ b. b && two v.number) e) ∙ gone)), rest these.1)
    by false e these rest = ((λ gone. over.0 e), rest these)

module _ (content : SetupContent) (es : List Event) (archived : Archived) (own whole : Rows) (closed' : ℕ → ℕ) (stays' : ℕ → Bool)
    (are : ArePartsAfter content es archived own whole) (ends : MayClose content es archived own closed' stays') where
  abbrev next_archived : Archived
  next_archived = archived_with archived own closed' stays'

  abbrev next_own : Rows
  next_own = carried closed' stays' own

  abbrev next_whole : Rows
  next_whole = whole_with next_archived next_own whole

  abbrev taken : Interchange → Bool
  taken = is_closed closed'

  abbrev taking : Taking MachineState
  taking = taking_in newest content es

  -- ---- interchanges, by partner and number

  module _ (p n : ℕ) where
    abbrev test : Interchange → Bool
    test = is_pair p n

    abbrev there : Option Interchange
    there = find test archived.interchanges

    own_once : count_by test own.interchanges ≤ 1
    own_once = once_here archived own whole p n are.parts are.after.kept_once

    found_same : find test next_whole.interchanges ≡ find test whole.interchanges
    found_same =
        find-append test (archived.interchanges ++ filter taken own.interchanges) (filter (is_beyond closed') own.interchanges)
        ∙ ap (λ o. option_or o (find test (filter (is_beyond closed') own.interchanges))) (find-append test archived.interchanges (filter taken own.interchanges))
        ∙ or_assoc there (find test (filter taken own.interchanges)) (find test (filter (is_beyond closed') own.interchanges))
        ∙ ap (option_or there) (split_finds test taken own.interchanges own_once)
        ∙ sym (found_whole archived own whole p n are.parts)

    counted_same : count_by test next_whole.interchanges ≡ count_by test whole.interchanges
    counted_same =
        let outer : count_by test next_whole.interchanges ≡ count_by test (archived.interchanges ++ filter taken own.interchanges) + count_by test (filter (is_beyond closed') own.interchanges) =
        count_both test (archived.interchanges ++ filter taken own.interchanges) (filter (is_beyond closed') own.interchanges) in
        let inner : count_by test (archived.interchanges ++ filter taken own.interchanges) ≡ count_by test archived.interchanges + count_by test (filter taken own.interchanges) =
        count_both test archived.interchanges (filter taken own.interchanges) in
        let halves : count_by test (filter taken own.interchanges) + count_by test (filter (is_beyond closed') own.interchanges) ≡ count_by test own.interchanges = split_counts test taken own.interchanges in
        let before : count_by test whole.interchanges ≡ count_by test archived.interchanges + count_by test own.interchanges =
        ap (count_by test) are.parts.interchanges ∙ count_both test archived.interchanges own.interchanges in
        omega (arith, outer, inner, halves, before)

    -- one of the pair is closed if its number is
    is_closed_at : (i : Interchange) (xs : List Interchange) → find test xs ≡ Some i → taken i ≡ nat_le n (closed' p)
    is_closed_at i xs e =
        let parts_ = and_parts (i.partner == p) (i.number == n) (found_is test xs i e).2 in
        ap₂ (λ m q. nat_le m (closed' q)) (eqb-true i.number n parts_.1) (eqb-true i.partner p parts_.0)

    -- beyond what is closed nothing is archived, and nothing goes
    none_archived : closed' p < n → there ≡ None
    none_archived far = let grown = ends.from p in are.closed.none_beyond p n (omega (arith, far, grown))

    none_taken : closed' p < n → find test (filter taken own.interchanges) ≡ None
    none_taken far = by (find test (filter taken own.interchanges)) refl
      where
        by : (o : Option Interchange) → find test (filter taken own.interchanges) ≡ o → find test (filter taken own.interchanges) ≡ None
        by None e = e
        by (Some i) e =
            let is : taken i ≡ true = found_tested test taken own.interchanges i e in
            let low : nat_le n (closed' p) ≡ true = sym (is_closed_at i (filter taken own.interchanges) e) ∙ is in
            absurd (omega (arith, leb-true n (closed' p) low, far))

    found_archived : find test next_archived.interchanges ≡ option_or there (find test (filter taken own.interchanges))
    found_archived = find-append test archived.interchanges (filter taken own.interchanges)

    none_beyond : closed' p < n → find test next_archived.interchanges ≡ None
    none_beyond far =
        found_archived ∙ ap (λ o. option_or o (find test (filter taken own.interchanges))) (none_archived far) ∙ none_taken far

    replied : 1 ≤ n → n ≤ closed' p → is_some (reply_in (rows_of_archives next_archived) p n) ≡ true
    replied low high =
        let last = ends.to p in
        let has : is_some (reply_in whole p n) ≡ true = ap is_some (are.after.replies p n) ∙ within_replied taking (opening_of (content_after content es)) (deliveries_of content es) p n low (omega (arith, last, high)) in
        let both : is_some (reply_there (option_or there (find test own.interchanges))) ≡ true = sym (ap (λ o. is_some (reply_there o)) (found_whole archived own whole p n are.parts)) ∙ has in
        ap (λ o. is_some (reply_there o)) found_archived ∙ by there (find test own.interchanges) refl (le-leb n (closed' p) high) both
      where
        by : (o here : Option Interchange) → find test own.interchanges ≡ here → nat_le n (closed' p) ≡ true → is_some (reply_there (option_or o here)) ≡ true → is_some (reply_there (option_or o (find test (filter taken own.interchanges)))) ≡ true
        by (Some i) here e low has = has
        by None None e low has = cc
        by None (Some i) e low has = ap (λ o. is_some (reply_there o)) (found_in_half test taken own.interchanges i own_once e (is_closed_at i own.interchanges e ∙ low)) ∙ has

    -- what this store has beyond what was closed before it was taken
    pub found_own : archived.last_closed p < n → n ≤ closed' p → find test next_archived.interchanges ≡ find test own.interchanges
    found_own far high =
        let last = ends.to p in
        let none : there ≡ None = are.closed.none_beyond p n far in
        let has : is_some (reply_in whole p n) ≡ true = ap is_some (are.after.replies p n) ∙ within_replied taking (opening_of (content_after content es)) (deliveries_of content es) p n (omega (arith, far)) (omega (arith, last, high)) in
        let here : is_some (reply_there (find test own.interchanges)) ≡ true = sym (ap (λ o. is_some (reply_there o)) (found_whole archived own whole p n are.parts ∙ ap (λ o. option_or o (find test own.interchanges)) none)) ∙ has in
        found_archived ∙ ap (λ o. option_or o (find test (filter taken own.interchanges))) none ∙ by (find test own.interchanges) refl (le-leb n (closed' p) high) here
      where
        by : (o : Option Interchange) → find test own.interchanges ≡ o → nat_le n (closed' p) ≡ true → is_some (reply_there o) ≡ true → find test (filter taken own.interchanges) ≡ find test own.interchanges
        by None e low has = cc
        by (Some i) e low has = found_in_half test taken own.interchanges i own_once e (is_closed_at i own.interchanges e ∙ low) ∙ sym e

    pub found_before : 1 ≤ n → n ≤ archived.last_closed p → find test next_archived.interchanges ≡ there
    found_before low high = found_archived ∙ or_some there (find test (filter taken own.interchanges)) (there_if_replied there (are.closed.replied p n low high))

  -- ---- visits

  whole_has : (visit : VisitContent) → Contains own.visits visit → Contains whole.visits visit × (archived.stays visit.number ≡ true)
  whole_has visit has =
      let was = had_filtered (is_own archived.stays) whole.visits visit (has_contained (own_visits archived.stays whole.visits) visit (subst (λ l. Contains l visit) are.parts.visits has)) in
      (contained_has whole.visits visit was.0, was.1)

  gone_others : (visit : VisitContent) → Contains next_archived.visits visit → Contains whole.visits visit × (next_archived.stays visit.number ≡ false)
  gone_others visit has = elim (had_both archived.visits (filter (is_put_away stays') own.visits) visit (has_contained next_archived.visits visit has)) [
    | inl before ↦
        let was = (are.parts.others visit).0 (contained_has archived.visits visit before) in
        (was.0, ap (λ b. b && stays' visit.number) was.1)
    | inr now ↦
        let went = had_filtered (is_put_away stays') own.visits visit now in
        let was = whole_has visit (contained_has own.visits visit went.0) in
        (was.0, ap (λ b. b && stays' visit.number) was.1 ∙ not_true (stays' visit.number) went.1)
  ]

  others_gone : (visit : VisitContent) → Contains whole.visits visit × (next_archived.stays visit.number ≡ false) → Contains next_archived.visits visit
  others_gone visit both = contained_has next_archived.visits visit (by (archived.stays visit.number) refl)
    where
      by : (stay : Bool) → archived.stays visit.number ≡ stay → Has next_archived.visits visit
      by false e = has_left archived.visits (filter (is_put_away stays') own.visits) visit (has_contained archived.visits visit ((are.parts.others visit).1 (both.0, e)))
      by true e =
          let here : Has own.visits visit = subst (λ l. Has l visit) (sym are.parts.visits) (has_filtered (is_own archived.stays) whole.visits visit (has_contained whole.visits visit both.0) e) in
          let left : stays' visit.number ≡ false = sym (ap (λ b. b && stays' visit.number) e) ∙ both.1 in
          has_right archived.visits (filter (is_put_away stays') own.visits) visit (has_filtered (is_put_away stays') own.visits visit here (ap not left))

  same_newest : last_number own.visits ≡ last_number whole.visits
  same_newest = ap last_number are.parts.visits ∙ are.stay.newest

  stays_left : MayStay next_archived.stays whole.visits
  stays_left = record {
    over = both_over archived.stays stays' whole.visits are.stay.over (subst (AllByRecursion (IsOverOrStays stays')) are.parts.visits ends.stay.over);
    later = λ number far. ap₂ (λ a b. a && b) (are.stay.later number far) (ends.stay.later number (omega (arith, far, same_newest)));
    newest = ap last_number (sym (kept_twice archived.stays stays' whole.visits)) ∙ ap (λ l. last_number (own_visits stays' l)) (sym are.parts.visits) ∙ ends.stay.newest ∙ same_newest;
  }

  -- ---- all of it

  closes : ArePartsAfter content es next_archived next_own next_whole
  closes = record {
    after = record {
      partners = are.after.partners;
      texts = λ p n. ap body_there (found_same p n) ∙ are.after.texts p n;
      replies = λ p n. ap reply_there (found_same p n) ∙ are.after.replies p n;
      kept_once = λ p n. subst (λ m. m ≤ 1) (sym (counted_same p n)) (are.after.kept_once p n);
      terminal = are.after.terminal;
      placed_once = are.after.placed_once;
      listed_once = are.after.listed_once;
      settings = are.after.settings;
      blocks = are.after.blocks;
    };
    closed = record { none_beyond = none_beyond; replied = replied };
    parts = record {
      partners = are.parts.partners;
      interchanges = refl;
      visits = ap (own_visits stays') are.parts.visits ∙ kept_twice archived.stays stays' whole.visits;
      others = λ visit. (gone_others visit, others_gone visit);
      places = are.parts.places;
      lines = are.parts.lines;
      settings = are.parts.settings;
      blocks = are.parts.blocks;
    };
    stay = stays_left;
  }

pub closing_parts : ClosingKeepsParts
closing_parts content es archived own whole closed' stays' are ends = closes content es archived own whole closed' stays' are ends

-- ==== Archiving: Archives hold what was put away, the one after the other.

-- ---- the newest archive

abbrev archive_to : Rows → (lists : List (List ℕ) → Option (List ListingContent)) → (ℕ → ℕ) → Archive
archive_to copy lists last_closed = record { rows = copy; last_closed = last_closed; lists = lists }

-- of a number the newest archive is asked if none before it reaches it
with_newest : (archives : List Archive) (newest : Archive) (p n : ℕ) → archive_of (archives ++ newest ∷ []) p n ≡ option_or (archive_of archives p n) (cond (reaches p n newest) (Some newest) None)
with_newest archives newest p n = find-append (reaches p n) archives (newest ∷ [])

not_reached : (n last : ℕ) (newest : Archive) (b : Bool) → nat_le n last ≡ b → last < n → cond b (Some newest) None ≡ None
not_reached n last newest true e far = absurd (omega (arith, leb-true n last e, far))
not_reached n last newest false e far = refl

reached : (n last : ℕ) (newest : Archive) → n ≤ last → cond (nat_le n last) (Some newest) None ≡ Some newest
reached n last newest within = ap (λ b. cond b (Some newest) None) (le-leb n last within)

none_before : {A : Type 0} (o other : Option A) → option_or o other ≡ None → o ≡ None
none_before None other e = refl
none_before (Some x) other e = e

some_archive : {A : Type 0} (f : Archive → Option A) (o : Option Archive) → is_some (option_and_then f o) ≡ true → is_some o ≡ true
some_archive f None e = e
some_archive f (Some archive) e = refl

within_or_beyond : (n last : ℕ) → (n ≤ last) ⊎ (last < n)
within_or_beyond n last = elim (cases_order last n) [
  | inl same ↦ inl (omega (arith, same))
  | inr o ↦ elim o [ inl below ↦ inr below | inr above ↦ inl (omega (arith, above)) ]
]

-- ---- an archive that was just added

module _ (content : SetupContent) (es : List Event) (archives : List Archive) (archived : Archived) (own whole copy : Rows) (lists : List (List ℕ) → Option (List ListingContent))
    (are : ArePartsAfter content es archived own whole) (holds : Hold archives archived) where
  abbrev added : List Archive
  added = archives ++ archive_to copy lists archived.last_closed ∷ []

  has_archive : (p n : ℕ) → 1 ≤ n → n ≤ archived.last_closed p → is_some (archive_of archives p n) ≡ true
  has_archive p n low high =
      some_archive (λ (archive : Archive). reply_in archive.rows p n) (archive_of archives p n)
      (ap is_some (holds.replies p n low high) ∙ are.closed.replied p n low high)

  same_archive : (p n : ℕ) → 1 ≤ n → n ≤ archived.last_closed p → archive_of added p n ≡ archive_of archives p n
  same_archive p n low high = with_newest archives (archive_to copy lists archived.last_closed) p n ∙ or_some (archive_of archives p n) _ (has_archive p n low high)

  in_added : (visit : VisitContent) → IsInArchive archives visit → IsInArchive added visit
  in_added visit was = record {
    archive = was.archive;
    is_one = contained_has added was.archive (has_left archives (archive_to copy lists archived.last_closed ∷ []) was.archive (has_contained archives was.archive was.is_one));
    has = was.has;
  }

  added_holds : Hold added archived
  added_holds = record {
    texts = λ p n low high. ap (option_and_then (λ (archive : Archive). text_in archive.rows p n)) (same_archive p n low high) ∙ holds.texts p n low high;
    replies = λ p n low high. ap (option_and_then (λ (archive : Archive). reply_in archive.rows p n)) (same_archive p n low high) ∙ holds.replies p n low high;
    none_beyond = λ p n far.
        with_newest archives (archive_to copy lists archived.last_closed) p n
        ∙ ap (λ o. option_or o (cond (nat_le n (archived.last_closed p)) (Some (archive_to copy lists archived.last_closed)) None)) (holds.none_beyond p n far)
        ∙ not_reached n (archived.last_closed p) (archive_to copy lists archived.last_closed) (nat_le n (archived.last_closed p)) refl far;
    visits = λ visit has. in_added visit (holds.visits visit has);
  }

pub added_hold : AddedArchivesHold
added_hold content es archives archived own whole copy lists are holds = added_holds content es archives archived own whole copy lists are holds

-- ---- a closing

module _ (content : SetupContent) (es : List Event) (archives : List Archive) (archived : Archived) (own whole copy : Rows) (lists : List (List ℕ) → Option (List ListingContent)) (last' : ℕ → ℕ) (stays' : ℕ → Bool)
    (are : ArePartsAfter content es archived own whole) (ends : MayClose content es archived own last' stays') (goes : HoldsWhatGoes archived own copy last' stays')
    (holds : Hold (archives ++ archive_to copy lists archived.last_closed ∷ []) archived) where
  abbrev old : Archive
  old = archive_to copy lists archived.last_closed

  abbrev new : Archive
  new = archive_to copy lists last'

  abbrev left : Archived
  left = archived_with archived own last' stays'

  module _ (p n : ℕ) where
    -- up to what was closed the same rows are asked
    same_rows : {A : Type 0} (f : Rows → Option A) → n ≤ archived.last_closed p
        → option_and_then (λ (archive : Archive). f archive.rows) (archive_of (archives ++ new ∷ []) p n) ≡ option_and_then (λ (archive : Archive). f archive.rows) (archive_of (archives ++ old ∷ []) p n)
    same_rows {A} f within =
        let grown = ends.from p in
        ap ask (with_newest archives new p n ∙ ap (option_or (archive_of archives p n)) (reached n (last' p) new (omega (arith, within, grown))))
        ∙ by (archive_of archives p n)
        ∙ sym (ap ask (with_newest archives old p n ∙ ap (option_or (archive_of archives p n)) (reached n (archived.last_closed p) old within)))
      where
        ask : Option Archive → Option A
        ask o = option_and_then (λ (archive : Archive). f archive.rows) o

        by : (o : Option Archive) → ask (option_or o (Some new)) ≡ ask (option_or o (Some old))
        by None = refl
        by (Some archive) = refl

    -- beyond it none was asked
    none_asked : archived.last_closed p < n → archive_of archives p n ≡ None
    none_asked far =
        none_before (archive_of archives p n) (cond (reaches p n old) (Some old) None) (sym (with_newest archives old p n) ∙ holds.none_beyond p n far)

    is_new : archived.last_closed p < n → n ≤ last' p → archive_of (archives ++ new ∷ []) p n ≡ Some new
    is_new far within =
        with_newest archives new p n
        ∙ ap (λ o. option_or o (cond (nat_le n (last' p)) (Some new) None)) (none_asked far)
        ∙ reached n (last' p) new within

    texts : 1 ≤ n → n ≤ last' p → text_by (archives ++ new ∷ []) p n ≡ text_in (rows_of_archives left) p n
    texts low high = elim (within_or_beyond n (archived.last_closed p)) [
      | inl within ↦ same_rows (λ rows. text_in rows p n) within ∙ holds.texts p n low within ∙ sym (ap body_there (found_before content es archived own whole last' stays' are ends p n low within))
      | inr far ↦ ap (option_and_then (λ (archive : Archive). text_in archive.rows p n)) (is_new far high) ∙ goes.texts p n far high ∙ sym (ap body_there (found_own content es archived own whole last' stays' are ends p n far high))
    ]

    replies : 1 ≤ n → n ≤ last' p → reply_by (archives ++ new ∷ []) p n ≡ reply_in (rows_of_archives left) p n
    replies low high = elim (within_or_beyond n (archived.last_closed p)) [
      | inl within ↦ same_rows (λ rows. reply_in rows p n) within ∙ holds.replies p n low within ∙ sym (ap reply_there (found_before content es archived own whole last' stays' are ends p n low within))
      | inr far ↦ ap (option_and_then (λ (archive : Archive). reply_in archive.rows p n)) (is_new far high) ∙ goes.replies p n far high ∙ sym (ap reply_there (found_own content es archived own whole last' stays' are ends p n far high))
    ]

    none_reached : last' p < n → archive_of (archives ++ new ∷ []) p n ≡ None
    none_reached far =
        let grown = ends.from p in
        with_newest archives new p n
        ∙ ap (λ o. option_or o (cond (nat_le n (last' p)) (Some new) None)) (none_asked (omega (arith, far, grown)))
        ∙ not_reached n (last' p) new (nat_le n (last' p)) refl far

  -- ---- visits

  in_new : (visit : VisitContent) → Contains copy.visits visit → IsInArchive (archives ++ new ∷ []) visit
  in_new visit has = record { archive = new; is_one = contained_has (archives ++ new ∷ []) new (has_right archives (new ∷ []) new (inl refl)); has = has }

  still_in : (visit : VisitContent) → IsInArchive (archives ++ old ∷ []) visit → IsInArchive (archives ++ new ∷ []) visit
  still_in visit was = elim (has_pushed archives old was.archive (has_contained (archives ++ old ∷ []) was.archive was.is_one)) [
    | inl before ↦ record { archive = was.archive; is_one = contained_has (archives ++ new ∷ []) was.archive (has_left archives (new ∷ []) was.archive before); has = was.has }
    | inr same ↦ in_new visit (subst (λ (archive : Archive). Contains archive.rows.visits visit) (sym same) was.has)
  ]

  visits : (visit : VisitContent) → Contains left.visits visit → IsInArchive (archives ++ new ∷ []) visit
  visits visit has = elim (had_both archived.visits (filter (is_put_away stays') own.visits) visit (has_contained left.visits visit has)) [
    | inl before ↦ still_in visit (holds.visits visit (contained_has archived.visits visit before))
    | inr now ↦
        let went = had_filtered (is_put_away stays') own.visits visit now in
        in_new visit (goes.visits visit (contained_has own.visits visit went.0) (not_true (stays' visit.number) went.1))
  ]

  closing_held : Hold (archives ++ new ∷ []) left
  closing_held = record { texts = texts; replies = replies; none_beyond = none_reached; visits = visits }

pub closings_held : ClosingsAreHeld
closings_held content es archives archived own whole copy lists last' stays' are ends goes holds = closing_held content es archives archived own whole copy lists last' stays' are ends goes holds
