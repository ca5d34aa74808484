-- The journal over the files, file by file: what each one adds is what was kept since the day of the one before it.
use Rattle.std.{specs.{Prelude.{filter, nat_le, not, drop}, List.AllByRecursion}, proofs.lemmas.Bool.{cases_Bool, leb-true, le-leb}}
use Rattle.std.proofs.Common.{◌≡◌, inl, inr, ℕ, ◌≤◌, List, [], ◌∷◌, ◌++◌, map, Bool, true, false, cond, refl, sym, ap, ◌∙◌, arith, length, Result, Ok, Err, zero-le, subst}
use Rattle.std.proofs.{lemmas.List.{drop_at, length-map, map-append, append-nil, append_assoc}, lemmas.List.Elements.filter-append}
use Rattle.partner_core.{specs.Deliveries.{Delivery, is_used, run, delivery}, proofs.Orders.{used-kept, used_within_run}}
use Rattle.office_rows.specs.{Rows.{Interchange, Rows}, Effects.{with_waiting, with_change}}
use Rattle.office_parts.specs.{InOrder.as_delivery, Kept.{kept_after, kept}, Closing.is_beyond, Copies.{is_above, HasInOrder, AreDayCopies, closed_after}}
use Rattle.office_parts.specs.{Journal.text_of, Archives.Archive, ArchiveJournal.{body_of, texts_beyond, texts_added, carried_on, journal_beyond}}
use Rattle.office_parts.specs.ArchiveJournalLaws.{JournalIsOfAllFiles, ClosingStaysInOrder, EventsStayInOrder, CopiesStayInOrder}
use Rattle.office_parts.proofs.{Alike.{kept-append, kept_after-append}, JournalOrders.{admitted_kept, reply_shown}}
use Rattle.edi_syntax.specs.Interchange.{interchange_of}
use Rattle.office_admission.specs.{Accounts.{content_after, content_with}, Admission.admission, Deliveries.{deliveries_of, with_delivery}}
use Rattle.office_admission.{specs.Setups.{SetupContent, parties_in}, proofs.Adding.{content_on, deliveries_on, account_adds}}
use Rattle.office_history.{specs.{Cascade.{TakenContent, with_changes, with_interchange, with_interchanges}, Laws.IsFor}, proofs.Accounted.within}
use Rattle.office_history.proofs.Places.{refused_more}
use Rattle.office_replies.specs.{Events.{Event, delivered, migrated, added}, declared.deliver.Fault.Fault}
use Rattle.terminal_core.specs.Rows.{ChangeContent, visit_opened, visit_closed, placed_at, moved_to, removed_from, listed_on, line_done, unlisted}

-- ==== Beyond: Interchanges and deliveries beyond what is closed.

-- ---- the one and the other

-- an interchange is beyond what is closed just if its delivery is
pub deliveries_beyond : (closed : ℕ → ℕ) (interchanges : List Interchange) → map as_delivery (filter (is_beyond closed) interchanges) ≡ filter (is_above closed) (map as_delivery interchanges)
deliveries_beyond closed [] = refl
deliveries_beyond closed (i ∷ interchanges) = by (is_beyond closed i) (deliveries_beyond closed interchanges)
  where
    by : (b : Bool) → map as_delivery (filter (is_beyond closed) interchanges) ≡ filter (is_above closed) (map as_delivery interchanges)
        → map as_delivery (cond b (i ∷ filter (is_beyond closed) interchanges) (filter (is_beyond closed) interchanges))
        ≡ cond b (as_delivery i ∷ filter (is_above closed) (map as_delivery interchanges)) (filter (is_above closed) (map as_delivery interchanges))
    by true rest = ap (λ ds. as_delivery i ∷ ds) rest
    by false rest = rest

-- ---- one closing after another

module _ {A : Type 0} (wide narrow : A → Bool) (passes : (x : A) → narrow x ≡ true → wide x ≡ true) where
  pub filtered_twice : (xs : List A) → filter narrow (filter wide xs) ≡ filter narrow xs
  filtered_twice [] = refl
  filtered_twice (x ∷ xs) = by (wide x) (narrow x) refl refl (filtered_twice xs)
    where
      by : (w n : Bool) → wide x ≡ w → narrow x ≡ n → filter narrow (filter wide xs) ≡ filter narrow xs
          → filter narrow (cond w (x ∷ filter wide xs) (filter wide xs)) ≡ cond n (x ∷ filter narrow xs) (filter narrow xs)
      by true n e f rest = λ i. cond (f i) (x ∷ rest i) (rest i)
      by false true e f rest = let bad : false ≡ true = sym e ∙ passes x f in cc
      by false false e f rest = rest

far_above : (before then_ number : ℕ) → before ≤ then_ → not (nat_le number then_) ≡ true → not (nat_le number before) ≡ true
far_above before then_ number up far = elim (cases_Bool (nat_le number before)) [
  | inl near ↦
      let reached : nat_le number then_ ≡ true = le-leb number then_ (omega (arith, up, leb-true number before near)) in
      let bad : false ≡ true = sym (ap not reached) ∙ far in
      cc
  | inr beyond ↦ ap not beyond
]

module _ (before then_ : ℕ → ℕ) (up : (partner : ℕ) → before partner ≤ then_ partner) where
  pub beyond_twice : (interchanges : List Interchange) → filter (is_beyond then_) (filter (is_beyond before) interchanges) ≡ filter (is_beyond then_) interchanges
  beyond_twice = filtered_twice (is_beyond before) (is_beyond then_) (λ i far. far_above (before i.partner) (then_ i.partner) i.number (up i.partner) far)

  pub above_twice : (ds : List Delivery) → filter (is_above then_) (filter (is_above before) ds) ≡ filter (is_above then_) ds
  above_twice = filtered_twice (is_above before) (is_above then_) (λ d far. far_above (before d.partner) (then_ d.partner) d.number (up d.partner) far)

-- ---- what comes later is beyond what was closed

abbrev pub IsNumbered : Delivery → Type 0
IsNumbered d = 1 ≤ d.number

-- a free number is beyond those that are closed, since these are used
free_above : (closed : ℕ → ℕ) (before : List Delivery) (d : Delivery) → ((partner number : ℕ) → 1 ≤ number → number ≤ closed partner → is_used before partner number ≡ true)
    → 1 ≤ d.number → is_used before d.partner d.number ≡ false → is_above closed d ≡ true
free_above closed before d used low free = elim (cases_Bool (nat_le d.number (closed d.partner))) [
  | inl near ↦
      let bad : true ≡ false = sym (used d.partner d.number low (leb-true d.number (closed d.partner) near)) ∙ free in
      cc
  | inr beyond ↦ ap not beyond
]

kept_above : (closed : ℕ → ℕ) (before ds : List Delivery) → ((partner number : ℕ) → 1 ≤ number → number ≤ closed partner → is_used before partner number ≡ true)
    → AllByRecursion IsNumbered ds → filter (is_above closed) (kept_after before ds) ≡ kept_after before ds
kept_above closed before [] used numbered = refl
kept_above closed before (d ∷ ds) used numbered =
    by (is_used before d.partner d.number) refl
    (kept_above closed (before ++ d ∷ []) ds (λ partner number low within. used-kept before (d ∷ []) partner number (used partner number low within)) numbered.1)
  where
    later : List Delivery
    later = kept_after (before ++ d ∷ []) ds

    by : (b : Bool) → is_used before d.partner d.number ≡ b → filter (is_above closed) later ≡ later
        → filter (is_above closed) (cond b later (d ∷ later)) ≡ cond b later (d ∷ later)
    by true e rest = rest
    by false e rest =
        let above = free_above closed before d used numbered.0 e in
        λ i. cond (above i) (d ∷ rest i) (rest i)

pub later_above : (closed : ℕ → ℕ) (before ds : List Delivery) → ((partner : ℕ) → closed partner ≤ run before partner) → AllByRecursion IsNumbered ds
    → filter (is_above closed) (kept_after before ds) ≡ kept_after before ds
later_above closed before ds within numbered =
    kept_above closed before ds (λ partner number low up. used_within_run before partner number low (omega (arith, up, within partner))) numbered

-- ==== Files: The journal over the files, file by file: what each one adds is what was kept since the day of the one before it.

-- ---- numbers are from 1 on

numbered_with : (content : SetupContent) (text : List ℕ) (found : Result (ℕ × ℕ) Fault) (later : List Delivery) → admission (parties_in content) text ≡ found
    → AllByRecursion IsNumbered later → AllByRecursion IsNumbered (with_delivery text found later)
numbered_with content text (Err fault) later is rest = rest
numbered_with content text (Ok found) later is rest = ((within (parties_in content) text found.0 found.1 is).2, rest)

numbered : (content : SetupContent) (es : List Event) → AllByRecursion IsNumbered (deliveries_of content es)
numbered content [] = tt
numbered content (delivered text ∷ es) =
    numbered_with content (interchange_of text) (admission (parties_in content) (interchange_of text)) (deliveries_of content es) refl (numbered content es)
numbered content (migrated version ∷ es) = numbered content es
numbered content (added code kind ∷ es) = numbered (content_with content (added code kind)) es

-- ---- one file

bodies_of : (interchanges : List Interchange) → map body_of interchanges ≡ map text_of (map as_delivery interchanges)
bodies_of [] = refl
bodies_of (i ∷ interchanges) = ap (λ bodies. i.body ∷ bodies) (bodies_of interchanges)

module _ (content : SetupContent) (day : List Event) where
  abbrev before : List Delivery
  before = deliveries_of content day

  -- what later events deliver
  abbrev since_day : List Event → List Delivery
  since_day es = deliveries_of (content_after content day) es

  -- the texts that are kept of it
  abbrev pub texts_of_days : List Event → List (List ℕ)
  texts_of_days es = map text_of (kept_after before (since_day es))

  module _ (closed : ℕ → ℕ) (up : (partner : ℕ) → closed partner ≤ run (deliveries_of content day) partner) where
    abbrev was_above : List Delivery
    was_above = filter (is_above closed) (kept before)

    above_then : (es : List Event) → filter (is_above closed) (kept (deliveries_of content (day ++ es))) ≡ was_above ++ kept_after before (since_day es)
    above_then es =
        ap (λ ds. filter (is_above closed) (kept ds)) (deliveries_on day es content)
        ∙ ap (filter (is_above closed)) (kept-append before (since_day es))
        ∙ filter-append (is_above closed) (kept before) (kept_after before (since_day es))
        ∙ ap (λ ds. was_above ++ ds) (later_above closed before (since_day es) up (numbered (content_after content day) es))

    texts_then : (es : List Event) (interchanges : List Interchange) → HasInOrder content (day ++ es) closed interchanges
        → texts_beyond closed interchanges ≡ map text_of was_above ++ texts_of_days es
    texts_then es interchanges has =
        bodies_of (filter (is_beyond closed) interchanges)
        ∙ ap (map text_of) (has ∙ above_then es)
        ∙ map-append text_of was_above (kept_after before (since_day es))

    pub file_adds : (carried : ℕ) (es : List Event) (interchanges : List Interchange) → carried ≡ length (filter (is_above closed) (kept (deliveries_of content day)))
        → HasInOrder content (day ++ es) closed interchanges → texts_added closed carried interchanges ≡ texts_of_days es
    file_adds carried es interchanges counted has =
        ap (drop carried) (texts_then es interchanges has)
        ∙ drop_at (map text_of was_above) (texts_of_days es) carried (length-map was_above text_of ∙ sym counted)

-- how many of its texts the next one has too
carries_on : (content : SetupContent) (es : List Event) (before then_ : ℕ → ℕ) (interchanges : List Interchange) → ((partner : ℕ) → before partner ≤ then_ partner)
    → HasInOrder content es before interchanges → carried_on before then_ interchanges ≡ length (filter (is_above then_) (kept (deliveries_of content es)))
carries_on content es before then_ interchanges up has =
    let own = filter (is_beyond before) interchanges in
    sym (length-map (filter (is_beyond then_) own) as_delivery)
    ∙ ap length (deliveries_beyond then_ own ∙ ap (filter (is_above then_)) has ∙ above_twice before then_ up (kept (deliveries_of content es)))

-- ---- file after file

days_parted : (content : SetupContent) (day between later : List Event) → texts_of_days content day (between ++ later) ≡ texts_of_days content day between ++ texts_of_days content (day ++ between) later
days_parted content day between later =
    let now = content_after content day in
    let before = deliveries_of content day in
    let middle = deliveries_of now between in
    let last = deliveries_of (content_after content (day ++ between)) later in
    let parts : deliveries_of now (between ++ later) ≡ middle ++ last =
    deliveries_on between later now ∙ ap (λ c. middle ++ deliveries_of c later) (sym (content_on day between content)) in
    ap (λ ds. map text_of (kept_after before ds)) parts
    ∙ ap (map text_of) (kept_after-append before middle last)
    ∙ map-append text_of (kept_after before middle) (kept_after (before ++ middle) last)
    ∙ ap (λ ds. map text_of (kept_after before middle) ++ map text_of (kept_after ds last)) (sym (deliveries_on day between content))

pub journal_from : (content : SetupContent) (since day : List Event) (closed : ℕ → ℕ) (carried : ℕ) (archives : List Archive) (own : List Interchange)
    → ((partner : ℕ) → closed partner ≤ run (deliveries_of content day) partner) → carried ≡ length (filter (is_above closed) (kept (deliveries_of content day)))
    → AreDayCopies content since day closed archives own → journal_beyond closed carried archives own ≡ texts_of_days content day since
journal_from content since day closed carried [] own up counted are = file_adds content day closed up carried since own counted are
journal_from content since day closed carried (archive ∷ archives) own up counted are =
    let between = are.0 in
    let later = are.1 in
    let copy = are.3 in
    let interchanges = archive.rows.interchanges in
    let next = carried_on closed archive.last_closed interchanges in
    let here = file_adds content day closed up carried between interchanges counted copy.in_order in
    let rest =
    journal_from content later (day ++ between) archive.last_closed next archives own copy.to
    (carries_on content (day ++ between) closed archive.last_closed interchanges copy.from copy.in_order) are.4 in
    (λ i. here i ++ rest i) ∙ sym (days_parted content day between later) ∙ ap (texts_of_days content day) (sym are.2)

pub journal_is_of_all_files : JournalIsOfAllFiles
unfolding kept
journal_is_of_all_files content es archives own are =
    journal_from content es [] (λ partner. 0) 0 archives own (λ partner. zero-le) refl are

-- ==== Events: A file in order, after a closing and after one event more.

-- ---- a closing

pub closing_stays_in_order : ClosingStaysInOrder
closing_stays_in_order content es before then_ interchanges left up has same =
    ap (map as_delivery) (same ∙ sym (beyond_twice before then_ up interchanges))
    ∙ deliveries_beyond then_ (filter (is_beyond before) interchanges)
    ∙ ap (filter (is_above then_)) has
    ∙ above_twice before then_ up (kept (deliveries_of content es))

-- ---- what taking leaves

abbrev shown : Rows → List Delivery
shown rows = map as_delivery rows.interchanges

change_shown : (change : ChangeContent) (rows : Rows) → shown (with_change change rows) ≡ shown rows
change_shown (visit_opened visit) rows = refl
change_shown (visit_closed number departure) rows = refl
change_shown (placed_at container visit slot) rows = refl
change_shown (moved_to container slot) rows = refl
change_shown (removed_from container) rows = refl
change_shown (listed_on call side container port) rows = refl
change_shown (line_done call side container) rows = refl
change_shown (unlisted call side container) rows = refl

changes_shown : (changes : List ChangeContent) (rows : Rows) → shown (with_changes changes rows) ≡ shown rows
changes_shown [] rows = refl
changes_shown (change ∷ changes) rows = changes_shown changes (with_change change rows) ∙ change_shown change rows

taken_shown : (partner : ℕ) (taken : List TakenContent) (rows : Rows) → shown (with_interchanges partner taken rows) ≡ shown rows
taken_shown partner [] rows = refl
taken_shown partner (t ∷ taken) rows =
    taken_shown partner taken (with_interchange partner t rows)
    ∙ reply_shown partner t.number t.reply (with_changes t.changes rows).interchanges
    ∙ changes_shown t.changes rows

-- ---- one event more

-- the same interchanges but for their replies, and the same deliveries kept
goes_on : (content : SetupContent) (es later : List Event) (closed : ℕ → ℕ) (interchanges there : List Interchange) → map as_delivery there ≡ map as_delivery interchanges
    → kept (deliveries_of content later) ≡ kept (deliveries_of content es) → HasInOrder content es closed interchanges → HasInOrder content later closed there
goes_on content es later closed interchanges there same keeps has =
    deliveries_beyond closed there
    ∙ ap (filter (is_above closed)) same
    ∙ sym (deliveries_beyond closed interchanges)
    ∙ has
    ∙ ap (filter (is_above closed)) (sym keeps)

waiting_adds : (content : SetupContent) (es : List Event) (closed : ℕ → ℕ) (rows : Rows) (sent : List ℕ) (partner number : ℕ) → HasInOrder content es closed rows.interchanges
    → IsFor content es sent partner number → is_used (deliveries_of content es) partner number ≡ false
    → HasInOrder content (es ++ delivered sent ∷ []) closed (with_waiting partner number (interchange_of sent) rows).interchanges
waiting_adds content es closed rows sent partner number has for free =
    let d = delivery partner number (interchange_of sent) in
    let before = kept (deliveries_of content es) in
    deliveries_beyond closed (with_waiting partner number (interchange_of sent) rows).interchanges
    ∙ ap (filter (is_above closed)) (map-append as_delivery rows.interchanges (record { partner = partner; number = number; body = interchange_of sent; reply = [] } ∷ []))
    ∙ filter-append (is_above closed) (shown rows) (d ∷ [])
    ∙ ap (λ ds. ds ++ filter (is_above closed) (d ∷ [])) (sym (deliveries_beyond closed rows.interchanges) ∙ has)
    ∙ sym (filter-append (is_above closed) before (d ∷ []))
    ∙ ap (filter (is_above closed)) (sym (admitted_kept content es sent partner number false for free))

pub events_stay_in_order : EventsStayInOrder
events_stay_in_order = record {
  refused = λ content es closed interchanges sent fault has is.
      goes_on content es (es ++ delivered sent ∷ []) closed interchanges interchanges refl (ap kept (refused_more content es sent fault is)) has;
  used = λ content es closed interchanges sent partner number has for there.
      goes_on content es (es ++ delivered sent ∷ []) closed interchanges interchanges refl
      (admitted_kept content es sent partner number true for there ∙ append-nil (kept (deliveries_of content es))) has;
  early = waiting_adds;
  next = λ content es closed rows sent partner number taken has for free.
      let waiting = with_waiting partner number (interchange_of sent) rows in
      goes_on content (es ++ delivered sent ∷ []) (es ++ delivered sent ∷ []) closed waiting.interchanges (with_interchanges partner taken waiting).interchanges
      (taken_shown partner taken waiting) refl (waiting_adds content es closed rows sent partner number has for free);
  account = λ content es closed interchanges code kind has.
      goes_on content es (es ++ added code kind ∷ []) closed interchanges interchanges refl (ap kept (account_adds es content code kind)) has;
}

-- ==== Together: All files of a store in order, after an event and after a closing.

module _ (content : SetupContent) where
  abbrev After : (closed : ℕ → ℕ) → List Interchange → List Event → Type 0
  After closed own es = HasInOrder content es closed own

  -- ---- the store among its files

  own_in_order : (since day : List Event) (closed : ℕ → ℕ) (archives : List Archive) (own : List Interchange) → AreDayCopies content since day closed archives own
      → HasInOrder content (day ++ since) (closed_after closed archives) own
  own_in_order since day closed [] own are = are
  own_in_order since day closed (archive ∷ archives) own are =
      let between = are.0 in
      let later = are.1 in
      subst (After (closed_after archive.last_closed archives) own) (append_assoc day between later ∙ ap (λ es. day ++ es) (sym are.2))
      (own_in_order later (day ++ between) archive.last_closed archives own are.4)

  -- ---- one event more

  with_event : (event : Event) (since day : List Event) (closed : ℕ → ℕ) (archives : List Archive) (own left : List Interchange) → AreDayCopies content since day closed archives own
      → ((closed : ℕ → ℕ) → HasInOrder content (day ++ since) closed own → HasInOrder content ((day ++ since) ++ event ∷ []) closed left)
      → AreDayCopies content (since ++ event ∷ []) day closed archives left
  with_event event since day closed [] own left are keeps =
      subst (After closed left) (append_assoc day since (event ∷ [])) (keeps closed are)
  with_event event since day closed (archive ∷ archives) own left are keeps =
      let between = are.0 in
      let later = are.1 in
      let all : (day ++ between) ++ later ≡ day ++ since = append_assoc day between later ∙ ap (λ es. day ++ es) (sym are.2) in (
        between,
        later ++ event ∷ [],
        ap (λ es. es ++ event ∷ []) are.2 ∙ append_assoc between later (event ∷ []),
        are.3,
        with_event event later (day ++ between) archive.last_closed archives own left are.4
            (λ closed has. subst (λ es. After closed left (es ++ event ∷ [])) (sym all) (keeps closed (subst (After closed own) all has))),
      )

  -- ---- one archive more

  with_copy : (since front day : List Event) (closed : ℕ → ℕ) (archives : List Archive) (copy : Archive) (left : List Interchange)
      → AreDayCopies content front day closed archives copy.rows.interchanges → ((partner : ℕ) → closed_after closed archives partner ≤ copy.last_closed partner)
      → ((partner : ℕ) → copy.last_closed partner ≤ run (deliveries_of content (day ++ front)) partner)
      → HasInOrder content ((day ++ front) ++ since) copy.last_closed left → AreDayCopies content (front ++ since) day closed (archives ++ copy ∷ []) left
  with_copy since front day closed [] copy left are from to has =
      (front, since, refl, record { in_order = are; from = from; to = to }, has)
  with_copy since front day closed (archive ∷ archives) copy left are from to has =
      let between = are.0 in
      let later = are.1 in
      let all : day ++ front ≡ (day ++ between) ++ later = ap (λ es. day ++ es) are.2 ∙ sym (append_assoc day between later) in (
        between,
        later ++ since,
        ap (λ es. es ++ since) are.2 ∙ append_assoc between later since,
        are.3,
        with_copy since later (day ++ between) archive.last_closed archives copy left are.4 from
            (subst (λ es. (partner : ℕ) → copy.last_closed partner ≤ run (deliveries_of content es) partner) all to)
            (subst (λ es. After copy.last_closed left (es ++ since)) all has),
      )

pub copies_stay_in_order : CopiesStayInOrder
copies_stay_in_order = record {
  store = λ content es archives own are. own_in_order content es [] (λ partner. 0) archives own are;
  event = λ content es event archives own left are keeps. with_event content event es [] (λ partner. 0) archives own left are keeps;
  closing = λ content day since archives copy before own left are from to has up same.
      with_copy content since day [] (λ partner. 0) archives copy left are from to
      (closing_stays_in_order content (day ++ since) before copy.last_closed own left up has same);
}
