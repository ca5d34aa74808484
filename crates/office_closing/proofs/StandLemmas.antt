-- A store that is closed stands beside its archives.
use Rattle.std.{specs.{Prelude.{◌&&◌, ◌||◌, ◌==◌, Contains, fold, nat_le}, List.AllByRecursion}, proofs.lemmas.Bool.{and_parts, cases_order, leb-true}}
use Rattle.std.proofs.Common.{◌≡◌, inl, inr, ℕ, ◌+◌, ◌<◌, ◌≤◌, List, [], ◌∷◌, ◌++◌, Bool, true, false, filter, not, refl, sym, ap, subst, ◌∙◌, arith}
use Rattle.sqlite_rules.{specs.Lists.Has, proofs.ListLemmas.{contains_had, has_contained, has_filtered, has_kept, has_left, has_right}}
use Rattle.partner_core.specs.Deliveries.{run}
use Rattle.terminal_core.{specs.{Rows.VisitContent, State.{AreNumbered, last_number}}, proofs.Whole.{below_last, found_at}}
use Rattle.office_admission.specs.{Deliveries.deliveries_of, Setups.SetupContent}
use Rattle.office_replies.specs.Events.{Event}
use Rattle.office_rows.specs.Rows.{Interchange, Rows}
use Rattle.office_history.{specs.{After.reply_in, Cascade.text_in}, proofs.Accounted.next_follows}
use Rattle.office_closing.specs.{Register.{ArchiveContent, RegisterContent, last_closed, newest_visit}, Copies.FileNames, Deleting.{all_but, with_visits_that}}
use Rattle.office_closing.specs.{Sound.{are_numbered, are_sound_archives, have_own_files}, PuttingAway.{AreNamedThen, ClosedStoresStand, Stands}}
use Rattle.office_closing.specs.Closes.{AreOrderly, Closing, Held, IsClosing, IsLeft, closed_after, closed_before, raised_register}
use Rattle.office_closing.proofs.{DoneAwayLemmas.closing_keeps, ClosesLemmas.gone_away, PlanLemmas.{gone_contained, gone_is_closed, last_kept, stays_if_newest}}
use Rattle.office_parts.specs.{OwnLists.{ListName, rows_without_lists}, Archives.{Archive, Hold, HoldsWhatGoes}, LeftOver.rows_beyond, Parts.Archived}
use Rattle.office_parts.specs.{Closing.{MayClose, archived_with, carried, is_beyond, is_closed, whole_with}, OwnTerminal.{IsOverOrStays, MayStay, own_visits}}
use Rattle.office_parts.proofs.{BringingLemmas.more_away, Closings.{added_hold, closings_held, closing_parts}, Takings.all_own, Orders.closed_within}
use Rattle.office_parts.proofs.LeftOver.{may_go, raising_closes, told_alike}

-- ---- the newest visit of an archive

newest_of_last : (from : ℕ) (archives : List ArchiveContent) (last : ArchiveContent) → fold (λ _ archive. archive.visits) from (archives ++ last ∷ []) ≡ last.visits
newest_of_last from [] last = refl
newest_of_last from (archive ∷ archives) last = newest_of_last archive.visits archives last

-- is none before that of the archive before it
newest_rises : (place from : ℕ) (archives : List ArchiveContent) (last : ArchiveContent) → are_numbered place from (archives ++ last ∷ []) ≡ true → fold (λ _ archive. archive.visits) from archives ≤ last.visits
newest_rises place from [] last numbered =
    let first = and_parts ((last.place == place) && nat_le from last.visits) (are_numbered (place + 1) last.visits []) numbered in
    leb-true from last.visits (and_parts (last.place == place) (nat_le from last.visits) first.0).1
newest_rises place from (archive ∷ archives) last numbered =
    let first = and_parts ((archive.place == place) && nat_le from archive.visits) (are_numbered (place + 1) archive.visits (archives ++ last ∷ [])) numbered in
    newest_rises (place + 1) archive.visits archives last first.1

within_last : (visits : List VisitContent) (visit : VisitContent) → AreNumbered 0 visits → Contains visits visit → visit.number ≤ last_number visits
within_last visits visit numbered inside = below_last 0 visits inside.0 visit numbered (found_at visits visit inside)

-- ---- a closing

module _ (content : SetupContent) (es : List Event) (archives after : List Archive) (held : Held) (names : FileNames) (closing : Closing) (left : Rows) (stands : Stands content es archives held.own held.register) (orderly : AreOrderly held.own)
    (copied : AreOrderly held.copy) (is : IsClosing held names closing) (named : AreNamedThen held closing archives after) (is_left : IsLeft closing held.own left) where
  abbrev archived : Archived
  archived = stands.archived

  abbrev own : Rows
  own = stands.own

  abbrev last : ℕ → ℕ
  last = closed_after held closing

  abbrev kept : ℕ → Bool
  kept = is_left.kept

  abbrev away : ListName → Bool
  away list = stands.away list || is_left.away list

  -- ---- numbers and visits that may be closed

  grown : (partner : ℕ) → archived.last_closed partner ≤ last partner
  grown partner = let same = stands.closed partner in let rise = is.rise partner in omega (arith, same, rise)

  all_partners : held.own.partners ≡ stands.whole.partners
  all_partners = ap (λ (r : Rows). r.partners) stands.beyond ∙ sym stands.parts.parts.partners

  within : (partner : ℕ) → last partner ≤ run (deliveries_of content es) partner
  within partner = elim (cases_order (closed_before held partner) (last partner)) [
    | inl same ↦
        let before = closed_within content es archived own stands.whole partner stands.parts in
        let is_its = stands.closed partner in
        omega (arith, same, before, is_its)
    | inr apart ↦ elim apart [
      | inl less ↦
          let below = is.below partner (last partner) less (omega arith) in
          let next = next_follows content es stands.whole below.account stands.parts.after (subst (λ l. Contains l below.account) all_partners below.is_one) in
          let its = ap (run (deliveries_of content es)) below.is_its in
          omega (arith, below.below, next, its)
      | inr more ↦ let rise = is.rise partner in absurd (omega (arith, more, rise))
    ]
  ]

  same_visits : held.own.visits ≡ own.visits
  same_visits = ap (λ (r : Rows). r.visits) stands.beyond

  not_kept : (number : ℕ) → kept number ≡ false → all_but closing.visits number ≡ false
  not_kept number gone = by (all_but closing.visits number) refl
    where
      by : (stays : Bool) → all_but closing.visits number ≡ stays → stays ≡ false
      by true e = sym (is_left.stay number e) ∙ gone
      by false e = refl

  still_over : (visits : List VisitContent) → AllByRecursion (IsOverOrStays (all_but closing.visits)) visits → AllByRecursion (IsOverOrStays kept) visits
  still_over [] all = tt
  still_over (visit ∷ visits) all = (λ gone. all.0 (not_kept visit.number gone), still_over visits all.1)

  may_stay : MayStay kept held.own.visits
  may_stay = record {
    over = still_over held.own.visits is.may.over;
    later = λ number high. is_left.stay number (is.may.later number high);
    newest =
        let stays = stays_if_newest held.own.visits held.copy.visits closing.visits orderly.numbered is.all.visits (last_number held.own.visits) (omega arith) in
        last_kept held.own.visits held.copy.visits closing.visits orderly.numbered is.all.visits kept 0 held.own.visits (is_left.stay (last_number held.own.visits) stays);
  }

  may_close : MayClose content es archived own last kept
  may_close = record { from = grown; to = within; stay = subst (MayStay kept) same_visits may_stay }

  -- ---- the rows

  left_beyond : rows_beyond last left ≡ rows_without_lists away (carried last kept own)
  left_beyond =
      ap (rows_beyond last) is_left.is
      ∙ ap (λ (r : Rows). rows_without_lists is_left.away (with_visits_that kept r))
      (may_go last is_left.deleted held.own (λ i gone. gone_is_closed _ last closing.numbers is.numbers i (is_left.only i gone))
      ∙ sym (raising_closes archived.last_closed last held.own grown)
      ∙ ap (carried last (λ number. true)) stands.beyond)
      ∙ more_away stands.away is_left.away (with_visits_that kept (carried last (λ number. true) own))
      ∙ ap (λ (visits : List VisitContent). rows_without_lists away (record (carried last kept own) { visits = own_visits kept visits })) (sym (all_own own.visits))

  abbrev archived_then : Archived
  archived_then = archived_with archived own last kept

  rest_then : (i : Interchange) → Contains (filter (is_closed last) left.interchanges) i → Contains archived_then.interchanges i
  rest_then i inside = contains_had archived_then.interchanges i (by (is_closed archived.last_closed i) refl)
    where
      there : Has left.interchanges i × (is_closed last i ≡ true)
      there = has_filtered (is_closed last) left.interchanges i (has_contained _ i inside)

      stood : Has held.own.interchanges i
      stood = (has_filtered (λ (other : Interchange). not (is_left.deleted other)) held.own.interchanges i (subst (λ (r : Rows). Has r.interchanges i) is_left.is there.0)).0

      by : (closed : Bool) → is_closed archived.last_closed i ≡ closed → Has archived_then.interchanges i
      by true e =
          has_left archived.interchanges (filter (is_closed last) own.interchanges) i
          (has_contained archived.interchanges i (stands.rest i (contains_had _ i (has_kept (is_closed archived.last_closed) held.own.interchanges i stood e))))
      by false e =
          let mine : Has own.interchanges i = subst (λ (r : Rows). Has r.interchanges i) stands.beyond (has_kept (is_beyond archived.last_closed) held.own.interchanges i stood (ap not e)) in
          has_right archived.interchanges (filter (is_closed last) own.interchanges) i (has_kept (is_closed last) own.interchanges i mine there.1)

  -- ---- the archives

  goes : HoldsWhatGoes archived own held.copy last kept
  goes =
      let held_so = is.holds archived (λ i partner. sym (stands.closed partner) i) in
      record {
        texts = λ partner number above high. held_so.texts partner number above high ∙ sym (told_alike archived.last_closed held.own partner number above).text ∙ ap (λ (r : Rows). text_in r partner number) stands.beyond;
        replies = λ partner number above high. held_so.replies partner number above high ∙ sym (told_alike archived.last_closed held.own partner number above).reply ∙ ap (λ (r : Rows). reply_in r partner number) stands.beyond;
        visits = λ visit inside gone. held_so.visits visit (subst (λ l. Contains l visit) (sym same_visits) inside) (not_kept visit.number gone);
      }

  abbrev copy_closing : (ℕ → ℕ) → Archive
  copy_closing closes = record { rows = held.copy; last_closed = closes; lists = named.one.lists }

  one_is : named.one ≡ copy_closing last
  one_is = λ i. record { rows = named.rows i; last_closed = named.closes i; lists = named.one.lists }

  after_is : after ≡ named.before ++ copy_closing last ∷ []
  after_is = named.are ∙ ap (λ (a : Archive). named.before ++ a ∷ []) one_is

  held_before : Hold (named.before ++ copy_closing archived.last_closed ∷ []) archived
  held_before = elim named.named [
    | inl new ↦ added_hold content es named.before archived own stands.whole held.copy named.one.lists stands.parts (subst (λ (l : List Archive). Hold l archived) new.1 stands.hold)
    | inr old ↦
        let same : last ≡ archived.last_closed = ap (λ (c : RegisterContent). last_closed c.segments) (sym old.0) ∙ (λ i partner. stands.closed partner i) in
        subst (λ (l : List Archive). Hold l archived) (old.1 ∙ after_is ∙ ap (λ f. named.before ++ copy_closing f ∷ []) same) stands.hold
  ]

  hold_then : Hold after archived_then
  hold_then =
      subst (λ (l : List Archive). Hold l archived_then) (sym after_is)
      (closings_held content es named.before archived own stands.whole held.copy named.one.lists last kept stands.parts may_close goes held_before)

  -- ---- the newest visits

  newest_is : newest_visit (raised_register held closing).archives ≡ last_number held.copy.visits
  newest_is = newest_of_last 0 held.copied.archives closing.archive ∙ is.newest

  raised_numbered : are_numbered 1 0 (held.copied.archives ++ closing.archive ∷ []) ≡ true
  raised_numbered =
      let all : List ArchiveContent = (raised_register held closing).archives in
      let archives_sound = and_parts (are_sound_archives all) _ is.sound.tested in
      let numbered = and_parts _ (are_numbered 1 0 all && have_own_files all) archives_sound.0 in
      (and_parts (are_numbered 1 0 all) (have_own_files all) numbered.1).0

  stayed : (number : ℕ) → newest_visit (raised_register held closing).archives < number → archived.stays number ≡ true
  stayed number above = elim named.named [
    | inl new ↦
        let rises = newest_rises 1 0 held.copied.archives closing.archive raised_numbered in
        let newest = newest_of_last 0 held.copied.archives closing.archive in
        stands.visits number (subst (λ (c : RegisterContent). newest_visit c.archives < number) (sym new.0) (omega (arith, rises, newest, above)))
    | inr old ↦ stands.visits number (subst (λ (c : RegisterContent). newest_visit c.archives < number) (sym old.0) above)
  ]

  -- a visit that goes is one of the archive's
  stays_then : (number : ℕ) → newest_visit (raised_register held closing).archives < number → kept number ≡ true
  stays_then number above = is_left.stay number (by (all_but closing.visits number) refl)
    where
      by : (stays : Bool) → all_but closing.visits number ≡ stays → stays ≡ true
      by true e = refl
      by false e =
          let found = (is.all.visits number).0 (gone_contained closing.visits number e) in
          let low = within_last held.copy.visits found.0 copied.numbered found.3.is_copied in
          absurd (omega (arith, low, found.1, newest_is, above))

  visits_then : (number : ℕ) → newest_visit (raised_register held closing).archives < number → archived_then.stays number ≡ true
  visits_then number above = ap (λ b. b && kept number) (stayed number above) ∙ stays_then number above

  -- ---- all of it

  stand_then : Stands content es after left (raised_register held closing)
  stand_then = record {
    given = stands.given;
    archived = archived_then;
    own = carried last kept own;
    whole = whole_with archived_then (carried last kept own) stands.whole;
    parts = closing_parts content es archived own stands.whole last kept stands.parts may_close;
    hold = hold_then;
    closed = λ partner. refl;
    visits = visits_then;
    away = away;
    lists = closing_keeps content es after away archived own stands.whole last kept stands.parts may_close (gone_away content es archives after held closing is_left.away stands is.lists named is_left.lists);
    beyond = left_beyond;
    rest = rest_then;
  }

pub closed_stands : ClosedStoresStand
closed_stands content es archives after held names closing left stands orderly copied is named is_left = stand_then content es archives after held names closing left stands orderly copied is named is_left
