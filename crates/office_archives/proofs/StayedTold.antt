-- Reports of containers, by the store's own rows and by the whole.
use Rattle.std.specs.Prelude.{Contains, filter, not, string_bytes, find, reverse}
use Rattle.std.specs.Option.{option_map, option_or}
use Rattle.std.{specs.Cmp.Lexicographic.bytes_decides, proofs.{lemmas.Bool.{leb-true, le-leb, cases_lt}, lemmas.Option.same_Some}}
use Rattle.std.proofs.Common.{◌≡◌, ℕ, ◌<◌, ◌≤◌, inl, inr, List, [], ◌∷◌, nat_le, Bool, true, false, cond, Option, Some, refl, sym, ap, subst, ◌∙◌, arith, ◌++◌, None, append_assoc, ◌&&◌, ◌||◌, is_some}
use Rattle.std.proofs.{lemmas.List.{append-nil, reverse-append}, lemmas.List.Folds.find-append}
use Rattle.terminal_core.specs.{declared.change.Source.Source, declared.visits.Departure.Departure, Rows.VisitContent}
use Rattle.terminal_core.specs.State.{TerminalState, is_visit_of, last_visit, open_visit}
use Rattle.office_replies.specs.Events.{Event}
use Rattle.office_rows.specs.Rows.{Rows}
use Rattle.office_admission.specs.{Setups.SetupContent, Deliveries.deliveries_of}
use Rattle.office_history.specs.{After.{AreAfter, content_after, machine_after, reply_in}, Laws.HasNoMigration, Cascade.text_in}
use Rattle.office_history.proofs.Kept.{head_in, tail_in}
use Rattle.office_parts.specs.{Archives.{Archive, archive_of}, Parts.{Archived, ArePartsAfter}, Closing.{is_put_away, archived_with}}
use Rattle.office_parts.{specs.OwnTerminal.{is_own, own_terminal, own_visits, MayStay}, proofs.Takings.visits_same}
use Rattle.office_parts.proofs.{Splits.{contained_has, had_both, had_filtered, has_contained, open_kept}, Orders.{body_there, found_beyond, reply_there}}
use Rattle.office_archives.specs.{Copies.{GoByNumbers, IsCopy, AreInTurn}, Visits.{visits_by, IsWithin, HasLeftWithin, IsVisitWithin}}
use Rattle.office_archives.specs.Laws.{ArchivesTellVisits, ClosingsGoByNumbers, CopiesOfNowAreCopies, CopiesStay, ClosingsAddCopies, NumbersBeyondAreToldAlike, ContainersAreTold, VisitsAreTold}
use Rattle.office_archives.{specs.Beyond.{IsBeyond, IsOfNumberBeyond}, proofs.Sources.{same_stayed, other_visit, tickets_alike}}
use Rattle.office_archives.specs.Stayed.{visits_of, report_with, GoOldestFirst, stays_if_any, stands_in, container_if_there, container_with}
use Rattle.office_archives.proofs.Later.{later_leave_visits, migration_on, visits_of_taken}
use Rattle.partner_core.{specs.Deliveries.run, proofs.Orders.option_or-none}
use Rattle.office_tables.specs.Answers.{IsNextOf}
use Rattle.office_reports.specs.{declared.query.About.About, OpenLines.open_lines, Visits.visits_by as reported_by, Yard.slot_in}
use Rattle.office_reports.specs.Containers.{ContainerContent, container_of, found_by, gone_by}
use Rattle.office_report_data.specs.Told.{ReportContent, shown}
use Rattle.office_desk.specs.Reports.{AreShownAlike, container_by, container_told as told_container, contrl_for_partner, contrl_told, partner_called, ticket_if_taken, ticket_of, TellsAbout, TellsReply, TellsReplyOf}
use Rattle.box6346.specs.{declared.box_number.BoxNumber.BoxNumber, declared.slot.Slot.Slot}
use Rattle.office_report_data.specs.Told as value
use Rattle.office_reports.specs.declared.query.About.TheVariants as about

-- ==== Archived: What archives tell of numbers that are closed.

-- ---- what a store has of its own

-- beyond what is closed no visit of an interchange was put away
pub own_tells : (content : SetupContent) (es : List Event) (archived : Archived) (own whole : Rows) (mine : Source) → ArePartsAfter content es archived own whole → GoByNumbers archived → archived.last_closed mine.partner < mine.number
    → visits_by mine own.visits ≡ visits_by mine whole.visits
own_tells content es archived own whole mine are by_numbers beyond =
    ap (visits_by mine) are.parts.visits
    ∙ same_stayed mine archived.stays whole.visits (λ v has gone.
    other_visit mine archived.last_closed beyond v (by_numbers v ((are.parts.others v).1 (contained_has whole.visits v has, gone))))

-- ---- the archive of a number

module _ (StandsSo : (ℕ → ℕ) → Archive → Type 0) (p n : ℕ) where
  -- it stands so to those before it, of which none reaches the number
  pub record IsFound (archive : Archive) : Type 0 where
    pub closed_before : ℕ → ℕ
    pub stands : StandsSo closed_before archive
    pub above : closed_before p < n
    pub reached : n ≤ archive.last_closed p

  past : (last : ℕ) → nat_le n last ≡ false → last < n
  past last e = elim (cases_lt last n) [
    | inl low ↦ low
    | inr high ↦ let bad : false ≡ true = sym e ∙ le-leb n last high in absurd cc
  ]

  by_reach : (closed_before : ℕ → ℕ) (first archive : Archive) (later : Option Archive) (reach : Bool) → nat_le n (first.last_closed p) ≡ reach → StandsSo closed_before first → closed_before p < n
      → (first.last_closed p < n → later ≡ Some archive → IsFound archive) → cond reach (Some first) later ≡ Some archive → IsFound archive
  by_reach closed_before first archive later true e stands above rest found =
      subst IsFound (same_Some first archive found) (record { closed_before = closed_before; stands = stands; above = above; reached = leb-true n (first.last_closed p) e })
  by_reach closed_before first archive later false e stands above rest found = rest (past (first.last_closed p) e) found

  pub found_in_turn : (closed_before : ℕ → ℕ) (archives : List Archive) (archive : Archive) → AreInTurn StandsSo closed_before archives → closed_before p < n → archive_of archives p n ≡ Some archive → IsFound archive
  found_in_turn closed_before [] archive stand above found = cc
  found_in_turn closed_before (first ∷ archives) archive stand above found =
      by_reach closed_before first archive (archive_of archives p n) (nat_le n (first.last_closed p)) refl stand.0 above (found_in_turn first.last_closed archives archive stand.1) found

-- a copy tells the visits of each number that it closed
pub copy_tells : (content : SetupContent) (es : List Event) (closed_before : ℕ → ℕ) (archive : Archive) (whole : Rows) (p n : ℕ) → AreAfter content es whole → IsCopy content es closed_before archive → closed_before p < n → n ≤ archive.last_closed p
    → visits_by (record { partner = p; number = n }) archive.rows.visits ≡ visits_by (record { partner = p; number = n }) whole.visits
copy_tells content es closed_before archive whole p n after copy above reached =
    let mine : Source = record { partner = p; number = n } in
    let at_its_day = copy.at_its_day in
    let last = copy.closed p in
    let taken = copy.taken p in
    ap (λ (r : Rows). visits_by mine r.visits) copy.is_own
    ∙ own_tells content copy.earlier copy.archived copy.own copy.whole mine copy.parts copy.by_numbers (omega (arith, last, above))
    ∙ sym (later_leave_visits content copy.earlier copy.later copy.whole whole mine copy.unmigrated copy.parts.after (subst (λ l. AreAfter content l whole) at_its_day after) (omega (arith, taken, reached)))

pub archives_tell_visits : ArchivesTellVisits
archives_tell_visits content es archives archive whole p n after copies low found =
    let for = found_in_turn (IsCopy content es) p n (λ partner. 0) archives archive copies (omega (arith, low)) found in
    copy_tells content es for.closed_before archive whole p n after for.stands for.above for.reached

-- ==== Copied: Closings that go by numbers, and copies that stay copies.

-- ---- closings

module _ (last more : ℕ → ℕ) (rises : (partner : ℕ) → last partner ≤ more partner) where
  still_within : (source : Source) → IsWithin last source → IsWithin more source
  still_within source within = let rise = rises source.partner in (within.0, omega (arith, within.1, rise))

  still_left : (departure : Option Departure) → HasLeftWithin last departure → HasLeftWithin more departure
  still_left None within = tt
  still_left (Some departure) within = still_within departure.source within

  visit_within : (visit : VisitContent) → IsVisitWithin last visit → IsVisitWithin more visit
  visit_within visit within = record { opened = still_within visit.arrival.source within.opened; closed = still_left visit.departure within.closed }

put_away : (stay : Bool) → not stay ≡ true → stay ≡ false
put_away true e = cc
put_away false e = refl

pub by_numbers : ClosingsGoByNumbers
by_numbers content es archived own whole archive stays are may old copy all held visit inside =
    elim (had_both archived.visits (filter (is_put_away stays) own.visits) visit (has_contained (archived_with archived own archive.last_closed stays).visits visit inside)) [
      | inl before ↦ visit_within archived.last_closed archive.last_closed may.from visit (old visit (contained_has archived.visits visit before))
      | inr goes ↦
          let has = had_filtered (is_put_away stays) own.visits visit goes in
          let copied : Contains archive.rows.visits visit = held visit (contained_has own.visits visit has.0) (put_away (stays visit.number) has.1) in
          let there = had_filtered (is_own copy.archived.stays) copy.whole.visits visit (has_contained _ visit (subst (λ l. Contains l visit) (ap (λ (r : Rows). r.visits) copy.is_own ∙ copy.parts.parts.visits) copied)) in
          visit_within (run (deliveries_of content copy.earlier)) archive.last_closed all visit (visits_of_taken content copy.earlier copy.whole visit copy.parts.after (contained_has copy.whole.visits visit there.0))
    ]

-- ---- copies

copy_stays : (content : SetupContent) (es later : List Event) (closed_before : ℕ → ℕ) (archive : Archive) → HasNoMigration later → IsCopy content es closed_before archive → IsCopy content (es ++ later) closed_before archive
copy_stays content es later closed_before archive none copy = record {
  earlier = copy.earlier;
  later = copy.later ++ later;
  at_its_day = ap (λ l. l ++ later) copy.at_its_day ∙ append_assoc copy.earlier copy.later later;
  unmigrated = migration_on copy.later later none ∙ copy.unmigrated;
  archived = copy.archived;
  own = copy.own;
  whole = copy.whole;
  parts = copy.parts;
  away = copy.away;
  is_own = copy.is_own;
  rest = copy.rest;
  by_numbers = copy.by_numbers;
  closed = copy.closed;
  taken = copy.taken;
}

pub copies_stay : CopiesStay
copies_stay content es later closed_before [] none copies = tt
copies_stay content es later closed_before (archive ∷ archives) none copies =
    (copy_stays content es later closed_before archive none copies.0, copies_stay content es later archive.last_closed archives none copies.1)

pub closings_add : ClosingsAddCopies
closings_add content es closed_before [] archive copies copy = (copy, tt)
closings_add content es closed_before (first ∷ archives) archive copies copy = (copies.0, closings_add content es first.last_closed archives archive copies.1 copy)

pub copies_of_now : CopiesOfNowAreCopies
copies_of_now content es archived own whole rows away last_closed lists are by_numbers is rest within = record {
  earlier = es;
  later = [];
  at_its_day = sym (append-nil es);
  unmigrated = refl;
  archived = archived;
  own = own;
  whole = whole;
  parts = are;
  away = away;
  is_own = is;
  rest = rest;
  by_numbers = by_numbers;
  closed = λ partner. omega arith;
  taken = within;
}

-- ==== BeyondTold: Reports of numbers that are not closed, by the store's own rows and by the whole.

module _ (content : SetupContent) (es : List Event) (archived : Archived) (own whole : Rows) (are : ArePartsAfter content es archived own whole) (by_numbers : GoByNumbers archived) where
  abbrev state_visits : List VisitContent
  state_visits = (machine_after content es).terminal.visits

  -- ---- replies

  moved_next : (code : List ℕ) (p n : ℕ) (text reply : Option (List ℕ)) (found : Option ReportContent) → TellsReply own code p n text reply found → TellsReply whole code p n text reply found
  moved_next code p n None reply found told = told
  moved_next code p n (Some text) reply found told = (told.0, subst (λ partners. IsNextOf p (record whole { partners = partners }) told.0) (sym are.parts.partners) told.1, told.2)

  text_same : (p n : ℕ) → archived.last_closed p < n → text_in own p n ≡ text_in whole p n
  text_same p n far = ap body_there (sym (found_beyond archived own whole p n are.closed are.parts far))

  reply_same : (p n : ℕ) → archived.last_closed p < n → reply_in own p n ≡ reply_in whole p n
  reply_same p n far = ap reply_there (sym (found_beyond archived own whole p n are.closed are.parts far))

  reply_told : (code : List ℕ) (n : ℕ) (partner : Option ℕ) (found : Option ReportContent) → IsBeyond archived.last_closed partner n → TellsReplyOf own code n partner found → TellsReplyOf whole code n partner found
  reply_told code n None found far told = told
  reply_told code n (Some p) found far told =
      moved_next code p n (text_in whole p n) (reply_in whole p n) found
      (subst (λ reply. TellsReply own code p n (text_in whole p n) reply found) (reply_same p n far)
      (subst (λ text. TellsReply own code p n text (reply_in own p n) found) (text_same p n far) told))

  contrl_same : (code : List ℕ) (n : ℕ) (partner : Option ℕ) → IsBeyond archived.last_closed partner n → contrl_for_partner own code n partner ≡ contrl_for_partner whole code n partner
  contrl_same code n None far = refl
  contrl_same code n (Some p) far = ap (contrl_told code n) (reply_same p n far)

  -- ---- tickets

  visits_known : (p n : ℕ) → archived.last_closed p < n → visits_by (record { partner = p; number = n }) (own_visits archived.stays state_visits) ≡ visits_by (record { partner = p; number = n }) state_visits
  visits_known p n far =
      let mine : Source = record { partner = p; number = n } in
      let state_is = visits_same content es whole are.after in
      let own_is : own.visits ≡ own_visits archived.stays state_visits = are.parts.visits ∙ ap (own_visits archived.stays) state_is in
      ap (visits_by mine) (sym own_is) ∙ own_tells content es archived own whole mine are by_numbers far ∙ ap (visits_by mine) state_is

  taken_told : (code : List ℕ) (p n : ℕ) (reply : Option (List ℕ)) → archived.last_closed p < n → AreShownAlike (ticket_if_taken (own_visits archived.stays state_visits) code p n reply) (ticket_if_taken state_visits code p n reply)
  taken_told code p n None far view = refl
  taken_told code p n (Some reply) far view =
      ap Some (tickets_alike (record { partner = p; number = n }) code (own_visits archived.stays state_visits) state_visits (visits_known p n far) view)

  ticket_told : (code : List ℕ) (n : ℕ) (partner : Option ℕ) → IsBeyond archived.last_closed partner n → AreShownAlike (ticket_of (own_visits archived.stays state_visits) own code n partner) (ticket_of state_visits whole code n partner)
  ticket_told code n None far view = refl
  ticket_told code n (Some p) far view =
      ap (λ reply. option_map (shown view) (ticket_if_taken (own_visits archived.stays state_visits) code p n reply)) (reply_same p n far) ∙ taken_told code p n (reply_in whole p n) far view

  told : (asked : About) (what : Option ReportContent) → IsOfNumberBeyond (content_after content es) archived.last_closed asked
      → TellsAbout (content_after content es) (own_terminal archived.stays (machine_after content es).terminal) own asked what → TellsAbout (content_after content es) (machine_after content es).terminal whole asked what
  told (about.Reply code n) what far tells = reply_told (string_bytes code) n (partner_called (content_after content es) (string_bytes code)) what far tells
  told (about.Contrl code n) what far tells = tells ∙ contrl_same (string_bytes code) n (partner_called (content_after content es) (string_bytes code)) far
  told (about.Ticket code n) what far tells = λ view. tells view ∙ ticket_told (string_bytes code) n (partner_called (content_after content es) (string_bytes code)) far view
  told other what far tells = absurd far

pub beyond_told : NumbersBeyondAreToldAlike
beyond_told content es archived own whole asked what are by_numbers far tells = told content es archived own whole are by_numbers asked what far tells

-- ==== StayedTold: Reports of containers, by the store's own rows and by the whole.

-- ---- all visits of a container

module _ (stays : ℕ → Bool) (now : SetupContent) (container : BoxNumber) where
  -- the container's visits that stay are those that stay of its visits
  stayed_of : (visits : List VisitContent) → visits_of container (own_visits stays visits) ≡ own_visits stays (visits_of container visits)
  stayed_of [] = refl
  stayed_of (v ∷ visits) = by (stays v.number) (is_visit_of container v) refl refl (stayed_of visits)
    where
      by : (stay is : Bool) → stays v.number ≡ stay → is_visit_of container v ≡ is → visits_of container (own_visits stays visits) ≡ own_visits stays (visits_of container visits)
          → visits_of container (cond stay (v ∷ own_visits stays visits) (own_visits stays visits)) ≡ own_visits stays (cond is (v ∷ visits_of container visits) (visits_of container visits))
      by true true e f rest =
          ap (λ b. cond b (v ∷ visits_of container (own_visits stays visits)) (visits_of container (own_visits stays visits))) f
          ∙ ap (λ l. v ∷ l) rest
          ∙ sym (ap (λ b. cond b (v ∷ own_visits stays (visits_of container visits)) (own_visits stays (visits_of container visits))) e)
      by true false e f rest = ap (λ b. cond b (v ∷ visits_of container (own_visits stays visits)) (visits_of container (own_visits stays visits))) f ∙ rest
      by false true e f rest = rest ∙ sym (ap (λ b. cond b (v ∷ own_visits stays (visits_of container visits)) (own_visits stays (visits_of container visits))) e)
      by false false e f rest = rest

pub visits_told : VisitsAreTold
visits_told content es archives archived own whole container what are hold told =
    let now : SetupContent = content_after content es in
    let visits : List VisitContent = (machine_after content es).terminal.visits in
    let state_is = visits_same content es whole are.after in
    record {
      is = told ∙ ap (report_with now container) (stayed_of archived.stays now container visits);
      others = λ visit inside gone.
          let has = had_filtered (is_visit_of container) visits visit (has_contained (visits_of container visits) visit inside) in
          hold.visits visit ((are.parts.others visit).1 (subst (λ l. Contains l visit) (sym state_is) (contained_has visits visit has.0), gone));
    }

-- ---- where a container is

module _ (stays : ℕ → Bool) (container : BoxNumber) where
  abbrev if_stays : Option VisitContent → Option VisitContent
  if_stays visit = cond (stays_if_any stays visit) visit None

  abbrev last_of : List VisitContent → Option VisitContent
  last_of visits = find (is_visit_of container) (reverse visits)

  last_cons : (v : VisitContent) (visits : List VisitContent) → last_of (v ∷ visits) ≡ option_or (last_of visits) (cond (is_visit_of container v) (Some v) None)
  last_cons v visits = ap (find (is_visit_of container)) (reverse-append (v ∷ []) visits) ∙ find-append (is_visit_of container) (reverse visits) (v ∷ [])

  last_has : (visits : List VisitContent) (w : VisitContent) → last_of visits ≡ Some w → Contains visits w × (is_visit_of container w ≡ true)
  last_has [] w e = cc
  last_has (v ∷ visits) w e = by (last_of visits) refl (is_visit_of container v) refl (sym (last_cons v visits) ∙ e) (last_has visits w)
    where
      by : (o : Option VisitContent) → last_of visits ≡ o → (is : Bool) → is_visit_of container v ≡ is → option_or (last_of visits) (cond is (Some v) None) ≡ Some w
          → (last_of visits ≡ Some w → Contains visits w × (is_visit_of container w ≡ true)) → Contains (v ∷ visits) w × (is_visit_of container w ≡ true)
      by (Some u) g is f e rest =
          let there = rest (g ∙ sym (ap (λ o. option_or o (cond is (Some v) None)) g) ∙ e) in
          (tail_in v w visits there.0, there.1)
      by None g true f e rest =
          let same : v ≡ w = same_Some v w (sym (ap (λ o. option_or o (Some v)) g) ∙ e) in
          (subst (Contains (v ∷ visits)) same (head_in v visits), ap (is_visit_of container) (sym same) ∙ f)
      by None g false f e rest = let bad : None ≡ Some w = sym (ap (λ (o : Option VisitContent). option_or o None) g) ∙ e in cc

  same_container : (v w : VisitContent) → is_visit_of container v ≡ true → is_visit_of container w ≡ true → is_visit_of v.container w ≡ true
  same_container v w e f =
      let one : v.container ≡ container = (bytes_decides v.container container).0 e in
      let other : w.container ≡ container = (bytes_decides w.container container).0 f in
      (bytes_decides w.container v.container).1 (other ∙ sym one)

  last_stayed : (visits : List VisitContent) → GoOldestFirst stays visits → last_of (own_visits stays visits) ≡ if_stays (last_of visits)
  last_stayed [] first = refl
  last_stayed (v ∷ visits) first = by (stays v.number) refl (is_visit_of container v) refl (last_of visits) refl (last_stayed visits first.1) ∙ sym (ap if_stays (last_cons v visits))
    where
      none_more : (is : Bool) (v : VisitContent) → stays v.number ≡ true → cond is (Some v) None ≡ if_stays (cond is (Some v) None)
      none_more true v e = sym (ap (λ b. cond b (Some v) None) e)
      none_more false v e = refl

      none_left : (is : Bool) (v : VisitContent) → stays v.number ≡ false → None ≡ if_stays (cond is (Some v) None)
      none_left true v e = sym (ap (λ b. cond b (Some v) None) e)
      none_left false v e = refl

      later_stays : (is : Bool) (w : VisitContent) → is_visit_of container v ≡ is → last_of visits ≡ Some w → stays v.number ≡ true → option_or (if_stays (Some w)) (cond is (Some v) None) ≡ if_stays (Some w)
      later_stays true w f g e =
          let there = last_has visits w g in
          let stay : stays w.number ≡ true = first.0 e w there.0 (same_container v w f there.1) in
          let own_w : if_stays (Some w) ≡ Some w = ap (λ b. cond b (Some w) None) stay in
          ap (λ o. option_or o (Some v)) own_w ∙ sym own_w
      later_stays false w f g e = option_or-none (if_stays (Some w))

      by : (stay : Bool) → stays v.number ≡ stay → (is : Bool) → is_visit_of container v ≡ is → (o : Option VisitContent) → last_of visits ≡ o → last_of (own_visits stays visits) ≡ if_stays (last_of visits)
          → last_of (cond stay (v ∷ own_visits stays visits) (own_visits stays visits)) ≡ if_stays (option_or (last_of visits) (cond (is_visit_of container v) (Some v) None))
      by true e is f (Some w) g rest =
          last_cons v (own_visits stays visits)
          ∙ ap (λ o. option_or o (cond (is_visit_of container v) (Some v) None)) (rest ∙ ap if_stays g)
          ∙ ap (λ b. option_or (if_stays (Some w)) (cond b (Some v) None)) f
          ∙ later_stays is w f g e
          ∙ sym (ap (λ o. if_stays (option_or o (cond (is_visit_of container v) (Some v) None))) g)
      by true e is f None g rest =
          last_cons v (own_visits stays visits)
          ∙ ap (λ o. option_or o (cond (is_visit_of container v) (Some v) None)) (rest ∙ ap if_stays g)
          ∙ none_more (is_visit_of container v) v e
          ∙ sym (ap (λ o. if_stays (option_or o (cond (is_visit_of container v) (Some v) None))) g)
      by false e is f (Some w) g rest = rest ∙ ap if_stays g ∙ sym (ap (λ o. if_stays (option_or o (cond (is_visit_of container v) (Some v) None))) g)
      by false e is f None g rest =
          rest ∙ ap if_stays g ∙ none_left (is_visit_of container v) v e ∙ sym (ap (λ o. if_stays (option_or o (cond (is_visit_of container v) (Some v) None))) g)

module _ (stays : ℕ → Bool) (now : SetupContent) (state : TerminalState) (container : BoxNumber) (may : MayStay stays state.visits) (first : GoOldestFirst stays state.visits) where
  gone_if : (b : Bool) (o : Option VisitContent) → gone_by now container (cond b o None) ≡ cond b (gone_by now container o) None
  gone_if true o = refl
  gone_if false o = refl

  gone_told : gone_by now container (last_visit (own_terminal stays state) container) ≡ cond (stays_if_any stays (last_visit state container)) (gone_by now container (last_visit state container)) None
  gone_told = ap (gone_by now container) (last_stayed stays container state.visits first) ∙ gone_if (stays_if_any stays (last_visit state container)) (last_visit state container)

  by_stand : (o : Option VisitContent) (s : Option Slot) → found_by now (own_terminal stays state) container o s
      ≡ cond ((is_some o && is_some s) || stays_if_any stays (last_visit state container)) (found_by now state container o s) None
  by_stand (Some visit) (Some slot) = refl
  by_stand (Some visit) None = gone_told
  by_stand None s = gone_told

  told_if : (b : Bool) (o : Option ContainerContent) → option_map (container_with now stays state container) (cond b o None) ≡ cond b (option_map (container_with now stays state container) o) None
  told_if true o = refl
  told_if false o = refl

  -- its visits are those that stay
  with_stayed : (report : ContainerContent) → container_by now (own_terminal stays state) container report ≡ container_with now stays state container report
  with_stayed report = ap (λ visits. value.container report (open_lines state.lines container) (reported_by now container visits)) (stayed_of stays now container state.visits)

  all_stayed : (o : Option ContainerContent) → option_map (container_by now (own_terminal stays state) container) o ≡ option_map (container_with now stays state container) o
  all_stayed None = refl
  all_stayed (Some report) = ap Some (with_stayed report)

  pub container_stayed : told_container now (own_terminal stays state) container ≡ container_if_there now stays state container
  container_stayed =
      all_stayed (container_of now (own_terminal stays state) container)
      ∙ ap (option_map (container_with now stays state container))
      (ap (λ o. found_by now (own_terminal stays state) container o (slot_in state container)) (open_kept stays container state.visits may.over) ∙ by_stand (open_visit state container) (slot_in state container))
      ∙ told_if (stands_in state container || stays_if_any stays (last_visit state container)) (container_of now state container)

pub containers_told : ContainersAreTold
containers_told content es archived own whole container what are first told =
    let state : TerminalState = (machine_after content es).terminal in
    let state_is = visits_same content es whole are.after in
    told ∙ container_stayed archived.stays (content_after content es) state container (subst (MayStay archived.stays) state_is are.stay) (subst (GoOldestFirst archived.stays) state_is first)
