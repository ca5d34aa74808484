-- What a store's rows and its archives tell, and what the rows after the events tell.
use Rattle.std.specs.{Prelude.{◌==◌, nat_lt, not, filter, Contains, string_bytes, ◌&&◌, nat_le, max, if◌then◌else◌, find, slice_get}, List.Sorted.IsPermutation}
use Rattle.std.{specs.{Option.{option_and_then, option_map, option_or}, List.{AllByRecursion, list_all}}, proofs.lemmas.List.{take-append-le, take_all}}
use Rattle.std.proofs.Common.{◌≡◌, ℕ, ◌+◌, ◌<◌, List, [], ◌∷◌, length, map, take, Bool, true, false, cond, Option, None, Some, refl, sym, ap, subst, ◌∙◌, arith, zero, suc, ◌-◌, ◌≤◌, ◌++◌, inl, inr, ◌⊎◌}
use Rattle.std.proofs.{lemmas.Bool.{and_parts, eqb-true, leb-true, ltb-true, le-leb, leb-false}, lemmas.List.Folds.find-append}
use Rattle.edi_messages.specs.{declared.codes.PartnerKind.PartnerKind, Purposes.CallContent}
use Rattle.partner_core.specs.Deliveries.{run}
use Rattle.sqlite_rules.proofs.ListLemmas.{contains_had, has_contained, has_filtered}
use Rattle.terminal_core.specs.{State.TerminalState, declared.lines.Side.Side}
use Rattle.office_admission.specs.{Deliveries.deliveries_of, Setups.SetupContent, Limits.most_partners}
use Rattle.office_replies.specs.Events.{Event}
use Rattle.office_rows.specs.Rows.{Interchange, Rows, ListingContent}
use Rattle.office_tables.specs.Answers.{has_id, IsNextOf}
use Rattle.office_loading.specs.Waiting.{is_waiting, waiting_numbers}
use Rattle.office_reports.specs.{declared.query.About.About, declared.query.Query.Query, declared.query.View.View, Partners.PartnerContent}
use Rattle.office_report_data.specs.Told.{ReportContent, shown}
use Rattle.office_history.{specs.{After.{content_after, machine_after, reply_in}, Cascade.text_in}, proofs.Accounted.next_follows}
use Rattle.office_parts.specs.{Archives.{Archive, Hold, archive_of}, Closing.{is_beyond, is_closed}, OwnTerminal.own_terminal, Parts.{Archived, ArePartsAfter}}
use Rattle.office_parts.{specs.{Away.lines_away, OwnLists.{ListName, list_name}}, proofs.{LeftOver.told_alike as beyond_alike, AwayLemmas.away_with}}
use Rattle.office_parts.proofs.Orders.{body_there, closed_within, found_beyond, reply_there}
use Rattle.office_desk.specs.Reports.{AreLookedUp, IsLookedUp, Shows, TellsAbout, TellsAfter, TellsNext, TellsOf, TellsPartner, TellsReply, TellsReplyOf, contrl_for_partner, contrl_told, partner_called, ticket_if_taken, ticket_of}
use Rattle.office_desk.proofs.Values.{text_shown}
use Rattle.office_archives.specs.{Beyond.IsBeyond, Counted.{IsOfPartners, TellsOwnMetrics}, Reporting.IsOfWhatStands, Standing.IsOwnWithRest}
use Rattle.office_archives.specs.Telling.{IsOfContainer, IsOfList, IsOfNeither, IsOfNumber, TellsTogether, TogetherTells, shown_beside}
use Rattle.office_archives.specs.Shelves.{HasLists, IsKeptAs, IsOfCall, NamesAll, NamesOneMore, archive_at}
use Rattle.office_archives.proofs.{StayedTold.{beyond_told, containers_told, visits_told}, Moves.{all_looked_up as whole_looked_up, metrics_told, partners_told}}
use Rattle.office_archives.proofs.Rising.{all_among, all_later_put, told_alike, put_told, puts_up_to, rises, up_to_most}
use Rattle.edi_syntax.specs.Numbers.{last_number}
use Rattle.office_closing.specs.{Changes.closed_with, Lists.{SettledListContent, lines_of_list, lists_among, put_lists}, declared.register.Segment.Segment}
use Rattle.office_closing.specs.Register.{ArchiveContent, RegisterContent, is_of, last_closed, reaches, SealedContent}
use Rattle.office_closing.specs.Sound.{are_in_order, are_rising, are_sound_archives, are_sound_segments, are_sound_sealed, are_sound_taken, close_more, is_sound, is_sound_mark, is_within, may_be_list}
use Rattle.office_reports.specs.declared.query.About.TheVariants as about
use Rattle.office_parts.specs.Archives as parts

-- ---- closed interchanges wait for nothing

-- where a number is beyond what is closed, none that waits for it is closed
waiting_beyond : (closed : ℕ → ℕ) (p next : ℕ) → closed p < next → (xs : List Interchange) → filter (is_waiting p next) (filter (is_beyond closed) xs) ≡ filter (is_waiting p next) xs
waiting_beyond closed p next far [] = refl
waiting_beyond closed p next far (i ∷ xs) = by (is_closed closed i) refl (waiting_beyond closed p next far xs)
  where
    others : List Interchange
    others = filter (is_beyond closed) xs

    never : is_closed closed i ≡ true → (waits : Bool) → is_waiting p next i ≡ waits → waits ≡ false
    never e false is = refl
    never e true is =
        let parts = and_parts (i.partner == p) (nat_lt next i.number) is in
        let own : closed i.partner ≡ closed p = ap closed (eqb-true i.partner p parts.0) in
        let low = leb-true i.number (closed i.partner) e in
        let high = ltb-true next i.number parts.1 in
        absurd (omega (arith, own, low, high, far))

    by : (is : Bool) → is_closed closed i ≡ is → filter (is_waiting p next) others ≡ filter (is_waiting p next) xs
        → filter (is_waiting p next) (cond (not is) (i ∷ others) others) ≡ cond (is_waiting p next i) (i ∷ filter (is_waiting p next) xs) (filter (is_waiting p next) xs)
    by true e rest = rest ∙ sym (ap (λ b. cond b (i ∷ filter (is_waiting p next) xs) (filter (is_waiting p next) xs)) (never e (is_waiting p next i) refl))
    by false e rest = ap (λ l. cond (is_waiting p next i) (i ∷ l) l) rest

module _ (content : SetupContent) (es : List Event) (archives : List Archive) (archived : Archived) (own whole rows : Rows) (are : ArePartsAfter content es archived own whole) (is_own : IsOwnWithRest archived own rows) where
  abbrev now : SetupContent
  now = content_after content es

  abbrev state : TerminalState
  state = (machine_after content es).terminal

  abbrev mine : TerminalState
  mine = own_terminal archived.stays state

  abbrev closed : ℕ → ℕ
  closed = archived.last_closed

  -- ---- partners

  partners_own : rows.partners ≡ own.partners
  partners_own = ap (λ (r : Rows). r.partners) is_own.beyond

  next_own : (p next : ℕ) → IsNextOf p rows next → IsNextOf p own next
  next_own p next is = (is.0, subst (λ partners. Contains (filter (has_id p) partners) is.0) partners_own is.1, is.2)

  -- a number that is next is beyond what is closed
  next_far : (p next : ℕ) → IsNextOf p own next → closed p < next
  next_far p next is =
      let has = has_filtered (has_id p) own.partners is.0 (has_contained (filter (has_id p) own.partners) is.0 is.1) in
      let inside : Contains whole.partners is.0 = subst (λ partners. Contains partners is.0) (sym are.parts.partners) (contains_had own.partners is.0 has.0) in
      let follows = next_follows content es whole is.0 are.after inside in
      let same : run (deliveries_of content es) is.0.id ≡ run (deliveries_of content es) p = ap (run (deliveries_of content es)) (eqb-true is.0.id p has.1) in
      let upto = closed_within content es archived own whole p are in
      omega (arith, upto, same, follows, is.2)

  waiting_own : (p next : ℕ) → closed p < next → waiting_numbers p next rows ≡ waiting_numbers p next own
  waiting_own p next far =
      ap (map (λ (i : Interchange). i.number)) (sym (waiting_beyond closed p next far rows.interchanges) ∙ ap (λ (r : Rows). filter (is_waiting p next) r.interchanges) is_own.beyond)

  looked_up : (id : ℕ) (account : List ℕ × PartnerKind) (partner : PartnerContent) → IsLookedUp rows id account partner → IsLookedUp own id account partner
  looked_up id account partner is =
      let next = next_own id partner.next is.next in
      record {
        code = is.code;
        kind = is.kind;
        next = next;
        waiting = subst (λ numbers. IsPermutation numbers partner.waiting) (waiting_own id partner.next (next_far id partner.next next)) is.waiting;
      }

  all_looked_up : (id : ℕ) (accounts : List (List ℕ × PartnerKind)) (partners : List PartnerContent) → AreLookedUp rows id accounts partners → AreLookedUp own id accounts partners
  all_looked_up id [] [] all = tt
  all_looked_up id [] (partner ∷ partners) all = absurd all
  all_looked_up id (account ∷ accounts) [] all = absurd all
  all_looked_up id (account ∷ accounts) (partner ∷ partners) all = (looked_up id account partner all.0, all_looked_up (id + 1) accounts partners all.1)

  partner_own : (accounts : List (List ℕ × PartnerKind)) (id : Option ℕ) (what : Option ReportContent) → TellsPartner rows accounts id what → TellsPartner own accounts id what
  partner_own accounts None what told = told
  partner_own accounts (Some id) what told = (told.0, told.1, (told.2.0, looked_up id told.0 told.2.0 told.2.1, told.2.2))

  next_told : (id : Option ℕ) (found : Option (List ℕ)) → TellsNext rows id found → TellsNext own id found
  next_told None found told = told
  next_told (Some id) found told = (told.0, next_own id told.0 told.1, told.2)

  -- ---- what the store's rows tell as the whole

  by_whole : (asked : About) (what : Option ReportContent) → TellsAbout now state whole asked what → TellsAfter content es asked what
  by_whole asked what tells = record { rows = whole; after = are.after; tells = tells }

  standing : (asked : About) (view : View) (what : Option ReportContent) → IsOfWhatStands asked → TellsAbout now mine own asked what → Shows (TellsAfter content es asked) view (option_map (shown view) what)
  standing asked view what is told = (what, by_whole asked what (told_alike content es archived own whole asked what are is told), refl)

  counted : (asked : About) (view : View) (what : Option ReportContent) → IsOfPartners asked → TellsAbout now mine own asked what → Shows (TellsAfter content es asked) view (option_map (shown view) what)
  counted asked view what is told = (what, by_whole asked what (partners_told content es archived own whole asked what are is told), refl)

  -- it is asked neither of a container, of lists, nor of a number
  others_shown : (asked : About) (view : View) (what : Option ReportContent) → IsOfNeither asked → TellsAbout now mine rows asked what → TogetherTells content es archives archived whole asked view (option_map (shown view) what)
  others_shown about.Yard view what is told = standing about.Yard view what tt told
  others_shown about.Picture view what is told = standing about.Picture view what tt told
  others_shown about.Blocks view what is told = standing about.Blocks view what tt told
  others_shown (about.Block letter) view what is told = standing (about.Block letter) view what tt told
  others_shown (about.Next code) view what is told =
      standing (about.Next code) view what tt (told.0, next_told (partner_called now (string_bytes code)) told.0 told.1, told.2)
  others_shown about.Partners view what is told = counted about.Partners view what tt (told.0, all_looked_up 1 now.partners told.0 told.1, told.2)
  others_shown (about.Partner code) view what is told =
      counted (about.Partner code) view what tt (partner_own now.partners (partner_called now (string_bytes code)) what told)
  others_shown about.Health view what is told = counted about.Health view what tt told
  others_shown about.Metrics view what is told =
      let own_told = metrics_told content es archived own whole what are (told.0, (told.1.0, all_looked_up 1 now.partners told.1.0 told.1.1, told.1.2), told.2) in
      subst (TellsOwnMetrics now archived.stays state whole) (text_shown view own_told.0 ∙ ap (option_map (shown view)) (sym own_told.2)) own_told.1
  others_shown other view what is told = absurd is

  pub others_told : (asked : Query) (found : Option (List ℕ)) → IsOfNeither asked.about → TellsOf now mine rows asked found → TellsTogether content es archives archived whole asked found
  others_told asked found is told =
      subst (TogetherTells content es archives archived whole asked.about asked.view) (sym told.2) (others_shown asked.about asked.view told.0 is told.1)

  -- ---- what the store has itself

  -- the accounts that were looked up are those of the whole
  pub accounts_told : (partners : List PartnerContent) → AreLookedUp rows 1 now.partners partners → AreLookedUp whole 1 now.partners partners
  accounts_told partners looked = whole_looked_up content es archived own whole are 1 now.partners partners (all_looked_up 1 now.partners partners looked)

  -- ---- lists

  list_shown : (asked : About) (view : View) (what : Option ReportContent) (call : CallContent) (side : Side) → IsOfList asked call side → TellsAbout now mine rows asked what → TogetherTells content es archives archived whole asked view (option_map (shown view) what)
  list_shown (about.List asked on) view what call side is told = standing (about.List asked on) view what tt told
  list_shown (about.Work asked on) view what call side is told = standing (about.Work asked on) view what tt told
  list_shown other view what call side is told = absurd is

  pub list_told : (asked : Query) (found : Option (List ℕ)) (call : CallContent) (side : Side) → IsOfList asked.about call side → TellsOf now mine rows asked found → TellsTogether content es archives archived whole asked found
  list_told asked found call side is told =
      subst (TogetherTells content es archives archived whole asked.about asked.view) (sym told.2) (list_shown asked.about asked.view told.0 call side is told.1)

  -- ---- containers

  pub container_told : (asked : About) (view : View) (what : Option ReportContent) → Hold archives archived → IsOfContainer asked → TellsAbout now mine rows asked what
      → TogetherTells content es archives archived whole asked view (shown_beside (length archives) view what)
  container_told (about.Visits container) view what hold is told = (what, visits_told content es archives archived own whole container what are hold told, refl)
  container_told (about.Container container) view what hold is told =
      λ oldest. ap (shown_beside (length archives) view) (containers_told content es archived own whole container what are oldest told)
  container_told other view what hold is told = absurd is

  -- ---- numbers beyond

  text_same : (p n : ℕ) → closed p < n → text_in rows p n ≡ text_in whole p n
  text_same p n far = sym (beyond_alike closed rows p n far).text ∙ ap (λ r. text_in r p n) is_own.beyond ∙ ap body_there (sym (found_beyond archived own whole p n are.closed are.parts far))

  reply_own : (p n : ℕ) → closed p < n → reply_in rows p n ≡ reply_in own p n
  reply_own p n far = sym (beyond_alike closed rows p n far).reply ∙ ap (λ r. reply_in r p n) is_own.beyond

  reply_same : (p n : ℕ) → closed p < n → reply_in rows p n ≡ reply_in whole p n
  reply_same p n far = reply_own p n far ∙ ap reply_there (sym (found_beyond archived own whole p n are.closed are.parts far))

  moved : (code : List ℕ) (p n : ℕ) (text reply : Option (List ℕ)) (found : Option ReportContent) → TellsReply rows code p n text reply found → TellsReply whole code p n text reply found
  moved code p n None reply found told = told
  moved code p n (Some text) reply found told = (told.0, (told.1.0, subst (λ partners. Contains (filter (has_id p) partners) told.1.0) (partners_own ∙ sym are.parts.partners) told.1.1, told.1.2), told.2)

  reply_told : (code : List ℕ) (p n : ℕ) (found : Option ReportContent) → closed p < n → TellsReplyOf rows code n (Some p) found → TellsReplyOf whole code n (Some p) found
  reply_told code p n found far told =
      moved code p n (text_in whole p n) (reply_in whole p n) found
      (subst (λ reply. TellsReply rows code p n (text_in whole p n) reply found) (reply_same p n far)
      (subst (λ text. TellsReply rows code p n text (reply_in rows p n) found) (text_same p n far) told))

  module _ (code : List ℕ) (p n : ℕ) (called : partner_called now code ≡ Some p) where
    abbrev called_by : (other : List ℕ) → other ≡ code → partner_called now other ≡ Some p
    called_by other same = ap (partner_called now) same ∙ called

    -- the number is not closed
    number_shown : (asked : About) (view : View) (what : Option ReportContent) → IsOfNumber asked code n → closed p < n → TellsAbout now mine rows asked what
        → TogetherTells content es archives archived whole asked view (option_map (shown view) what)
    number_shown (about.Reply partner k) view what is far told = λ low.
        let here = called_by (string_bytes partner) is.0 in
        let above : closed p < k = omega (arith, far, is.1) in
        let whole_told : TellsReplyOf whole (string_bytes partner) k (partner_called now (string_bytes partner)) what =
        subst (λ o. TellsReplyOf whole (string_bytes partner) k o what) (sym here)
        (reply_told (string_bytes partner) p k what above (subst (λ o. TellsReplyOf rows (string_bytes partner) k o what) here told)) in
        (what, by_whole (about.Reply partner k) what whole_told, refl)
    number_shown (about.Contrl partner k) view what is far told = λ low.
        let here = called_by (string_bytes partner) is.0 in
        let above : closed p < k = omega (arith, far, is.1) in
        let same : contrl_for_partner rows (string_bytes partner) k (partner_called now (string_bytes partner)) ≡ contrl_for_partner whole (string_bytes partner) k (partner_called now (string_bytes partner)) =
        ap (contrl_for_partner rows (string_bytes partner) k) here ∙ ap (contrl_told (string_bytes partner) k) (reply_same p k above) ∙ sym (ap (contrl_for_partner whole (string_bytes partner) k) here) in
        (what, by_whole (about.Contrl partner k) what (told ∙ same), refl)
    number_shown (about.Ticket partner k) view what is far told = λ low by_numbers copies.
        let here = called_by (string_bytes partner) is.0 in
        let above : closed p < k = omega (arith, far, is.1) in
        let same : ticket_of mine.visits rows (string_bytes partner) k (partner_called now (string_bytes partner)) ≡ ticket_of mine.visits own (string_bytes partner) k (partner_called now (string_bytes partner)) =
        ap (ticket_of mine.visits rows (string_bytes partner) k) here ∙ ap (ticket_if_taken mine.visits (string_bytes partner) p k) (reply_own p k above) ∙ sym (ap (ticket_of mine.visits own (string_bytes partner) k) here) in (
          what,
          by_whole (about.Ticket partner k) what
              (beyond_told content es archived own whole (about.Ticket partner k) what are by_numbers (subst (λ o. IsBeyond closed o k) (sym here) above)
              (λ shown_as. told shown_as ∙ ap (option_map (shown shown_as)) same)),
          refl,
        )
    number_shown other view what is far told = absurd is

    pub number_told : (asked : Query) (found : Option (List ℕ)) → IsOfNumber asked.about code n → closed p < n → TellsOf now mine rows asked found → TellsTogether content es archives archived whole asked found
    number_told asked found is far told =
        subst (TogetherTells content es archives archived whole asked.about asked.view) (sym told.2) (number_shown asked.about asked.view told.0 is far told.1)

  -- no partner has the code
  nobody_shown : (code : List ℕ) (n : ℕ) (asked : About) (view : View) → IsOfNumber asked code n → partner_called now code ≡ None → TogetherTells content es archives archived whole asked view None
  nobody_shown code n (about.Reply partner k) view is called = λ low. (
    None,
    by_whole (about.Reply partner k) None (subst (λ o. TellsReplyOf whole (string_bytes partner) k o None) (sym (ap (partner_called now) is.0 ∙ called)) refl),
    refl,
  )
  nobody_shown code n (about.Contrl partner k) view is called = λ low.
      (None, by_whole (about.Contrl partner k) None (sym (ap (contrl_for_partner whole (string_bytes partner) k) (ap (partner_called now) is.0 ∙ called))), refl)
  nobody_shown code n (about.Ticket partner k) view is called = λ low by_numbers copies. (
    None,
    by_whole (about.Ticket partner k) None
        (λ shown_as. sym (ap (λ o. option_map (shown shown_as) (ticket_of state.visits whole (string_bytes partner) k o)) (ap (partner_called now) is.0 ∙ called))),
    refl,
  )
  nobody_shown code n other view is called = absurd is

  pub nobody_told : (code : List ℕ) (n : ℕ) (asked : Query) → IsOfNumber asked.about code n → partner_called now code ≡ None → TellsTogether content es archives archived whole asked None
  nobody_told code n asked is called = nobody_shown code n asked.about asked.view is called

-- ==== Naming: What a register names, once it has an archive more.

-- ---- lists

slice_left : {A : Type 0} (xs ys : List A) (i : ℕ) → i < length xs → slice_get (xs ++ ys) i ≡ slice_get xs i
slice_left [] ys i low = absurd (omega (arith, low))
slice_left (x ∷ xs) ys zero low = refl
slice_left (x ∷ xs) ys (suc i) low = slice_left xs ys i (omega (arith, low))

slice_last : {A : Type 0} (xs : List A) (x : A) → slice_get (xs ++ x ∷ []) (length xs) ≡ Some x
slice_last [] x = refl
slice_last (y ∷ xs) x = slice_last xs x

slice_some : {A : Type 0} (xs : List A) (i : ℕ) → i < length xs → (x : A) × (slice_get xs i ≡ Some x)
slice_some [] i low = absurd (omega (arith, low))
slice_some (x ∷ xs) zero low = (x, refl)
slice_some (x ∷ xs) (suc i) low = slice_some xs i (omega (arith, low))

longer : {A : Type 0} (xs : List A) (x : A) → length (xs ++ x ∷ []) ≡ length xs + 1
longer [] x = refl
longer (y ∷ xs) x = let rest = longer xs x in omega (arith, rest)

-- what is found is one of those that all are
found_all : {A : Type 0} (f g : A → Bool) (xs : List A) (x : A) → list_all g xs ≡ true → find f xs ≡ Some x → g x ≡ true
found_all f g [] x all found = absurd cc
found_all f g (y ∷ xs) x all found = by (f y) (λ later. found_all f g xs x (and_parts (g y) (list_all g xs) all).1 later) found
  where
    by : (is : Bool) → (find f xs ≡ Some x → g x ≡ true) → cond is (Some y) (find f xs) ≡ Some x → g x ≡ true
    by true rest here = let same : y ≡ x = cc in ap g (sym same) ∙ (and_parts (g y) (list_all g xs) all).0
    by false rest later = rest later

found_each : {A : Type 0} (f : A → Bool) (P : A → Type 0) (xs : List A) (x : A) → AllByRecursion P xs → find f xs ≡ Some x → P x
found_each f P [] x all found = absurd cc
found_each f P (y ∷ xs) x all found = by (f y) (λ later. found_each f P xs x all.1 later) found
  where
    by : (is : Bool) → (find f xs ≡ Some x → P x) → cond is (Some y) (find f xs) ≡ Some x → P x
    by true rest here = let same : y ≡ x = cc in subst P same all.0
    by false rest later = rest later

-- ---- segments

-- a number that a segment reaches is closed
closed_if_found : (p n : ℕ) (segments : List Segment) (s : Segment) → find (reaches p n) segments ≡ Some s → n ≤ last_closed segments p
closed_if_found p n [] s found = absurd cc
closed_if_found p n (one ∷ segments) s found = by (λ later. closed_if_found p n segments s later) (is_of p one) (nat_le n one.last) refl found
  where
    by : (find (reaches p n) segments ≡ Some s → n ≤ last_closed segments p) → (mine within : Bool) → nat_le n one.last ≡ within → cond (mine && within) (Some one) (find (reaches p n) segments) ≡ Some s → n ≤ max (if mine then one.last else 0) (last_closed segments p)
    by rest true true e here = let low = leb-true n one.last e in omega (arith, low)
    by rest true false e later = let low = rest later in omega (arith, low)
    by rest false within e later = let low = rest later in omega (arith, low)

-- one that none reaches is not
open_if_none : (p n : ℕ) (segments : List Segment) → 1 ≤ n → find (reaches p n) segments ≡ None → last_closed segments p < n
open_if_none p n [] from none = omega (arith, from)
open_if_none p n (one ∷ segments) from none = by (λ later. open_if_none p n segments from later) (is_of p one) (nat_le n one.last) refl none
  where
    by : (find (reaches p n) segments ≡ None → last_closed segments p < n) → (mine within : Bool) → nat_le n one.last ≡ within → cond (mine && within) (Some one) (find (reaches p n) segments) ≡ None → max (if mine then one.last else 0) (last_closed segments p) < n
    by rest true true e here = absurd cc
    by rest true false e later = let far = leb-false n one.last e in let low = rest later in omega (arith, far, low)
    by rest false within e later = let low = rest later in omega (arith, from, low)

-- ---- lists that were put away

-- what is kept of a list is what came last
kept_last : (call : CallContent) (side : Side) (text old : Option (List ℕ)) (lines older : Option (List ListingContent)) → IsKeptAs call side text lines → IsKeptAs call side old older
    → IsKeptAs call side (option_or text old) (option_or lines older)
kept_last call side None old None older is was = was
kept_last call side None old (Some lines) older is was = absurd is
kept_last call side (Some text) old None older is was = absurd is
kept_last call side (Some text) old (Some lines) older is was = is

of_either : {A : Type 0} (one other : Option A) (P : Type 0) → (one ≡ None) ⊎ P → (other ≡ None) ⊎ P → (option_or one other ≡ None) ⊎ P
of_either one other P (inr is) others = inr is
of_either one other P (inl never) (inr is) = inr is
of_either one other P (inl never) (inl before) = inl (ap (λ o. option_or o other) never ∙ before)

-- these rows have the lines of the list as these archives have them
abbrev AreKeptIn : CallContent → Side → List SettledListContent → List Archive → Type 0
AreKeptIn call side rows archives = IsKeptAs call side (lines_of_list rows call side) (lines_away archives (list_name call side))

-- ---- an archive more

module _ (names : RegisterContent) (list : List Archive) (archive : ArchiveContent) (segments : List Segment) (lists : List SettledListContent) (taken : List Segment) (sealed : List SealedContent) (one : Archive) (sound : is_sound names ≡ true) (are : NamesAll names list)
    (own : AllByRecursion (λ (segment : Segment). segment.archive ≡ length list + 1) segments) (own_lists : AllByRecursion (λ (put : SettledListContent). put.archive ≡ length list + 1) lists)
    (closed : (partner : ℕ) → one.last_closed partner ≡ last_closed (closed_with archive segments lists taken sealed names).segments partner) (has : HasLists one lists) where
  abbrev more : List Archive
  more = list ++ one ∷ []

  abbrev most : ℕ
  most = length names.archives

  abbrev segments_within : Bool
  segments_within = list_all (is_within most) names.segments

  abbrev lists_within : Bool
  lists_within = list_all (may_be_list most) names.lists

  abbrev lists_rise : Bool
  lists_rise = are_rising None names.lists

  abbrev the_last : Bool
  the_last = are_sound_taken most names.taken && (are_sound_sealed most names.sealed && is_sound_mark names.closed_for)

  abbrev with_lists : Bool
  with_lists = (lists_within && lists_rise) && the_last

  after_archives : (are_sound_segments most names.segments && with_lists) ≡ true
  after_archives = (and_parts (are_sound_archives names.archives) (are_sound_segments most names.segments && with_lists) sound).1

  sound_segments : segments_within ≡ true
  sound_segments = (and_parts segments_within (are_in_order 0 0 names.segments && close_more [] names.segments) (and_parts (are_sound_segments most names.segments) with_lists after_archives).0).0

  sound_lists : (lists_within && lists_rise) ≡ true
  sound_lists = (and_parts (lists_within && lists_rise) the_last (and_parts (are_sound_segments most names.segments) with_lists after_archives).1).0

  within : (p n : ℕ) (s : Segment) → find (reaches p n) names.segments ≡ Some s → s.archive - 1 < length list
  within p n s found =
      let is : is_within most s ≡ true = found_all (reaches p n) (is_within most) names.segments s sound_segments found in
      let partner = nat_le 1 s.partner && nat_le s.partner most_partners in
      let place = nat_le 1 s.archive && nat_le s.archive most in
      let number = nat_le 1 s.last && nat_le s.last last_number in
      let places = and_parts (nat_le 1 s.archive) (nat_le s.archive most) (and_parts partner place (and_parts (partner && place) number is).0).1 in
      let low : 1 ≤ s.archive = leb-true 1 s.archive places.0 in
      let high : s.archive ≤ most = leb-true s.archive most places.1 in
      omega (arith, are.counted, low, high)

  -- of a number the new one is asked if none before it reaches it
  asked : (p n : ℕ) → archive_of more p n ≡ option_or (archive_of list p n) (cond (parts.reaches p n one) (Some one) None)
  asked p n = find-append (parts.reaches p n) list (one ∷ [])

  named : (p n : ℕ) → 1 ≤ n → (old new : Option Segment) → find (reaches p n) names.segments ≡ old → find (reaches p n) segments ≡ new
      → archive_of more p n ≡ option_and_then (archive_at more) (option_map (λ (s : Segment). s.archive) (option_or old new))
  named p n from (Some s) new e e' =
      let at = slice_some list (s.archive - 1) (within p n s e) in
      let before : archive_of list p n ≡ Some at.0 = are.named p n from ∙ ap (λ o. option_and_then (archive_at list) (option_map (λ (x : Segment). x.archive) o)) e ∙ at.1 in
      asked p n ∙ ap (λ o. option_or o (cond (parts.reaches p n one) (Some one) None)) before ∙ sym (slice_left list (one ∷ []) (s.archive - 1) (within p n s e) ∙ at.1)
  named p n from None (Some s) e e' =
      let before : archive_of list p n ≡ None = are.named p n from ∙ ap (λ o. option_and_then (archive_at list) (option_map (λ (x : Segment). x.archive) o)) e in
      let found : find (reaches p n) (names.segments ++ segments) ≡ Some s = find-append (reaches p n) names.segments segments ∙ ap (λ o. option_or o (find (reaches p n) segments)) e ∙ e' in
      let low = closed_if_found p n (names.segments ++ segments) s found in
      let place = found_each (reaches p n) _ segments s own e' in
      let index : s.archive - 1 ≡ length list = omega (arith, place) in
      asked p n ∙ ap (λ o. option_or o (cond (parts.reaches p n one) (Some one) None)) before ∙ ap (λ b. cond b (Some one) None) (le-leb n (one.last_closed p) (omega (arith, low, closed p)))
      ∙ sym (ap (slice_get more) index ∙ slice_last list one)
  named p n from None None e e' =
      let before : archive_of list p n ≡ None = are.named p n from ∙ ap (λ o. option_and_then (archive_at list) (option_map (λ (x : Segment). x.archive) o)) e in
      let none : find (reaches p n) (names.segments ++ segments) ≡ None = find-append (reaches p n) names.segments segments ∙ ap (λ o. option_or o (find (reaches p n) segments)) e ∙ e' in
      let far = open_if_none p n (names.segments ++ segments) from none in
      asked p n ∙ ap (λ o. option_or o (cond (parts.reaches p n one) (Some one) None)) before ∙ not_reached (nat_le n (one.last_closed p)) refl (omega (arith, far, closed p))
    where
      not_reached : (is : Bool) → nat_le n (one.last_closed p) ≡ is → one.last_closed p < n → cond is (Some one) None ≡ None
      not_reached true e far = absurd (omega (arith, leb-true n (one.last_closed p) e, far))
      not_reached false e far = refl

  kept_then : (call : CallContent) (side : Side) → IsKeptAs call side (lines_of_list (put_lists lists names.lists) call side) (lines_away more (list_name call side))
  kept_then call side =
      let both = and_parts lists_within lists_rise sound_lists in
      let text = put_told call side (length list + 1) lists names.lists own_lists (rises names.lists both.1) (up_to_most most (length list + 1) names.lists (omega (arith, are.counted)) both.0) in
      subst (λ t. IsKeptAs call side t (lines_away more (list_name call side))) (sym text)
      (subst (IsKeptAs call side (option_or (lines_of_list lists call side) (lines_of_list names.lists call side))) (sym (away_with list one (list_name call side)))
      (kept_last call side _ _ _ _ (has.kept call side) (are.lists call side)))

  -- with the first so many, all but the new one, or all
  among_then : (count : ℕ) (call : CallContent) (side : Side) → AreKeptIn call side (lists_among count (put_lists lists names.lists)) (take count more)
  among_then count call side = by (nat_le count (length list)) refl
    where
      by : (early : Bool) → nat_le count (length list) ≡ early → AreKeptIn call side (lists_among count (put_lists lists names.lists)) (take count more)
      by true e =
          let low = leb-true count (length list) e in
          subst (λ rows. AreKeptIn call side rows (take count more)) (sym (all_later_put count (length list + 1) lists names.lists own_lists (omega (arith, low))))
          (subst (AreKeptIn call side (lists_among count names.lists)) (sym (take-append-le count list (one ∷ []) low)) (are.among count call side))
      by false e =
          let high = leb-false count (length list) e in
          let old = up_to_most most count names.lists (omega (arith, are.counted, high)) (and_parts lists_within lists_rise sound_lists).0 in
          subst (λ rows. AreKeptIn call side rows (take count more)) (sym (all_among count (put_lists lists names.lists) (puts_up_to count (length list + 1) lists names.lists own_lists (omega (arith, high)) old)))
          (subst (AreKeptIn call side (put_lists lists names.lists)) (sym (take_all count more (let many = longer list one in omega (arith, high, many)))) (kept_then call side))

  of_calls_then : (name : ListName) → (lines_away more name ≡ None) ⊎ IsOfCall name
  of_calls_then name = subst (λ o. (o ≡ None) ⊎ IsOfCall name) (sym (away_with list one name)) (of_either (one.lists name) (lines_away list name) (IsOfCall name) (has.of_calls name) (are.of_calls name))

  all_named : NamesAll (closed_with archive segments lists taken sealed names) more
  all_named = record {
    lists = kept_then;
    among = among_then;
    of_calls = of_calls_then;
    counted = longer list one ∙ ap (λ n. n + 1) are.counted ∙ sym (longer names.archives archive);
    named = λ p n from. named p n from (find (reaches p n) names.segments) (find (reaches p n) segments) refl refl
        ∙ ap (λ o. option_and_then (archive_at more) (option_map (λ (s : Segment). s.archive) o)) (sym (find-append (reaches p n) names.segments segments));
  }

pub names_one_more : NamesOneMore
names_one_more names list archive segments lists taken sealed one sound are own own_lists closed has = all_named names list archive segments lists taken sealed one sound are own own_lists closed has
