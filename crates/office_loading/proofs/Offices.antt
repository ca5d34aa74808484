-- What the rows of an office are, part by part.
use Rattle.std.{specs.{Prelude.{not, nat_le, Contains, ◌&&◌}, List.{list_all, range_with_len}}, proofs.lemmas.Bool.{leb-true, leb-false, le-leb}}
use Rattle.std.proofs.Common.{◌≡◌, ℕ, ◌+◌, ◌<◌, ◌≤◌, List, [], ◌∷◌, length, drop, map, get_or, Bool, true, false, cond, IsTrue, refl, sym, ap, subst, ◌∙◌, arith, ◌↔◌, None, Some, All, inl, inr, string_bytes, decimal, ◌-◌, ◌++◌}
use Rattle.std.proofs.{lemmas.Fmt.decimal_injective, lemmas.List.{length-map, get_or-map}, lemmas.List.Elements.{All-map, All-contains, All-cons, All-nil}}
use Rattle.std.proofs.{lemmas.List.Sums.{AllPass-from_list_all, list_all-from_AllPass}, lemmas.Option.{same_Some, slice_get-get_or}}
use Rattle.terminal_core.specs.{declared.visits.Visit.Visit, OneByOne.GoOneByOne, Rows.{VisitContent, visit_content}, declared.lines.Listing.Listing}
use Rattle.terminal_core.specs.{State.{AreNumbered, TerminalState, LineContent, Lines, LineKey, line_key}, declared.restoring.RestoreFault.RestoreFault}
use Rattle.terminal_core.specs.{declared.restoring.RestoreFault.TheVariants.{Unsound, Memory}, declared.lines.Side.Side, Forms.IsFormedLine}
use Rattle.terminal_core.{specs.{Listings.{line_content, key_of, lines_of}, Restoring.AreRowsOf}, proofs.{Formed.{by_key_lists, lists_by_key}, Whole.contained}}
use Rattle.terminal_core.proofs.Lined.{line_first, line_none}
use Rattle.office_loading.specs.Checks.{visits_after, AreOwnVisits, taken_beyond, AreKeptBeyond}
use Rattle.office_loading.specs.Accounts.{accounts_in, AreWholeAccounts}
use Rattle.office_loading.specs.Formed.{MayFollow, IsSoundVisit, IsSoundLine, AreSoundVisits, AreSoundLines, AreByLetter, AreTerminal, RefusesTerminal}
use Rattle.office_loading.specs.{Closed.{ClosedContent, nothing_closed}, Contents.{partner_content, number_content, setting_content, opened_rows}}
use Rattle.office_loading.specs.{OwnOffice.{AreOwnNumbers, IsOwnOffice, IsClosedBelow, NothingClosedIsAnOffice}, Said.AreSettings, Refusals.RefusesTables}
use Rattle.office_loading.specs.{declared.restoring.OpenedTables.OpenedTables, declared.numbers.PartnerRow.PartnerRow}
use Rattle.office_loading.proofs.Kept.{next_of, accounts_are, each_mapped, limit_so}
use Rattle.office_loading.proofs.Keyed.{placed_once, typed_placed_once, listed_once, typed_listed_once, rows_same, first_or_none, key_is, side_is, line_there, kept_in_order, all_beyond}
use Rattle.box6346.specs.{SlotName.IsNamed, declared.box_number.BoxNumber.BoxNumber, declared.slot.Slot.Slot}
use Rattle.edi_messages.specs.{Purposes.CallContent, Owned.call_content, declared.codes.PartnerKind.PartnerKind}
use Rattle.yard_core.specs.{declared.plan.Block.Block, Plan.{IsPlan, InPlan}, declared.placements.Placement.Placement, YardMap.placement_of}
use Rattle.yard_core.proofs.Exact.{numbered}
use Rattle.office_admission.specs.{Setups.SetupContent, Given.{is_party_code, AreDistinct}}
use Rattle.office_rows.specs.{Office.{AreAccounts, HasAccounts, taken_numbers, AreKept, IsOffice}, Opened.{NumberKept, OpenedRows}, Rows.Partner}
use Rattle.std.specs.FinMap as finite_map

-- ==== OwnVisits: Visits whose numbers rise, and go on one by one after the newest closing.

-- ---- visits after a number

-- those above a number from there on are all
pub after_all : (newest above : ℕ) (visits : List VisitContent) → newest ≤ above → AreNumbered above visits → visits_after newest visits ≡ visits
after_all newest above [] low numbered = refl
after_all newest above (v ∷ visits) low numbered = by (nat_le v.number newest) refl (after_all newest v.number visits (omega (arith, low, numbered.0)) numbered.1)
  where
    by : (old : Bool) → nat_le v.number newest ≡ old → visits_after newest visits ≡ visits → cond (not old) (v ∷ visits_after newest visits) (visits_after newest visits) ≡ v ∷ visits
    by true e rest = absurd (omega (arith, leb-true v.number newest e, numbered.0, low))
    by false e rest = ap (λ l. v ∷ l) rest

pub numbered_one_by_one : (above : ℕ) (visits : List VisitContent) → GoOneByOne (above + 1) visits → AreNumbered above visits
numbered_one_by_one above [] go = tt
numbered_one_by_one above (v ∷ visits) go =
    let its : v.number ≡ above + 1 = go.0 in
    (omega (arith, its), subst (λ n. AreNumbered n visits) (sym its) (numbered_one_by_one (above + 1) visits go.1))

-- ---- each after the one before

abbrev pub Follow : (newest before : ℕ) → List VisitContent → Type 0
Follow newest before [] = Unit {0}
Follow newest before (v ∷ visits) = MayFollow newest before v.number × Follow newest v.number visits

-- beyond the newest closing they go on one by one
go_on : (newest before : ℕ) (visits : List VisitContent) → newest ≤ before → Follow newest before visits → GoOneByOne (before + 1) visits
go_on newest before [] low follow = tt
go_on newest before (v ∷ visits) low follow =
    let is = number (nat_le v.number (newest + 1)) refl in
    (is, subst (λ n. GoOneByOne (n + 1) visits) is (go_on newest v.number visits (omega (arith, low, is)) follow.1))
  where
    number : (near : Bool) → nat_le v.number (newest + 1) ≡ near → v.number ≡ before + 1
    number true e = omega (arith, leb-true v.number (newest + 1) e, follow.0.0, low)
    number false e = follow.0.1 (leb-false v.number (newest + 1) e)

on_go : (newest before : ℕ) (visits : List VisitContent) → GoOneByOne (before + 1) visits → Follow newest before visits
on_go newest before [] go = tt
on_go newest before (v ∷ visits) go = ((omega (arith, go.0), λ far. go.0), on_go newest v.number visits (subst (λ n. GoOneByOne (n + 1) visits) (sym go.0) go.1))

abbrev Both : (newest before : ℕ) → List VisitContent → Type 0
Both newest before visits = AreNumbered before visits × GoOneByOne (newest + 1) (visits_after newest visits)

abbrev after_first : ℕ → VisitContent → List VisitContent → Bool → List VisitContent
after_first newest v visits old = cond (not old) (v ∷ visits_after newest visits) (visits_after newest visits)

own_of : (newest before : ℕ) (visits : List VisitContent) → before ≤ newest → Follow newest before visits → Both newest before visits
own_of newest before [] low follow = (tt, tt)
own_of newest before (v ∷ visits) low follow = by (nat_le v.number newest) refl (λ old. own_of newest v.number visits old follow.1)
  where
    by : (old : Bool) → nat_le v.number newest ≡ old → (v.number ≤ newest → Both newest v.number visits) → Both newest before (v ∷ visits)
    by true e more =
        let rest = more (leb-true v.number newest e) in
        ((follow.0.0, rest.0), subst (λ b. GoOneByOne (newest + 1) (after_first newest v visits b)) (sym e) rest.1)
    by false e more =
        let high : newest < v.number = leb-false v.number newest e in
        let is : v.number ≡ newest + 1 = near (nat_le v.number (newest + 1)) refl high in
        let go : GoOneByOne (v.number + 1) visits = go_on newest v.number visits (omega (arith, high)) follow.1 in
        let rise : AreNumbered v.number visits = numbered_one_by_one v.number visits go in
        let after : GoOneByOne (newest + 1 + 1) (visits_after newest visits) = subst (GoOneByOne (newest + 1 + 1)) (sym (after_all newest v.number visits (omega (arith, high)) rise)) (subst (λ n. GoOneByOne (n + 1) visits) is go) in
        ((follow.0.0, rise), subst (λ b. GoOneByOne (newest + 1) (after_first newest v visits b)) (sym e) (is, after))
      where
        near : (close : Bool) → nat_le v.number (newest + 1) ≡ close → newest < v.number → v.number ≡ newest + 1
        near true f high = omega (arith, leb-true v.number (newest + 1) f, high)
        near false f high = absurd (omega (arith, leb-false v.number (newest + 1) f, follow.0.1 (leb-false v.number (newest + 1) f), low))

of_own : (newest before : ℕ) (visits : List VisitContent) → before ≤ newest → Both newest before visits → Follow newest before visits
of_own newest before [] low own = tt
of_own newest before (v ∷ visits) low own = by (nat_le v.number newest) refl (λ old rest. of_own newest v.number visits old rest)
  where
    by : (old : Bool) → nat_le v.number newest ≡ old → (v.number ≤ newest → Both newest v.number visits → Follow newest v.number visits) → Follow newest before (v ∷ visits)
    by true e more =
        let old : v.number ≤ newest = leb-true v.number newest e in
        let rest : GoOneByOne (newest + 1) (visits_after newest visits) = subst (λ b. GoOneByOne (newest + 1) (after_first newest v visits b)) e own.1 in
        ((own.0.0, λ far. absurd (omega (arith, far, old))), more old (own.0.1, rest))
    by false e more =
        let high : newest < v.number = leb-false v.number newest e in
        let rest : GoOneByOne (newest + 1) (v ∷ visits_after newest visits) = subst (λ b. GoOneByOne (newest + 1) (after_first newest v visits b)) e own.1 in
        let go : GoOneByOne (newest + 1 + 1) visits = subst (GoOneByOne (newest + 1 + 1)) (after_all newest v.number visits (omega (arith, high)) own.0.1) rest.1 in
        ((own.0.0, λ far. absurd (omega (arith, far, rest.0))), on_go newest v.number visits (subst (λ n. GoOneByOne (n + 1) visits) (sym rest.0) go))

pub follow_own : (newest : ℕ) (visits : List VisitContent) → Follow newest 0 visits → AreOwnVisits newest visits
follow_own newest visits follow = let both = own_of newest 0 visits (omega arith) follow in record { rise = both.0; one_by_one = both.1 }

pub own_follow : (newest : ℕ) (visits : List VisitContent) → AreOwnVisits newest visits → Follow newest 0 visits
own_follow newest visits own = of_own newest 0 visits (omega arith) (own.rise, own.one_by_one)

-- ---- row after row

module _ (newest : ℕ) (rows : List Visit) (before i : ℕ) (d row : Visit) (low : i < length rows) (at : row ≡ get_or rows i d) (test : Bool) (tells : IsTrue test ↔ MayFollow newest before row.number)
    (so : Follow newest 0 (map visit_content rows) ↔ Follow newest before (map visit_content (drop i rows))) where
  abbrev Rest : List Visit → Type 0
  Rest r = Follow newest before (map visit_content r)

  pub follow_more : test ≡ true → Follow newest 0 (map visit_content rows) ↔ Follow newest row.number (map visit_content (drop (i + 1) rows))
  follow_more is = (
    λ all. (let rest : Rest (row ∷ drop (i + 1) rows) = subst Rest (next_of rows i d row low at) (so.0 all) in rest.1),
    λ rest. so.1 (subst Rest (sym (next_of rows i d row low at)) (tells.0 is, rest)),
  )

  pub follow_not : test ≡ false → ¬ Follow newest 0 (map visit_content rows)
  follow_not isnt all =
      let rest : Rest (row ∷ drop (i + 1) rows) = subst Rest (next_of rows i d row low at) (so.0 all) in
      let is : test ≡ true = tells.1 rest.0 in
      cc

-- ==== Offices: What the rows of an office are, part by part.

-- ---- codes of accounts

abbrev coded_row : PartnerRow → List ℕ × PartnerKind
coded_row row = (string_bytes row.code, row.kind)

abbrev IsCoded : List ℕ × PartnerKind → Type 0
IsCoded account = IsTrue (is_party_code account.0)

pub all_coded : (rows : List PartnerRow) → list_all (λ (row : PartnerRow). is_party_code (string_bytes row.code)) rows ≡ true → All IsCoded (accounts_in rows)
all_coded rows e = All-map IsCoded coded_row rows (AllPass-from_list_all (λ (row : PartnerRow). is_party_code (string_bytes row.code)) rows e)

coded_all : (rows : List PartnerRow) → All IsCoded (accounts_in rows) → list_all (λ (row : PartnerRow). is_party_code (string_bytes row.code)) rows ≡ true
coded_all rows all = list_all-from_AllPass (λ (row : PartnerRow). is_party_code (string_bytes row.code)) rows (each_mapped IsCoded coded_row rows all)

-- ---- slots

-- a slot of a plan has a name
planned_named : (plan : List Block) (slot : Slot) → IsPlan plan → InPlan plan slot → IsNamed slot
planned_named plan slot valid inside =
    let n = numbered plan slot valid inside in
    let low : nat_le 65 slot.block ≡ true = le-leb 65 slot.block n.letter_low in
    let high : nat_le slot.block 90 ≡ true = le-leb slot.block 90 (omega (arith, n.letter_high)) in
    record { block = ap (λ v. v && nat_le slot.block 90) low ∙ high; bay = omega (arith, n.bay_high); row = omega (arith, n.row_high); tier = omega (arith, n.tier_high) }

-- ---- visits

in_map : {A B : Type 0} (f : A → B) (xs : List A) (k : ℕ) (d : A) → k < length xs → Contains (map f xs) (f (get_or xs k d))
in_map f xs k d low =
    let within : length (map f xs) ≡ length xs = length-map xs f in
    (k, omega arith, get_or-map f xs k d (f (get_or xs k d)) low)

-- ---- lines

keys : (a b : LineKey) → a ≡ b → (k : ℕ) → get_or a k [] ≡ get_or b k []
keys a b e k = ap (λ (key : LineKey). get_or key k []) e

line_formed : (call : CallContent) (side : Side) (container : BoxNumber) (line : LineContent) (row : Listing) → IsSoundLine row → line_key call side container ≡ key_of row → line_content row ≡ line → IsFormedLine call side container line
line_formed call side container line row sound key same =
    let vessel : (call_content row.call).vessel ≡ call.vessel = sym (keys _ _ key 0) in
    let voyage : (call_content row.call).voyage ≡ call.voyage = sym (keys _ _ key 1) in
    let its_call : call_content row.call ≡ call = λ i. record { vessel = vessel i; voyage = voyage i } in
    let its_side : row.side ≡ side = side_is row.side side (sym (ap (λ (k : LineKey). get_or (get_or k 2 []) 0 0) key)) in
    let its_container : row.container ≡ container = sym (keys _ _ key 3) in
    let C : CallContent → Type 0 = λ c. IsFormedLine c row.side row.container (line_content row) in
    let S : Side → Type 0 = λ s. IsFormedLine call s row.container (line_content row) in
    let B : BoxNumber → Type 0 = λ b. IsFormedLine call side b (line_content row) in
    let L : LineContent → Type 0 = λ l. IsFormedLine call side container l in
    subst L same (subst B its_container (subst S its_side (subst C its_call sound)))

lines_formed : (rows : List Listing) → AreSoundLines rows → (call : CallContent) (side : Side) (container : BoxNumber) (line : LineContent) → finite_map.get (lines_of rows) (line_key call side container) ≡ Some line → IsFormedLine call side container line
lines_formed rows sound call side container line at = elim (first_or_none call side container rows) [
  | inl first ↦ (line_formed call side container line first.1.row (All-contains IsSoundLine rows first.1.row sound (contained rows first.0 first.1.row first.1.at)) (key_is call side container first.1.row first.1.is)
      (same_Some (line_content first.1.row) line (sym (line_first call side container rows first.0 first.1) ∙ at)))
  | inr none ↦ (let e : None ≡ Some line = sym (line_none call side container rows none) ∙ at in absurd (cc))
]

-- ---- the terminal

module _ (closed : ClosedContent) (tables : OpenedTables) (content : SetupContent) (state : TerminalState) (office : IsOwnOffice closed (opened_rows tables) content state) where
  pub settings_of_office : AreSettings (map setting_content tables.settings.items) content
  settings_of_office = record { terminal = office.given.terminal; codes = office.given.codes; limit = office.given.limit; are = office.settings }

  accounts_so : content.partners ≡ accounts_in tables.partners.items
  accounts_so = accounts_are 1 tables.partners.items content.partners office.accounts

  count_so : length content.partners ≡ length tables.partners.items
  count_so = ap length accounts_so ∙ length-map tables.partners.items coded_row

  pub accounts_of_office : AreWholeAccounts tables.partners.items
  accounts_of_office =
      let P : List (List ℕ × PartnerKind) → Type 0 = λ l. AreAccounts 1 (map partner_content tables.partners.items) l in
      let Q : List (List ℕ × PartnerKind) → Type 0 = All IsCoded in
      let D : List (List ℕ × PartnerKind) → Type 0 = AreDistinct in
      let low : 1 ≤ length content.partners = office.given.counted.0 in
      let high : length content.partners ≤ 999 = office.given.counted.1 in
      let count = count_so in
      record {
        counted = (omega (arith, count), omega (arith, count));
        numbered = subst P accounts_so office.accounts;
        coded = coded_all tables.partners.items (subst Q accounts_so office.given.coded);
        distinct = subst D accounts_so office.given.distinct;
      }

  pub by_letter_of_office : AreByLetter tables.blocks.items
  by_letter_of_office = let P : List Block → Type 0 = AreByLetter in subst P (sym office.blocks) office.given.by_letter

  rows_of_office : AreRowsOf tables.blocks.items content.visit_limit tables.visits.items tables.places.items tables.lines.items state
  rows_of_office =
      let are = by_key_lists tables.visits.items tables.places.items tables.lines.items state office.whole (typed_placed_once tables.places.items office.placed_once) (typed_listed_once tables.lines.items office.listed_once)
      (sym (rows_same tables.visits.items tables.places.items tables.lines.items) ∙ office.terminal) in
      record {
        whole = office.whole;
        plan_is = office.plan ∙ sym office.blocks;
        limit_is = office.limit;
        visits_are = are.visits_are;
        places_are = are.places_are;
        lines_are = are.lines_are;
        lines_once = are.lines_once;
      }

  visits_of_office : AreSoundVisits (length tables.partners.items) tables.visits.items
  visits_of_office k d low =
      let P : List VisitContent → Type 0 = λ l. Contains l (visit_content (get_or tables.visits.items k d)) in
      let inside : Contains state.visits (visit_content (get_or tables.visits.items k d)) = subst P (sym rows_of_office.visits_are) (in_map visit_content tables.visits.items k d low) in
      let H : ℕ → Type 0 = λ n. HasAccounts n (visit_content (get_or tables.visits.items k d)) in
      record { formed = office.formed.visits (visit_content (get_or tables.visits.items k d)) inside; accounted = subst H count_so (office.accounted (visit_content (get_or tables.visits.items k d)) inside) }

  lines_of_office : AreSoundLines tables.lines.items
  lines_of_office k d low =
      let there = line_there tables.lines.items k (get_or tables.lines.items k d) rows_of_office.lines_once (slice_get-get_or tables.lines.items k d low) in
      office.formed.lines (call_content (get_or tables.lines.items k d).call) (get_or tables.lines.items k d).side (get_or tables.lines.items k d).container (line_content (get_or tables.lines.items k d))
      (ap (λ (l : Lines). finite_map.get l (key_of (get_or tables.lines.items k d))) rows_of_office.lines_are ∙ there)

  pub terminal_of_office : (limit : ℕ) → content.visit_limit ≡ limit → AreTerminal closed.newest_closed (length tables.partners.items) limit tables.blocks.items tables.visits.items tables.places.items tables.lines.items state
  terminal_of_office limit same =
      let P : ℕ → Type 0 = λ n. AreRowsOf tables.blocks.items n tables.visits.items tables.places.items tables.lines.items state in
      let G : List VisitContent → Type 0 = AreOwnVisits closed.newest_closed in
      record { visits_sound = visits_of_office; own_visits = subst G rows_of_office.visits_are office.own_visits; lines_sound = lines_of_office; rows = subst P same rows_of_office }

-- ---- one limit

pub one_limit : (one other : ℕ) (text : List ℕ) → one ≤ 999999999 → other ≤ 999999999 → text ≡ decimal one → text ≡ decimal other → one ≡ other
one_limit one other text low high e f = decimal_injective one other (omega arith) (omega arith) (sym e ∙ f)

-- ---- refusals

pub tables_refused : (closed : ClosedContent) (tables : OpenedTables) (said : SetupContent) (fault : RestoreFault) → AreSettings (map setting_content tables.settings.items) said
    → RefusesTerminal closed.newest_closed (length tables.partners.items) said.visit_limit tables.blocks.items tables.visits.items tables.places.items tables.lines.items fault → RefusesTables closed (opened_rows tables) fault
tables_refused closed tables said Memory settings refuses = tt
tables_refused closed tables said Unsound settings refuses = λ content state office.
    let mine = settings_of_office closed tables content state office in
    let same : content.visit_limit ≡ said.visit_limit = one_limit content.visit_limit said.visit_limit (decimal content.visit_limit) mine.limit.1 settings.limit.1 refl
    (same_Some (decimal content.visit_limit) (decimal said.visit_limit) (sym (limit_so (map setting_content tables.settings.items) content mine.are) ∙ limit_so (map setting_content tables.settings.items) said settings.are)) in
    refuses state (terminal_of_office closed tables content state office said.visit_limit same)

-- ---- the office

module _ (closed : ClosedContent) (tables : OpenedTables) (content : SetupContent) (state : TerminalState) (settings : AreSettings (map setting_content tables.settings.items) content) (accounts : AreWholeAccounts tables.partners.items)
    (partners : content.partners ≡ accounts_in tables.partners.items) (blocks : content.blocks ≡ tables.blocks.items) (numbers : AreOwnNumbers closed.last_closed (map partner_content tables.partners.items) (map number_content tables.numbers.items))
    (by_letter : AreByLetter tables.blocks.items)
    (terminal : AreTerminal closed.newest_closed (length tables.partners.items) content.visit_limit tables.blocks.items tables.visits.items tables.places.items tables.lines.items state) where
  count_is : length content.partners ≡ length tables.partners.items
  count_is = ap length partners ∙ length-map tables.partners.items coded_row

  sound_visit : (visit : VisitContent) → Contains state.visits visit → IsSoundVisit (length tables.partners.items) visit
  sound_visit visit inside =
      let P : List VisitContent → Type 0 = λ l. Contains l visit in
      All-contains (IsSoundVisit (length tables.partners.items)) (map visit_content tables.visits.items) visit (All-map (IsSoundVisit (length tables.partners.items)) visit_content tables.visits.items terminal.visits_sound)
      (subst P terminal.rows.visits_are inside)

  named_slot : (container : BoxNumber) (s : Placement) → placement_of state.yard.boxes container ≡ Some s → IsNamed s.slot
  named_slot container s at = planned_named state.yard.plan s.slot terminal.rows.whole.plan (terminal.rows.whole.sound.in_plan container s at)

  pub office_of : IsOwnOffice closed (opened_rows tables) content state
  office_of =
      let A : List (List ℕ × PartnerKind) → Type 0 = λ l. AreAccounts 1 (map partner_content tables.partners.items) l in
      let C : List (List ℕ × PartnerKind) → Type 0 = All IsCoded in
      let D : List (List ℕ × PartnerKind) → Type 0 = AreDistinct in
      let L : List Block → Type 0 = AreByLetter in
      let N : List Block → Type 0 = IsPlan in
      let count = count_is in
      let low : 1 ≤ length tables.partners.items = accounts.counted.0 in
      let high : length tables.partners.items ≤ 999 = accounts.counted.1 in
      record {
        given = record {
          terminal = settings.terminal;
          counted = (omega (arith, count), omega (arith, count));
          coded = subst C (sym partners) (all_coded tables.partners.items accounts.coded);
          distinct = subst D (sym partners) accounts.distinct;
          codes = settings.codes;
          plan = subst N (terminal.rows.plan_is ∙ sym blocks) terminal.rows.whole.plan;
          by_letter = subst L (sym blocks) by_letter;
          limit = settings.limit;
        };
        settings = settings.are;
        blocks = sym blocks;
        accounts = subst A (sym partners) accounts.numbered;
        own_numbers = record { in_order = numbers.in_order; below = numbers.below; kept = numbers.kept };
        plan = terminal.rows.plan_is ∙ sym blocks;
        limit = terminal.rows.limit_is;
        whole = terminal.rows.whole;
        own_visits = (let G : List VisitContent → Type 0 = AreOwnVisits closed.newest_closed in subst G (sym terminal.rows.visits_are) terminal.own_visits);
        formed = record {
          visits = λ visit inside. (sound_visit visit inside).formed;
          lines = λ call side container line at. lines_formed tables.lines.items terminal.lines_sound call side container line (ap (λ (l : Lines). finite_map.get l (line_key call side container)) (sym terminal.rows.lines_are) ∙ at);
          slots = named_slot;
        };
        accounted = λ visit inside. (let H : ℕ → Type 0 = λ n. HasAccounts n visit in subst H (sym count) (sound_visit visit inside).accounted);
        placed_once = placed_once tables.places.items terminal.rows.places_are.once;
        listed_once = listed_once tables.lines.items terminal.rows.lines_once;
        terminal = rows_same tables.visits.items tables.places.items tables.lines.items
            ∙ lists_by_key tables.blocks.items content.visit_limit tables.visits.items tables.places.items tables.lines.items state terminal.rows;
      }

-- ==== Alike: Where nothing is closed the checks are those of an office.

abbrev none : ℕ → ℕ
none partner = 0

-- ---- interchanges

same_taken : (partner : Partner) → taken_beyond none partner ≡ taken_numbers partner
same_taken partner =
    let many : partner.next - 1 - 0 ≡ partner.next - 1 = omega arith in
    ap (λ c. map (λ number. record { partner = partner.id; number = number; is_taken = true }) (range_with_len 1 c)) many

kept_all : (partners : List Partner) (numbers : List NumberKept) → AreKeptBeyond none partners numbers → AreKept partners numbers
kept_all [] numbers kept = kept
kept_all (partner ∷ partners) numbers kept = (
  kept.0,
  kept.1,
  kept.2,
  record { waiting = kept.3.waiting; wait = kept.3.wait; are = kept.3.are ∙ ap (λ l. l ++ kept.3.waiting) (same_taken partner) },
  kept_all partners kept.1 kept.4,
)

all_kept : (partners : List Partner) (numbers : List NumberKept) → AreKept partners numbers → AreKeptBeyond none partners numbers
all_kept [] numbers kept = kept
all_kept (partner ∷ partners) numbers kept = (
  kept.0,
  kept.1,
  kept.2,
  record { waiting = kept.3.waiting; wait = kept.3.wait; are = kept.3.are ∙ ap (λ l. l ++ kept.3.waiting) (sym (same_taken partner)) },
  all_kept partners kept.1 kept.4,
)

next_above : (id : ℕ) (partners : List Partner) (accounts : List (List ℕ × PartnerKind)) → AreAccounts id partners accounts → All (IsClosedBelow none) partners
next_above id [] accounts are = All-nil (IsClosedBelow none)
next_above id (p ∷ partners) [] are = absurd are
next_above id (p ∷ partners) (a ∷ accounts) are = All-cons (IsClosedBelow none) p partners are.3 (next_above (id + 1) partners accounts are.5)

-- ---- both

pub own_office : (rows : OpenedRows) (content : SetupContent) (state : TerminalState) → IsOffice rows content state → IsOwnOffice nothing_closed rows content state
own_office rows content state office =
    let order = kept_in_order rows.partners content.partners rows.numbers office.accounts office.kept in
    let numbered = numbered_one_by_one 0 state.visits office.one_by_one in
    record {
      given = office.given;
      settings = office.settings;
      blocks = office.blocks;
      accounts = office.accounts;
      own_numbers = record {
        in_order = order;
        below = next_above 1 rows.partners content.partners office.accounts;
        kept = subst (AreKeptBeyond none rows.partners) (sym (all_beyond (length rows.partners) 1 0 rows.numbers order)) (all_kept rows.partners rows.numbers office.kept);
      };
      plan = office.plan;
      limit = office.limit;
      whole = office.whole;
      own_visits = record { rise = numbered; one_by_one = subst (GoOneByOne 1) (sym (after_all 0 0 state.visits (omega arith) numbered)) office.one_by_one };
      formed = office.formed;
      accounted = office.accounted;
      placed_once = office.placed_once;
      listed_once = office.listed_once;
      terminal = office.terminal;
    }

pub whole_office : (rows : OpenedRows) (content : SetupContent) (state : TerminalState) → IsOwnOffice nothing_closed rows content state → IsOffice rows content state
whole_office rows content state office = record {
  given = office.given;
  settings = office.settings;
  blocks = office.blocks;
  accounts = office.accounts;
  kept = kept_all rows.partners rows.numbers (subst (AreKeptBeyond none rows.partners) (all_beyond (length rows.partners) 1 0 rows.numbers office.own_numbers.in_order) office.own_numbers.kept);
  plan = office.plan;
  limit = office.limit;
  whole = office.whole;
  one_by_one = subst (GoOneByOne 1) (after_all 0 0 state.visits (omega arith) office.own_visits.rise) office.own_visits.one_by_one;
  formed = office.formed;
  accounted = office.accounted;
  placed_once = office.placed_once;
  listed_once = office.listed_once;
  terminal = office.terminal;
}

pub alike : NothingClosedIsAnOffice
alike rows content state = (whole_office rows content state, own_office rows content state)
