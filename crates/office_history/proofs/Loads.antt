-- Whatever one database shows is of one office: one state, and one set-up.
use Rattle.std.specs.{Prelude.{find, count_by, Contains, IsTrue, codes, decimal}, Option.option_map, List.Sorted.{IsPermutation, IsNonDecreasingBy}}
use Rattle.std.{specs.{Ordering.eq_by_cmp, Str.bytes_eq}, proofs.{lemmas.Bool.cases_order, lemmas.Fmt.decimal_injective}}
use Rattle.std.proofs.Common.{◌≡◌, ℕ, suc, ◌+◌, ◌<◌, ◌≤◌, inl, inr, List, [], ◌∷◌, map, Bool, true, false, cond, Option, None, Some, refl, sym, ap, ap₂, subst, ◌∙◌, arith}
use Rattle.std.proofs.lemmas.List.Sorted.{IsPermutation-map, IsPermutation-sym, IsPermutation-trans, Contains-permutation}
use Rattle.sqlite.specs.{declared.types.Value.Value, declared.types.Value.TheVariants.Text, Order.{Row, column}, Effect.Database, Table.Table}
use Rattle.box6346.{specs.{declared.slot.Slot.Slot, SlotName.{IsNamed, slot_of, slot_text}}, proofs.SlotNames.names_are_read_again_lem}
use Rattle.edi_syntax.{specs.Moments.{CivilMoment, is_moment, moment_of, moment_digits}, proofs.DigitLemmas.read_back}
use Rattle.edi_messages.specs.{declared.codes.PartnerKind.PartnerKind, declared.codes.PartnerKind.TheVariants.{Gate, Line, Quay, Yard}, Codes.table_texts}
use Rattle.yard_core.specs.{declared.plan.Block.Block, declared.placements.Placement.Placement, Plan.AreApart, YardMap.placement_of}
use Rattle.terminal_core.specs.{declared.visits.Departure.Departure, declared.lines.LineState.LineState, declared.lines.LineState.TheVariants.{Pending, Done}}
use Rattle.terminal_core.specs.{declared.lines.Side.Side, declared.lines.Side.TheVariants.{Load, Discharge}, declared.visits.Way.Way, Rows.VisitContent}
use Rattle.terminal_core.specs.{Changes.{Standing, standing_in, standing_of, TerminalRows, rows_of}, Forms.{IsFormedVisit, IsFormedExit, IsWellFormed}}
use Rattle.terminal_core.{specs.{State.{TerminalState, LineKey, AreNumbered, IsWhole, side_code, open_visit}, Step.number_of_visit}, proofs.Open.same_self}
use Rattle.terminal_core.proofs.{Indexed.found_is, Formed.state_of_rows, Lined.{order, keys_total, keys_apart, same_key}}
use Rattle.office_admission.specs.{Given.IsGiven, Setups.SetupContent}
use Rattle.office_rows.specs.{Rows.{Partner, PlaceContent, ListingContent, Setting}, Effects.{stands_for, is_line}, Opening.setting_row}
use Rattle.office_rows.specs.Values.{number_value, kind_code, partner_values, way_code, laden_code, state_code, out_by, out_partner, out_number, out_at, visit_values, place_values, line_values, setting_values, block_values}
use Rattle.office_rows.{specs.{ByKey.{standing_by, lines_by, line_entry, ArePlacedOnce, AreListedOnce}, Opened.{OpenedRows, Shows}}, proofs.Listed.unmapped}
use Rattle.office_rows.specs.{Shown.{columns_at, ShowsTable}, Office.{settings_by_name, AreAccounts, IsOffice, opened_terminal}}
use Rattle.office_rows.specs.Tables.{partner_table, visit_table, place_table, listing_table, block_table, setting_table as settings_table}
use Rattle.office_history.{specs.After.{SaysSame, accounts_from}, proofs.ByKeys.{key_of, said, finds, line_tied, none_found}}
use Rattle.office_history.proofs.Kept.{found_same, found_only, Rises, rising_same, same_records}
use Rattle.std.specs.FinMap as finite_map
use Rattle.terminal_core.specs.declared.visits.Way.TheVariants as way

-- ---- columns

pub number_one : (m n : ℕ) → number_value m ≡ number_value n → m ≡ n
number_one m n e = cc

pub text_one : (s t : List ℕ) → ◌≡◌ {A = Value} (Text s) (Text t) → s ≡ t
text_one s t e = cc

pub at : (k : ℕ) (a b : Row) → a ≡ b → column a k ≡ column b k
at k a b e = ap (λ r. column r k) e

pub moment_one : (m n : CivilMoment) → IsTrue (is_moment m) → IsTrue (is_moment n) → moment_digits m ≡ moment_digits n → m ≡ n
moment_one m n a b e = let both : Some m ≡ Some n = sym (read_back m a) ∙ ap moment_of e ∙ read_back n b in cc

pub slot_one : (s t : Slot) → IsNamed s → IsNamed t → slot_text s ≡ slot_text t → s ≡ t
slot_one s t a b e = let both : Some s ≡ Some t = sym (names_are_read_again_lem s a) ∙ ap slot_of e ∙ names_are_read_again_lem t b in cc

pub way_one : (a b : Way) → way_code a ≡ way_code b → a ≡ b
way_one way.Gate way.Gate e = refl
way_one way.Ship way.Ship e = refl
way_one a b e = absurd (omega (arith, e))

pub laden_one : (a b : Bool) → laden_code a ≡ laden_code b → a ≡ b
laden_one true true e = refl
laden_one false false e = refl
laden_one a b e = absurd (omega (arith, e))

pub side_one : (a b : Side) → side_code a ≡ side_code b → a ≡ b
side_one Load Load e = refl
side_one Discharge Discharge e = refl
side_one a b e = absurd (omega (arith, e))

done_one : (a b : LineState) → state_code a ≡ state_code b → a ≡ b
done_one Pending Pending e = refl
done_one Done Done e = refl
done_one a b e = absurd (omega (arith, e))

pub by_way : (w : Way) → way_code w ≡ 0 → ⊥
by_way way.Gate e = absurd (omega (arith, e))
by_way way.Ship e = absurd (omega (arith, e))

pub exit_one : (a b : Option Departure) → IsFormedExit a → IsFormedExit b → out_by a ≡ out_by b → out_partner a ≡ out_partner b → out_number a ≡ out_number b → out_at a ≡ out_at b → a ≡ b
exit_one None None fa fb by partner number_ moment = refl
exit_one None (Some b) fa fb by partner number_ moment = absurd (by_way b.way (sym by))
exit_one (Some a) None fa fb by partner number_ moment = absurd (by_way a.way by)
exit_one (Some a) (Some b) fa fb by partner number_ moment =
    let way = way_one a.way b.way by in
    let when = moment_one a.moment b.moment fa.moment fb.moment moment in
    λ i. Some (record { way = way i; source = record { partner = partner i; number = number_ i }; moment = when i })

pub visit_one : (a b : VisitContent) → IsFormedVisit a → IsFormedVisit b → visit_values a ≡ visit_values b → a ≡ b
visit_one a b fa fb e =
    let ra = visit_values a in
    let rb = visit_values b in
    let n = number_one a.number b.number (at 0 ra rb e) in
    let container = text_one a.container b.container (at 1 ra rb e) in
    let size = text_one a.size_type b.size_type (at 2 ra rb e) in
    let laden = laden_one a.is_laden b.is_laden (number_one _ _ (at 3 ra rb e)) in
    let booking = text_one a.booking b.booking (at 4 ra rb e) in
    let way = way_one a.arrival.way b.arrival.way (number_one _ _ (at 5 ra rb e)) in
    let partner = number_one a.arrival.source.partner b.arrival.source.partner (at 6 ra rb e) in
    let own = number_one a.arrival.source.number b.arrival.source.number (at 7 ra rb e) in
    let when = moment_one a.arrival.moment b.arrival.moment fa.moment fb.moment (text_one _ _ (at 8 ra rb e)) in
    let slot = slot_one a.arrival.slot b.arrival.slot fa.slot fb.slot (text_one _ _ (at 9 ra rb e)) in
    let exit = exit_one a.departure b.departure fa.exit fb.exit (number_one _ _ (at 10 ra rb e)) (number_one _ _ (at 11 ra rb e)) (number_one _ _ (at 12 ra rb e)) (text_one _ _ (at 13 ra rb e)) in
    let kilos = number_one a.kilos b.kilos (at 14 ra rb e) in
    λ i. record {
      number = n i;
      container = container i;
      size_type = size i;
      is_laden = laden i;
      booking = booking i;
      arrival = record { way = way i; source = record { partner = partner i; number = own i }; moment = when i; slot = slot i };
      departure = exit i;
      kilos = kilos i;
    }

place_one : (a b : PlaceContent) → IsNamed a.slot → IsNamed b.slot → place_values a ≡ place_values b → a ≡ b
place_one a b fa fb e =
    let container = text_one a.container b.container (at 0 (place_values a) (place_values b) e) in
    let n = number_one a.visit b.visit (at 1 (place_values a) (place_values b) e) in
    let slot = slot_one a.slot b.slot fa fb (text_one _ _ (at 2 (place_values a) (place_values b) e)) in
    λ i. record { container = container i; visit = n i; slot = slot i }

pub line_one : (a b : ListingContent) → Unit {0} → Unit {0} → line_values a ≡ line_values b → a ≡ b
line_one a b fa fb e =
    let ra = line_values a in
    let rb = line_values b in
    let vessel = text_one a.call.vessel b.call.vessel (at 0 ra rb e) in
    let voyage = text_one a.call.voyage b.call.voyage (at 1 ra rb e) in
    let side = side_one a.side b.side (number_one _ _ (at 2 ra rb e)) in
    let container = text_one a.container b.container (at 3 ra rb e) in
    let port = text_one a.port b.port (at 4 ra rb e) in
    let state = done_one a.state b.state (number_one _ _ (at 5 ra rb e)) in
    λ i. record { call = record { vessel = vessel i; voyage = voyage i }; side = side i; container = container i; port = port i; state = state i }

setting_one : (a b : Setting) → Unit {0} → Unit {0} → setting_values a ≡ setting_values b → a ≡ b
setting_one a b fa fb e =
    let name = text_one a.name b.name (at 0 (setting_values a) (setting_values b) e) in
    let value = text_one a.value b.value (at 1 (setting_values a) (setting_values b) e) in
    λ i. record { name = name i; value = value i }

block_one : (a b : Block) → Unit {0} → Unit {0} → block_values a ≡ block_values b → a ≡ b
block_one a b fa fb e =
    let ra = block_values a in
    let rb = block_values b in
    let letters : a.letter ∷ [] ≡ b.letter ∷ [] = text_one _ _ (at 0 ra rb e) in
    let letter : a.letter ≡ b.letter = cc in
    let bays = number_one a.bays b.bays (at 1 ra rb e) in
    let rows = number_one a.rows b.rows (at 2 ra rb e) in
    let tiers = number_one a.tiers b.tiers (at 3 ra rb e) in
    λ i. record { letter = letter i; bays = bays i; rows = rows i; tiers = tiers i }

kind_one : (a b : PartnerKind) → kind_code a ≡ kind_code b → a ≡ b
kind_one Gate Gate e = refl
kind_one Line Line e = refl
kind_one Quay Quay e = refl
kind_one Yard Yard e = refl
kind_one a b e = absurd (omega (arith, e))

pub partner_one : (a b : Partner) → Unit {0} → Unit {0} → partner_values a ≡ partner_values b → a ≡ b
partner_one a b fa fb e =
    let ra = partner_values a in
    let rb = partner_values b in
    let id = number_one a.id b.id (at 0 ra rb e) in
    let code = text_one a.code b.code (at 1 ra rb e) in
    let kind = kind_one a.kind b.kind (number_one _ _ (at 2 ra rb e)) in
    let next = number_one a.next b.next (at 3 ra rb e) in
    λ i. record { id = id i; code = code i; kind = kind i; next = next i }

-- ---- rising keys

pub accounts_rise : (id low : ℕ) (next : ℕ → ℕ) (accounts : List (List ℕ × PartnerKind)) → low + 1 ≡ id → Rises (λ (p : Partner). p.id) low (accounts_from id next accounts)
accounts_rise id low next [] e = tt
accounts_rise id low next (a ∷ accounts) e = (omega arith, accounts_rise (id + 1) id next accounts refl)

given_rise : (id low : ℕ) (partners : List Partner) (accounts : List (List ℕ × PartnerKind)) → low + 1 ≡ id → AreAccounts id partners accounts → Rises (λ (p : Partner). p.id) low partners
given_rise id low [] accounts e are = tt
given_rise id low (p ∷ partners) [] e are = absurd are
given_rise id low (p ∷ partners) (a ∷ accounts) e are = let own : p.id ≡ id = are.0 in (omega arith, given_rise (id + 1) p.id partners accounts (ap (λ n. n + 1) own) are.5)

accounts_same : (id : ℕ) (partners : List Partner) (mine theirs : List (List ℕ × PartnerKind)) → AreAccounts id partners mine → AreAccounts id partners theirs → mine ≡ theirs
accounts_same id [] [] [] own are = refl
accounts_same id [] [] (b ∷ theirs) own are = absurd are
accounts_same id [] (a ∷ mine) theirs own are = absurd own
accounts_same id (p ∷ partners) [] theirs own are = absurd own
accounts_same id (p ∷ partners) (a ∷ mine) [] own are = absurd are
accounts_same id (p ∷ partners) (a ∷ mine) (b ∷ theirs) own are =
    let code : a.0 ≡ b.0 = sym own.1 ∙ are.1 in
    let kind : a.1 ≡ b.1 = sym own.2 ∙ are.2 in
    ap₂ ◌∷◌ (λ i. (code i, kind i)) (accounts_same (id + 1) partners mine theirs own.5 are.5)

pub numbered_rise : (low : ℕ) (visits : List VisitContent) → AreNumbered low visits → Rises (λ (v : VisitContent). v.number) low visits
numbered_rise low [] are = tt
numbered_rise low (v ∷ visits) are = (are.0, numbered_rise v.number visits are.1)

abbrev pub letter_key : Block → ℕ
letter_key b = b.letter + 1

abbrev pub HeadAbove : ℕ → List Block → Type 0
HeadAbove low [] = Unit {0}
HeadAbove low (b ∷ blocks) = low < letter_key b

head_above : (b : Block) (blocks : List Block) → IsNonDecreasingBy (λ (b : Block). b.letter) (b ∷ blocks) → AreApart (b ∷ blocks) → HeadAbove (letter_key b) blocks
head_above b [] rise apart = tt
head_above b (c ∷ blocks) rise apart =
    let le : b.letter ≤ c.letter = rise 0 1 c (omega arith) (omega arith) in
    elim (cases_order b.letter c.letter) [
      | inl e ↦ let bad : ◌≡◌ {A = ℕ} 0 1 = apart 0 1 b c refl refl e in absurd cc
      | inr o ↦ elim o [ inl l ↦ omega arith | inr g ↦ absurd (omega arith) ]
    ]

pub blocks_rise : (low : ℕ) (blocks : List Block) → IsNonDecreasingBy (λ (b : Block). b.letter) blocks → AreApart blocks → HeadAbove low blocks → Rises letter_key low blocks
blocks_rise low [] rise apart head = tt
blocks_rise low (b ∷ blocks) rise apart head = (
  head,
  blocks_rise (letter_key b) blocks (λ i j d le below. rise (suc i) (suc j) d (omega arith) (omega arith))
      (λ i j a c one two same. let e : suc i ≡ suc j = apart (suc i) (suc j) a c one two same in omega arith) (head_above b blocks rise apart),
)

pub any_head : (blocks : List Block) → HeadAbove 0 blocks
any_head [] = tt
any_head (b ∷ blocks) = omega arith

-- ---- places

-- the container of a place stands in a slot that has a name
named_at : (state : TerminalState) (place : PlaceContent) (o : Option Placement) (n : ℕ) → placement_of state.yard.boxes place.container ≡ o
    → Some (standing_in place.visit place.slot) ≡ option_map (λ (s : Placement). standing_in n s.slot) o → IsWellFormed state → IsNamed place.slot
named_at state place None n there e formed = cc
named_at state place (Some s) n there e formed =
    let same : standing_in place.visit place.slot ≡ standing_in n s.slot = cc in
    subst IsNamed (sym (ap (λ (t : Standing). t.slot) same)) (formed.slots place.container s there)

named_place : (places : List PlaceContent) (state : TerminalState) → ArePlacedOnce places → standing_by places ≡ standing_of state → IsWellFormed state → (place : PlaceContent) → Contains places place → IsNamed place.slot
named_place places state once same formed place inside =
    named_at state place (placement_of state.yard.boxes place.container) (number_of_visit (open_visit state place.container)) refl
    (sym (ap (option_map (λ (p : PlaceContent). standing_in p.visit p.slot)) (found_only (stands_for place.container) places place (once place.container) inside (same_self place.container)))
    ∙ ap (λ f. f place.container) same) formed

pub places_same : (xs ys : List PlaceContent) → ArePlacedOnce xs → IsPermutation xs ys → standing_by ys ≡ standing_by xs
places_same xs ys once same i q = ap (option_map (λ (p : PlaceContent). standing_in p.visit p.slot)) (found_same (stands_for q) xs ys (once q) same) i

-- ---- lines

finds_list : (q : LineKey) (lines : List ListingContent) → finds q lines ≡ option_map said (find (λ (l : ListingContent). eq_by_cmp order q (key_of l)) lines)
finds_list q [] = refl
finds_list q (l ∷ lines) = first (eq_by_cmp order q (key_of l)) (finds_list q lines)
  where
    first : (b : Bool) → finds q lines ≡ option_map said (find (λ (l : ListingContent). eq_by_cmp order q (key_of l)) lines)
        → cond b (Some (said l)) (finds q lines) ≡ option_map said (cond b (Some l) (find (λ (l : ListingContent). eq_by_cmp order q (key_of l)) lines))
    first true e = refl
    first false e = e

once_by : (q : LineKey) (lines : List ListingContent) (o : Option ListingContent) → AreListedOnce lines → find (λ (l : ListingContent). eq_by_cmp order q (key_of l)) lines ≡ o
    → count_by (λ (l : ListingContent). eq_by_cmp order q (key_of l)) lines ≤ 1
once_by q lines None once e = omega (arith, none_found (λ (l : ListingContent). eq_by_cmp order q (key_of l)) lines e)
once_by q lines (Some l) once e =
    let here = found_is (λ (l : ListingContent). eq_by_cmp order q (key_of l)) lines l e in
    let key : q ≡ key_of l = same_key q (key_of l) here.2 in
    let tests : (λ (x : ListingContent). eq_by_cmp order q (key_of x)) ≡ is_line l.call l.side l.container = λ i x. (ap (λ k. eq_by_cmp order k (key_of x)) key ∙ line_tied l.call l.side l.container x) i in
    subst (λ f. count_by f lines ≤ 1) (sym tests) (once l.call l.side l.container)

key_once : (q : LineKey) (lines : List ListingContent) → AreListedOnce lines → count_by (λ (l : ListingContent). eq_by_cmp order q (key_of l)) lines ≤ 1
key_once q lines once = once_by q lines (find (λ (l : ListingContent). eq_by_cmp order q (key_of l)) lines) once refl

pub lines_same : (xs ys : List ListingContent) → AreListedOnce xs → IsPermutation xs ys → lines_by ys ≡ lines_by xs
lines_same xs ys once same =
    finite_map.same_map keys_total keys_apart _ _
    (λ q. finite_map.get-from_entries keys_total (map line_entry ys) q ∙ finds_list q ys
    ∙ ap (option_map said) (found_same (λ (l : ListingContent). eq_by_cmp order q (key_of l)) xs ys (key_once q xs once) same)
    ∙ sym (finds_list q xs) ∙ sym (finite_map.get-from_entries keys_total (map line_entry xs) q))

-- ---- settings

abbrev is_named : List ℕ → Setting → Bool
is_named name s = bytes_eq s.name name

value_one : (name v w : List ℕ) → ◌≡◌ {A = Option Setting} (Some (setting_row name v)) (Some (setting_row name w)) → v ≡ w
value_one name v w e = let same : setting_row name v ≡ setting_row name w = cc in ap (λ (s : Setting). s.value) same

-- ---- two offices that one database shows

-- what shows twice has the same columns, in some order
shown_twice : {A : Type 0} (table : Table) (columns key : List ℕ) (values : A → Row) (xs ys : List A) (db : Database) → ShowsTable table columns key db (map values xs) → ShowsTable table columns key db (map values ys)
    → (zs : List A) × IsPermutation xs zs × (map values ys ≡ map values zs)
shown_twice table columns key values xs ys db one two =
    let shuffled = IsPermutation-map (columns_at columns) one.by_key two.by_key (IsPermutation-trans _ _ _ (IsPermutation-sym _ _ one.same) two.same) in
    unmapped values xs (map values ys) (subst (IsPermutation (map values xs)) (sym two.is) (subst (λ l. IsPermutation l (map (columns_at columns) two.by_key)) (sym one.is) shuffled))

-- ---- the set-up and the terminal of rows, whatever interchanges they have, and whichever closed visits

pub record ShowsSetupAndTerminal (rows : OpenedRows) (content : SetupContent) (state : TerminalState) : Type 0 where
  pub given : IsGiven content
  pub settings : rows.settings ≡ settings_by_name content
  pub blocks : rows.blocks ≡ content.blocks
  pub accounts : AreAccounts 1 rows.partners content.partners
  pub plan : state.yard.plan ≡ content.blocks
  pub limit : state.limit ≡ content.visit_limit
  pub whole : IsWhole state
  pub formed : IsWellFormed state
  pub placed_once : ArePlacedOnce rows.places
  pub listed_once : AreListedOnce rows.lines
  pub terminal : opened_terminal rows ≡ rows_of state

pub shown_by_office : (rows : OpenedRows) (content : SetupContent) (state : TerminalState) → IsOffice rows content state → ShowsSetupAndTerminal rows content state
shown_by_office rows content state office = record {
  given = office.given;
  settings = office.settings;
  blocks = office.blocks;
  accounts = office.accounts;
  plan = office.plan;
  limit = office.limit;
  whole = office.whole;
  formed = office.formed;
  placed_once = office.placed_once;
  listed_once = office.listed_once;
  terminal = office.terminal;
}

module _ (db : Database) (one two : OpenedRows) (content other : SetupContent) (state own : TerminalState)
    (shows : Shows db one) (also : Shows db two) (office : ShowsSetupAndTerminal one content state) (second : ShowsSetupAndTerminal two other own) where
  visits_of : one.visits ≡ state.visits
  visits_of = ap (λ (r : TerminalRows). r.visits) office.terminal

  other_visits_of : two.visits ≡ own.visits
  other_visits_of = ap (λ (r : TerminalRows). r.visits) second.terminal

  both_visits : one.visits ≡ two.visits
  both_visits =
      let in_order = shown_twice visit_table (0 ∷ 1 ∷ 2 ∷ 3 ∷ 4 ∷ 5 ∷ 6 ∷ 7 ∷ 8 ∷ 9 ∷ 10 ∷ 11 ∷ 12 ∷ 13 ∷ 14 ∷ []) (0 ∷ []) visit_values one.visits two.visits db shows.visits also.visits in
      let same : two.visits ≡ in_order.0 = same_records IsFormedVisit visit_values visit_one two.visits in_order.0
      (λ v inside. second.formed.visits v (subst (λ l. Contains l v) other_visits_of inside))
      (λ v inside. office.formed.visits v (subst (λ l. Contains l v) visits_of (Contains-permutation in_order.0 one.visits v (IsPermutation-sym one.visits in_order.0 in_order.1) inside)))
      in_order.2 in
      let mine : Rises (λ (v : VisitContent). v.number) 0 one.visits = subst (Rises (λ (v : VisitContent). v.number) 0) (sym visits_of) (numbered_rise 0 state.visits office.whole.numbered) in
      let theirs : Rises (λ (v : VisitContent). v.number) 0 two.visits = subst (Rises (λ (v : VisitContent). v.number) 0) (sym other_visits_of) (numbered_rise 0 own.visits second.whole.numbered) in
      rising_same (λ (v : VisitContent). v.number) 0 one.visits two.visits mine theirs (subst (IsPermutation one.visits) (sym same) in_order.1)

  both_places : standing_by one.places ≡ standing_by two.places
  both_places =
      let in_order = shown_twice place_table (0 ∷ 1 ∷ 2 ∷ []) (0 ∷ []) place_values one.places two.places db shows.places also.places in
      let same : two.places ≡ in_order.0 = same_records (λ (p : PlaceContent). IsNamed p.slot) place_values place_one two.places in_order.0
      (named_place two.places own second.placed_once (ap (λ (r : TerminalRows). r.places) second.terminal) second.formed)
      (λ p inside. named_place one.places state office.placed_once (ap (λ (r : TerminalRows). r.places) office.terminal) office.formed p
      (Contains-permutation in_order.0 one.places p (IsPermutation-sym one.places in_order.0 in_order.1) inside))
      in_order.2 in
      sym (ap standing_by same ∙ places_same one.places in_order.0 office.placed_once in_order.1)

  both_lines : lines_by one.lines ≡ lines_by two.lines
  both_lines =
      let in_order = shown_twice listing_table (0 ∷ 1 ∷ 2 ∷ 3 ∷ 4 ∷ 5 ∷ []) (0 ∷ 1 ∷ 2 ∷ 3 ∷ []) line_values one.lines two.lines db shows.lines also.lines in
      let same : two.lines ≡ in_order.0 = same_records (λ _. Unit {0}) line_values line_one two.lines in_order.0 (λ _ _. tt) (λ _ _. tt) in_order.2 in
      sym (ap lines_by same ∙ lines_same one.lines in_order.0 office.listed_once in_order.1)

  both_blocks : content.blocks ≡ other.blocks
  both_blocks =
      let in_order = shown_twice block_table (0 ∷ 1 ∷ 2 ∷ 3 ∷ []) (0 ∷ []) block_values one.blocks two.blocks db shows.blocks also.blocks in
      let same : two.blocks ≡ in_order.0 = same_records (λ _. Unit {0}) block_values block_one two.blocks in_order.0 (λ _ _. tt) (λ _ _. tt) in_order.2 in
      let shuffled : IsPermutation content.blocks other.blocks = subst (IsPermutation content.blocks) (sym same ∙ second.blocks) (subst (λ l. IsPermutation l in_order.0) office.blocks in_order.1) in
      rising_same letter_key 0 content.blocks other.blocks (blocks_rise 0 content.blocks office.given.by_letter office.given.plan.apart (any_head content.blocks))
      (blocks_rise 0 other.blocks second.given.by_letter second.given.plan.apart (any_head other.blocks)) shuffled

  both_settings : IsPermutation (settings_by_name content) (settings_by_name other)
  both_settings =
      let in_order = shown_twice settings_table (0 ∷ 1 ∷ []) (0 ∷ []) setting_values one.settings two.settings db shows.settings also.settings in
      let same : two.settings ≡ in_order.0 = same_records (λ _. Unit {0}) setting_values setting_one two.settings in_order.0 (λ _ _. tt) (λ _ _. tt) in_order.2 in
      subst (IsPermutation (settings_by_name content)) (sym same ∙ second.settings) (subst (λ l. IsPermutation l in_order.0) office.settings in_order.1)

  named_same : (name : List ℕ) → count_by (is_named name) (settings_by_name content) ≤ 1 → find (is_named name) (settings_by_name content) ≡ find (is_named name) (settings_by_name other)
  named_same name once = sym (found_same (is_named name) (settings_by_name content) (settings_by_name other) once both_settings)

  both_limits : content.visit_limit ≡ other.visit_limit
  both_limits =
      let written : decimal content.visit_limit ≡ decimal other.visit_limit = value_one (codes "visits") _ _ (named_same (codes "visits") (omega arith)) in
      let low : content.visit_limit ≤ 999999999 = office.given.limit.1 in
      let high : other.visit_limit ≤ 999999999 = second.given.limit.1 in
      decimal_injective content.visit_limit other.visit_limit (omega arith) (omega arith) written

  both_texts : table_texts content.codes ≡ table_texts other.codes
  both_texts i =
      value_one (codes "gate-in") _ _ (named_same (codes "gate-in") (omega arith)) i
      ∷ value_one (codes "gate-out") _ _ (named_same (codes "gate-out") (omega arith)) i
      ∷ value_one (codes "yard-move") _ _ (named_same (codes "yard-move") (omega arith)) i
      ∷ value_one (codes "discharge-list") _ _ (named_same (codes "discharge-list") (omega arith)) i
      ∷ value_one (codes "load-list") _ _ (named_same (codes "load-list") (omega arith)) i
      ∷ value_one (codes "discharge-report") _ _ (named_same (codes "discharge-report") (omega arith)) i
      ∷ value_one (codes "load-report") _ _ (named_same (codes "load-report") (omega arith)) i ∷ []

  both_accounts : one.partners ≡ two.partners
  both_accounts =
      let in_order = shown_twice partner_table (0 ∷ 1 ∷ 2 ∷ 3 ∷ []) (0 ∷ []) partner_values one.partners two.partners db shows.partners also.partners in
      let same : two.partners ≡ in_order.0 = same_records (λ _. Unit {0}) partner_values partner_one two.partners in_order.0 (λ _ _. tt) (λ _ _. tt) in_order.2 in
      rising_same (λ (p : Partner). p.id) 0 one.partners two.partners (given_rise 1 0 one.partners content.partners refl office.accounts) (given_rise 1 0 two.partners other.partners refl second.accounts)
      (subst (IsPermutation one.partners) (sym same) in_order.1)

  -- one database shows one terminal
  pub one_terminal : state ≡ own
  one_terminal =
      state_of_rows state own office.whole second.whole (office.plan ∙ both_blocks ∙ sym second.plan) (office.limit ∙ both_limits ∙ sym second.limit)
      (sym office.terminal ∙ (λ i. record { visits = both_visits i; places = both_places i; lines = both_lines i }) ∙ second.terminal)

  -- and one set-up
  pub one_setup : SaysSame content other
  one_setup = record {
    terminal = value_one (codes "terminal") _ _ (named_same (codes "terminal") (omega arith));
    codes = both_texts;
    partners = accounts_same 1 one.partners content.partners other.partners office.accounts (subst (λ l. AreAccounts 1 l other.partners) (sym both_accounts) second.accounts);
    blocks = both_blocks;
    limit = both_limits;
  }
