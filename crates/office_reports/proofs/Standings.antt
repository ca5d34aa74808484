-- The containers in a yard, by the texts of their slots.
use Rattle.std.specs.{Prelude.{◌&&◌, ◌==◌, slice_index, encode_utf8_all, ◌||◌, not, is_some, decimal}, Char.{is_ascii_uppercase, is_ascii_digit}, Cmp.Equal-is}
use Rattle.std.specs.{List.{list_all, list_any, AllByRecursion, join_by}, Str.{IsAscii, bytes_eq}, BTreeMap.{BTreeMap, get, is_at}, Map.{lookup, keys_of}}
use Rattle.std.specs.{Ordering.{nat_cmp, is_eq, eq_by_cmp, is_lt}, Cmp.Lexicographic.slice_cmp, List.Sorted.IsStrictlySortedBy}
use Rattle.std.{specs.declared.cmp.Ordering.TheVariants.Less, proofs.{lemmas.Bool.{and_parts, eqb-true, le-leb}, lemmas.Bool.Decides.{nat_tests, leb_tells}}}
use Rattle.std.proofs.Common.{◌≡◌, ℕ, ◌+◌, ◌-◌, ◌/◌, ◌%◌, ◌<◌, List, [], ◌∷◌, length, take, drop, Bool, true, ◌∙◌, arith, subst, IsTrue, inl, inr, ◌++◌, map, false, cond, None, Some, refl, sym, ap, codes, Bor, ◌≤◌, Option, is_none, nat_le, Contains, option_map, find, count_by, ◌⊎◌, get_or, T, zero, suc, string_bytes, slice_get, slice_index_or, flat_map, filter}
use Rattle.std.proofs.lemmas.List.{get_or-take, get_or-drop, map-append, take_more, take_all, take-append-drop, append-nil, flat_map_more}
use Rattle.std.proofs.{lemmas.Str.Ascii.{IsAscii-from_reads, IsAscii-cons, IsAscii-nil, encodes-IsAscii}, lemmas.Option.{same_Some, none-some}}
use Rattle.std.proofs.{lemmas.Cmp.{nat_list_cmp_total, tied_itself, eq_by_cmp_equiv}, lemmas.Map.Lookups.exact_bytes, lemmas.List.Sums.length-filter}
use Rattle.std.proofs.lemmas.List.Elements.{Contains-push_cases, Contains-append_left, Contains-append_right}
use Rattle.std.proofs.{lemmas.Map.Keys.{IsDistinct-from_sorted, sorted_head, sorted_tail}, lemmas.Map.Views.{Contains-from_lookup, lookup-from_Contains}}
use Rattle.box6346.specs.{SlotName.{IsNamed, slot_text, slot_of}, declared.slot.Slot.Slot, declared.box_number.BoxNumber.BoxNumber}
use Rattle.box6346.{specs.{declared.size_type.Length.Length, declared.size_type.Length.TheVariants.{Twenty, Forty}}, proofs.SlotNames.names_are_read_again_lem}
use Rattle.edi_syntax.specs.Moments.{CivilMoment}
use Rattle.terminal_core.specs.{declared.visits.Visit.Visit, Rows.{VisitContent, visit_content}, declared.change.Source.Source}
use Rattle.terminal_core.specs.{State.{TerminalState, is_visit_of, AreOpenOf, is_open_visit, open_visit, IsWhole}, declared.visits.Departure.Departure}
use Rattle.terminal_core.proofs.{Open.{same_self, same_bytes}, Whole.{contained, found_at}, Indexed.{some_of, is_found, found_is, one_passes}}
use Rattle.office_admission.specs.{Setups.{SetupContent, account_contents, setup_content}, declared.setup.Account.Account, declared.setup.Setup.Setup}
use Rattle.office_reports.specs.{Names.line, Passages.code_of, Visits.{rows_text, visit_report, visits_by, visits_of, visits_text}, Listed.AreListed}
use Rattle.office_reports.specs.Tickets.{closed_line, entry_lines, exit_line, exit_lines, exit_moment_by, is_closed_by, is_nothing, is_opened_by, is_source, is_told_by, ticket_of, ticket_text, told_text}
use Rattle.office_reports.specs.{declared.yard.Standing.Standing, Yard.{shown_standing, slot_in, StandsAt, standing_if_here, standing_of}}
use Rattle.yard_core.{specs.{declared.plan.Block.Block, declared.placements.Placement.Placement, Plan.{IsPlan, InPlan}}, proofs.Exact.numbered}
use Rattle.yard_core.specs.YardMap.{placement_of, in_bay, CoversAt, IsKind}
use Rattle.box6346.specs.NumberText as number
use Rattle.box6346.specs.SizeText as size
use Rattle.std.specs.FinMap.Entries as entries

-- ==== Ascii: Names that are ASCII.

capital_low : (c : ℕ) → is_ascii_uppercase c ≡ true → c < 128
capital_low c e = grind (arith, nat_tests)

digit_low : (c : ℕ) → is_ascii_digit c ≡ true → c < 128
digit_low c e = grind (arith, nat_tests)

character_low : (c : ℕ) → size.is_code_character c ≡ true → c < 128
character_low c e = grind (arith, nat_tests)

category_low : (c : ℕ) → number.is_category c ≡ true → c < 128
category_low c e = grind (arith, nat_tests)

all_low : (p : ℕ → Bool) → ((c : ℕ) → p c ≡ true → c < 128) → (bs : List ℕ) → list_all p bs ≡ true → IsAscii bs
all_low p low [] e = IsAscii-nil
all_low p low (b ∷ bs) e = let parts = and_parts (p b) (list_all p bs) e in IsAscii-cons b bs (low b parts.0) (all_low p low bs parts.1)

-- what a part of a text has at a place, the text has
module _ (t : List ℕ) where
  in_first : (n k : ℕ) → k < n → IsAscii (take n t) → slice_index t k < 128
  in_first n k below low = let same = get_or-take n t k 0 below in subst (λ c. c < 128) same (low k)

  in_middle : (n m k : ℕ) → k < m → IsAscii (take m (drop n t)) → slice_index t (n + k) < 128
  in_middle n m k below low = let same = get_or-take m (drop n t) k 0 below ∙ get_or-drop n t k 0 in subst (λ c. c < 128) same (low k)

  -- owner code, equipment category and serial number
  named_low : number.names_container t ≡ true → (k : ℕ) → k < 10 → slice_index t k < 128
  named_low names k below =
      let parts = and_parts (list_all is_ascii_uppercase (take 3 t) && number.is_category (slice_index t 3)) (list_all is_ascii_digit (take 6 (drop 4 t))) names in
      let owner = and_parts (list_all is_ascii_uppercase (take 3 t)) (number.is_category (slice_index t 3)) parts.0 in
      elim (leb_tells 3 k) [
        | inr a ↦ in_first 3 k a.1 (all_low is_ascii_uppercase capital_low (take 3 t) owner.0)
        | inl a ↦ elim (leb_tells 4 k) [
          | inr b ↦ (let is : 3 ≡ k = omega arith in subst (λ n. slice_index t n < 128) is (category_low (slice_index t 3) owner.1))
          | inl b ↦ (let is : 4 + (k - 4) ≡ k = omega arith in subst (λ n. slice_index t n < 128) is (in_middle 4 6 (k - 4) (omega arith) (all_low is_ascii_digit digit_low (take 6 (drop 4 t)) parts.1)))
        ]
      ]

-- the characters of a container's number
number_low : (t : List ℕ) → number.has_form t ≡ true → IsAscii t
number_low t form =
    let parts = and_parts (length t == 11 && number.names_container (take 10 t)) (is_ascii_digit (slice_index t 10)) form in
    let names = and_parts (length t == 11) (number.names_container (take 10 t)) parts.0 in
    let long : length t ≡ 11 = eqb-true (length t) 11 names.0 in
    IsAscii-from_reads t 11 (omega arith) (λ k below. elim (leb_tells 10 k) [
      | inr low ↦ subst (λ c. c < 128) (get_or-take 10 t k 0 low.1) (named_low (take 10 t) names.1 k low.1)
      | inl high ↦ (let is : 10 ≡ k = omega arith in subst (λ n. slice_index t n < 128) is (digit_low (slice_index t 10) parts.1))
    ])

pub number_same : (t : List ℕ) → IsTrue (number.is_number t) → encode_utf8_all t ≡ t
unfolding number.is_number
number_same t is = encodes-IsAscii t (number_low t (and_parts (number.has_form t) (number.is_checked t) is).0)

pub size_same : (t : List ℕ) → IsTrue (size.is_size t) → encode_utf8_all t ≡ t
unfolding size.is_size
size_same t is =
    let form = (and_parts (size.has_form t) (size.has_length t) is).0 in
    encodes-IsAscii t (all_low size.is_code_character character_low t (and_parts (length t == 4) (list_all size.is_code_character t) form).1)

five_low : (b c d e f : ℕ) → b < 128 → c < 128 → d < 128 → e < 128 → f < 128 → IsAscii (b ∷ c ∷ d ∷ e ∷ f ∷ [])
five_low b c d e f p q r s t = IsAscii-cons b (c ∷ d ∷ e ∷ f ∷ []) p (IsAscii-cons c (d ∷ e ∷ f ∷ []) q (IsAscii-cons d (e ∷ f ∷ []) r (IsAscii-cons e (f ∷ []) s (IsAscii-cons f [] t IsAscii-nil))))

pub slot_same : (slot : Slot) → IsNamed slot → encode_utf8_all (slot_text slot) ≡ slot_text slot
slot_same slot named =
    let a : 48 + slot.bay / 100 % 10 < 128 = omega arith in
    let b : 48 + slot.bay / 10 % 10 < 128 = omega arith in
    let c : 48 + slot.bay % 10 < 128 = omega arith in
    let d : 48 + slot.row / 10 % 10 < 128 = omega arith in
    let e : 48 + slot.row % 10 < 128 = omega arith in
    let f : 48 + slot.tier % 10 < 128 = omega arith in
    let rest : List ℕ = (48 + slot.bay / 10 % 10) ∷ (48 + slot.bay % 10) ∷ (48 + slot.row / 10 % 10) ∷ (48 + slot.row % 10) ∷ (48 + slot.tier % 10) ∷ [] in
    encodes-IsAscii (slot_text slot)
    (IsAscii-cons slot.block ((48 + slot.bay / 100 % 10) ∷ rest) (capital_low slot.block named.block) (IsAscii-cons (48 + slot.bay / 100 % 10) rest a (five_low (48 + slot.bay / 10 % 10) (48 + slot.bay % 10) (48 + slot.row / 10 % 10) (48 + slot.row % 10) (48 + slot.tier % 10) b c d e f)))

-- ==== Found: Whether anything is found.

abbrev is_some_of : {A : Type 0} → List A → Bool
is_some_of [] = false
is_some_of (x ∷ xs) = true

-- some fit, if one is chosen
pub chosen_any : {A : Type 0} (p : A → Bool) (xs : List A) → list_any p xs ≡ is_some_of (filter p xs)
chosen_any p [] = refl
chosen_any p (x ∷ xs) = by (p x) (chosen_any p xs)
  where
    by : (b : Bool) → list_any p xs ≡ is_some_of (filter p xs) → (b || list_any p xs) ≡ is_some_of (cond b (x ∷ filter p xs) (filter p xs))
    by true rest = refl
    by false rest = rest

-- ==== Visits: The text of a container's visits.

module _ (setup : SetupContent) (container : BoxNumber) where
  found_told : (found : List VisitContent) → option_map rows_text (visits_by setup container found) ≡ cond (is_some_of found) (Some (rows_text (record { setup = setup; container = container; visits = found }))) None
  found_told [] = refl
  found_told (visit ∷ visits) = refl

  -- the text of the value is the report
  pub visits_stay : (state : TerminalState) → option_map rows_text (visits_of setup state container) ≡ visit_report setup state container
  visits_stay state =
      found_told (filter (is_visit_of container) state.visits)
      ∙ ap (λ b. cond b (Some (visits_text setup container state.visits)) None) (sym (chosen_any (is_visit_of container) state.visits))

-- ==== Tickets: The text of a ticket.

with_second : (opened : List VisitContent) (visit : VisitContent) (closed : List VisitContent) → is_nothing opened (visit ∷ closed) ≡ false
with_second [] visit closed = refl
with_second (first ∷ opened) visit closed = refl

either : {A : Type 0} (b : Bool) (x y : A) → cond (not b) x y ≡ cond b y x
either true x y = refl
either false x y = refl

module _ (source : Source) where
  abbrev opened_in : List VisitContent → List VisitContent
  opened_in visits = filter (is_opened_by source) visits

  abbrev closed_in : List VisitContent → List VisitContent
  closed_in visits = filter (is_closed_by source) visits

  nothing_chosen : (visits : List VisitContent) → is_nothing (opened_in visits) (closed_in visits) ≡ not (list_any (is_told_by source) visits)
  nothing_chosen [] = refl
  nothing_chosen (visit ∷ visits) = by (is_opened_by source visit) (is_closed_by source visit) (nothing_chosen visits)
    where
      by : (o c : Bool) → is_nothing (opened_in visits) (closed_in visits) ≡ not (list_any (is_told_by source) visits)
          → is_nothing (cond o (visit ∷ opened_in visits) (opened_in visits)) (cond c (visit ∷ closed_in visits) (closed_in visits))
          ≡ not ((o || c) || list_any (is_told_by source) visits)
      by true c rest = refl
      by false true rest = with_second (opened_in visits) visit (closed_in visits)
      by false false rest = rest

  -- a visit, by how it was closed
  exit_same : (visit : VisitContent) (departure : Option Departure) (moment : Option CivilMoment) → visit.departure ≡ departure → exit_moment_by source departure ≡ moment
      → (visits : List VisitContent) → flat_map closed_line (closed_in visits) ≡ exit_lines source visits
      → flat_map closed_line (cond (is_some moment) (visit ∷ closed_in visits) (closed_in visits)) ≡ exit_line visit moment ++ exit_lines source visits
  exit_same visit departure None e f visits rest = rest
  exit_same visit None (Some moment) e f visits rest = absurd (none-some moment f)
  exit_same visit (Some departure) (Some moment) e f visits rest = by (is_source departure.source source) f
    where
      by : (is : Bool) → cond is (Some departure.moment) None ≡ Some moment → flat_map closed_line (visit ∷ closed_in visits) ≡ exit_line visit (Some moment) ++ exit_lines source visits
      by true f = (λ i. exit_line visit ((ap (option_map (λ (left : Departure). left.moment)) e ∙ f) i) ++ rest i)
      by false f = absurd (none-some moment f)

  exits_same : (visits : List VisitContent) → flat_map closed_line (closed_in visits) ≡ exit_lines source visits
  exits_same [] = refl
  exits_same (visit ∷ visits) = exit_same visit visit.departure (exit_moment_by source visit.departure) refl refl visits (exits_same visits)

  -- the text of the value is the ticket
  pub ticket_stays : (code : List ℕ) (visits : List VisitContent) → told_text (ticket_of code source visits) ≡ ticket_text code source visits
  ticket_stays code visits =
      let nothing = line (codes "NOTHING" ∷ []) in
      ap (λ lines. line (codes "TICKET" ∷ code ∷ decimal source.number ∷ []) ++ lines)
      (ap (λ b. cond b nothing (entry_lines source visits ++ flat_map closed_line (closed_in visits))) (nothing_chosen visits)
      ∙ either (list_any (is_told_by source) visits) nothing (entry_lines source visits ++ flat_map closed_line (closed_in visits))
      ∙ ap (λ exits. cond (list_any (is_told_by source) visits) (entry_lines source visits ++ exits) nothing) (exits_same visits))

-- ==== Standings: The containers in a yard, by the texts of their slots.

-- two containers of one slot have a cell in common
common_cell : (a b : Length) (s t : Slot) → s ≡ t → IsKind a s → IsKind b t → (cell : Slot) × CoversAt a s cell × CoversAt b t cell
common_cell Twenty Twenty s t e k j = (s, refl, e)
common_cell Forty Forty s t e k j = (in_bay (s.bay - 1) s, inl refl, inl (ap (λ (x : Slot). in_bay (x.bay - 1) x) e))
common_cell Twenty Forty s t e k j = let odd : s.bay % 2 ≡ 1 = k in let even : s.bay % 2 ≡ 0 = ap (λ (x : Slot). x.bay % 2) e ∙ j in absurd (omega arith)
common_cell Forty Twenty s t e k j = let even : s.bay % 2 ≡ 0 = k in let odd : s.bay % 2 ≡ 1 = ap (λ (x : Slot). x.bay % 2) e ∙ j in absurd (omega arith)

-- the placement of a slot that is reported
placed : (o : Option Placement) (slot : Slot) → option_map (λ s. s.slot) o ≡ Some slot → (s : Placement) × (o ≡ Some s) × (s.slot ≡ slot)
placed None slot e = absurd (none-some slot e)
placed (Some s) slot e = (s, refl, same_Some s.slot slot e)

capital : (letter : ℕ) → 65 ≤ letter → letter ≤ 90 → IsTrue (is_ascii_uppercase letter)
capital letter low high = let a : nat_le 65 letter ≡ true = le-leb 65 letter low in let b : nat_le letter 90 ≡ true = le-leb letter 90 high in ap (λ v. v && nat_le letter 90) a ∙ b

-- a slot of a plan has a name
named : (plan : List Block) (slot : Slot) → IsPlan plan → InPlan plan slot → IsNamed slot
named plan slot valid inside =
    let n = numbered plan slot valid inside in
    record { block = capital slot.block n.letter_low (omega (arith, n.letter_high)); bay = omega (arith, n.bay_high); row = omega (arith, n.row_high); tier = omega (arith, n.tier_high) }

-- slots with a name are told apart by it
same_slot : (s t : Slot) → IsNamed s → IsNamed t → slot_text s ≡ slot_text t → s ≡ t
same_slot s t a b e = same_Some s t (sym (names_are_read_again_lem s a) ∙ ap slot_of e ∙ names_are_read_again_lem t b)

-- the entries are those of these visits
pub record Holds (state : TerminalState) (visits : List VisitContent) (entries : List (List ℕ × Standing)) : Type 0 where
  pub sorted : IsStrictlySortedBy (slice_cmp nat_cmp) (keys_of entries)
  pub each : (visit : VisitContent) (standing : Standing) → Contains visits visit → standing_of state visit ≡ Some standing → lookup (is_at (slice_cmp nat_cmp (slot_text standing.slot))) entries ≡ Some standing
  pub only : (text : List ℕ) (standing : Standing) → lookup (is_at (slice_cmp nat_cmp text)) entries ≡ Some standing → StandsAt state text standing

module _ (state : TerminalState) (whole : IsWhole state) where
  -- containers whose slots have one text are one container
  same_container : (a b : BoxNumber) (s t : Slot) → slot_in state a ≡ Some s → slot_in state b ≡ Some t → slot_text s ≡ slot_text t → a ≡ b
  same_container a b s t at bt text =
      let p = placed (placement_of state.yard.boxes a) s at in
      let q = placed (placement_of state.yard.boxes b) t bt in
      let name : (c : BoxNumber) (r : Placement) → placement_of state.yard.boxes c ≡ Some r → IsNamed r.slot = λ c r e. named state.yard.plan r.slot whole.plan (whole.sound.in_plan c r e) in
      let slots : p.0.slot ≡ q.0.slot = same_slot p.0.slot q.0.slot (name a p.0 p.1) (name b q.0 q.1) (ap slot_text p.2 ∙ text ∙ ap slot_text (sym q.2)) in
      let cell = common_cell p.0.length q.0.length p.0.slot q.0.slot slots (whole.sound.of_kind a p.0 p.1) (whole.sound.of_kind b q.0 q.1) in
      whole.sound.apart a b p.0 q.0 cell.0 p.1 q.1 cell.1 cell.2

  -- under one text stands one container
  pub one_stands : (text : List ℕ) (a b : Standing) → StandsAt state text a → StandsAt state text b → a ≡ b
  one_stands text a b at bt =
      let containers : a.container ≡ b.container = same_container a.container b.container a.slot b.slot at.stands bt.stands (sym at.named ∙ bt.named) in
      let visits : at.visit ≡ bt.visit = same_Some at.visit bt.visit (sym at.is_open ∙ ap (open_visit state) containers ∙ bt.is_open) in
      let slots : a.slot ≡ b.slot = same_Some a.slot b.slot (sym at.stands ∙ ap (slot_in state) containers ∙ bt.stands) in
      at.is_shown ∙ (λ i. shown_standing (visits i) (slots i)) ∙ sym bt.is_shown

-- one text
pub same_text : (t q : List ℕ) → is_at (slice_cmp nat_cmp t) q ≡ true → t ≡ q
same_text t q e = exact_bytes t q ((Equal-is (slice_cmp nat_cmp t q)).0 e)

not_itself : (t q : List ℕ) → t ≡ q → is_at (slice_cmp nat_cmp t) q ≡ false → ⊥
not_itself t q e other = let tied : is_at (slice_cmp nat_cmp t) q ≡ true = ap (λ x. is_at (slice_cmp nat_cmp t) x) (sym e) ∙ ap is_eq (tied_itself nat_list_cmp_total t) in let bad : true ≡ false = sym tied ∙ other in cc

-- a visit that is shown is open
gone : (state : TerminalState) (visit : VisitContent) (d : Option Departure) (standing : Standing) → standing_if_here state visit d ≡ Some standing → (d ≡ None) × (option_map (shown_standing visit) (slot_in state visit.container) ≡ Some standing)
gone state visit None standing e = (refl, e)
gone state visit (Some d) standing e = absurd (none-some standing e)

-- where it is shown
shown_at : (visit : VisitContent) (o : Option Slot) (standing : Standing) → option_map (shown_standing visit) o ≡ Some standing → (slot : Slot) × (o ≡ Some slot) × (shown_standing visit slot ≡ standing)
shown_at visit None standing e = absurd (none-some standing e)
shown_at visit (Some slot) standing e = (slot, refl, same_Some (shown_standing visit slot) standing e)

module _ (state : TerminalState) (whole : IsWhole state) where
  -- an open visit is its container's
  open_is : (visit : VisitContent) → Contains state.visits visit → visit.departure ≡ None → open_visit state visit.container ≡ Some visit
  open_is visit inside stays =
      let p : VisitContent → Bool = is_open_visit visit.container in
      let is : p visit ≡ true = (let self = same_self visit.container in let none : is_none visit.departure ≡ true = ap is_none stays in cc) in
      let found = some_of (find p state.visits) (is_found p state.visits inside.0 visit (found_at state.visits visit inside) is) in
      let there = found_is p state.visits found.0 found.1 in
      let few : count_by p state.visits ≤ 1 = subst (λ n. n ≤ 1) (length-filter p state.visits) (whole.one_visit visit.container) in
      found.1 ∙ ap Some (one_passes p state.visits found.0 visit few (contained state.visits there.0 found.0 there.1) inside there.2 is)

  stands_at : (visit : VisitContent) (standing : Standing) → Contains state.visits visit → standing_of state visit ≡ Some standing → StandsAt state (slot_text standing.slot) standing
  stands_at visit standing inside e =
      let here = gone state visit visit.departure standing e in
      let at = shown_at visit (slot_in state visit.container) standing here.1 in
      let its : visit.container ≡ standing.container = ap (λ (s : Standing). s.container) at.2 in
      let slots : at.0 ≡ standing.slot = ap (λ (s : Standing). s.slot) at.2 in
      record {
        visit = visit;
        is_open = ap (open_visit state) (sym its) ∙ open_is visit inside here.0;
        is_shown = sym at.2 ∙ ap (shown_standing visit) slots;
        stands = ap (slot_in state) (sym its) ∙ at.1 ∙ ap Some slots;
        named = refl;
      }

  pub holds_none : (entries : List (List ℕ × Standing)) → entries ≡ [] → IsStrictlySortedBy (slice_cmp nat_cmp) (keys_of entries) → Holds state [] entries
  holds_none entries none sorted = record {
    sorted = sorted;
    each = λ visit standing inside e. (let bad : inside.0 < 0 = inside.1 in absurd (omega arith));
    only = λ text standing e. absurd (none-some standing (sym (ap (lookup (is_at (slice_cmp nat_cmp text))) none) ∙ e));
  }

  -- a visit more, whose container left
  pub holds_left : (visits : List VisitContent) (visit : VisitContent) (entries : List (List ℕ × Standing)) → Holds state visits entries → standing_of state visit ≡ None → Holds state (visits ++ visit ∷ []) entries
  holds_left visits visit entries holds left = record {
    sorted = holds.sorted;
    each = λ v standing inside e. elim (Contains-push_cases visits visit v inside) [
      | inl before ↦ holds.each v standing before e
      | inr last ↦ absurd (none-some standing (sym left ∙ ap (standing_of state) last ∙ e))
    ];
    only = holds.only;
  }

  -- what stands under a text that is added, and under the others
  put_at : (text q : List ℕ) (standing old : Standing) (v : Bool) (o : Option Standing) → is_at (slice_cmp nat_cmp text) q ≡ v → (v ≡ true → standing ≡ old) → (v ≡ false → o ≡ Some old) → cond v (Some standing) o ≡ Some old
  put_at text q standing old true o is same other = ap Some (same refl)
  put_at text q standing old false o is same other = other refl

  was_at : (text q : List ℕ) (standing now : Standing) (v : Bool) (o : Option Standing) → is_at (slice_cmp nat_cmp text) q ≡ v → cond v (Some standing) o ≡ Some now → ((text ≡ q) × (standing ≡ now)) ⊎ (o ≡ Some now)
  was_at text q standing now true o is e = inl (same_text text q is, same_Some standing now e)
  was_at text q standing now false o is e = inr e

  -- a visit more, whose container stands
  pub holds_more : (visits : List VisitContent) (visit : VisitContent) (standing : Standing) (old new : BTreeMap (List ℕ) Standing) → Holds state visits old.entries
      → ((v : VisitContent) → Contains (visits ++ visit ∷ []) v → Contains state.visits v) → standing_of state visit ≡ Some standing
      → IsStrictlySortedBy (slice_cmp nat_cmp) (keys_of new.entries)
      → ((q : List ℕ) → get (slice_cmp nat_cmp) new q ≡ cond (is_at (slice_cmp nat_cmp (slot_text standing.slot)) q) (Some standing) (get (slice_cmp nat_cmp) old q))
      → Holds state (visits ++ visit ∷ []) new.entries
  holds_more visits visit standing old new holds among here sorted puts =
      let text : List ℕ = slot_text standing.slot in
      let added : StandsAt state text standing = stands_at visit standing (among visit (Contains-append_right visits (visit ∷ []) visit (contained (visit ∷ []) 0 visit refl))) here in
      record {
        sorted = sorted;
        each = λ v s inside e. puts (slot_text s.slot) ∙ put_at text (slot_text s.slot) standing s (is_at (slice_cmp nat_cmp text) (slot_text s.slot)) (get (slice_cmp nat_cmp) old (slot_text s.slot)) refl
            (λ is. one_stands state whole (slot_text s.slot) standing s (subst (λ t. StandsAt state t standing) (same_text text (slot_text s.slot) is) added) (stands_at v s (among v inside) e))
            (λ other. elim (Contains-push_cases visits visit v inside) [
              | inl before ↦ holds.each v s before e
              | inr last ↦ (let one : standing ≡ s = same_Some standing s (sym here ∙ ap (standing_of state) last ∙ e) in absurd (not_itself text (slot_text s.slot) (ap (λ (x : Standing). slot_text x.slot) one) other))
            ]);
        only = λ q s e. elim (was_at text q standing s (is_at (slice_cmp nat_cmp text) q) (get (slice_cmp nat_cmp) old q) refl (sym (puts q) ∙ e)) [
          | inl new ↦ subst (λ (x : Standing). StandsAt state q x) new.1 (subst (λ t. StandsAt state t standing) new.0 added)
          | inr before ↦ holds.only q s before
        ];
      }

-- ---- the loop's turns

-- a visit as it is looked at
abbrev pub shown : Bor Visit → VisitContent
shown visit = visit_content visit.now

longer : (rows : List (Bor Visit)) (i : ℕ) (row : Bor Visit) → i < length rows → row ≡ get_or rows i row → map shown (take i rows) ++ shown row ∷ [] ≡ map shown (take (i + 1) rows)
longer rows i row low is = sym (ap (map shown) (take_more rows i row low ∙ ap (λ (r : Bor Visit). take i rows ++ r ∷ []) (sym is)) ∙ map-append shown (take i rows) (row ∷ []))

module _ (state : TerminalState) (whole : IsWhole state) (rows : List (Bor Visit)) (are : AreOpenOf state.visits (map shown rows)) where
  pub row_left : (i : ℕ) (row : Bor Visit) (entries : List (List ℕ × Standing)) → i < length rows → row ≡ get_or rows i row → standing_of state (shown row) ≡ None
      → Holds state (map shown (take i rows)) entries → Holds state (map shown (take (i + 1) rows)) entries
  row_left i row entries low is left holds = subst (λ visits. Holds state visits entries) (longer rows i row low is) (holds_left state whole (map shown (take i rows)) (shown row) entries holds left)

  among : (n : ℕ) (visit : VisitContent) → Contains (map shown (take n rows)) visit → Contains state.visits visit
  among n visit inside =
      let all = subst (λ visits. Contains visits visit) (sym (map-append shown (take n rows) (drop n rows)) ∙ ap (map shown) (take-append-drop n rows))
      (Contains-append_left (map shown (take n rows)) (map shown (drop n rows)) visit inside) in
      (are.only visit all).0

  pub row_stands : (i : ℕ) (row : Bor Visit) (standing : Standing) (old new : BTreeMap (List ℕ) Standing) → i < length rows → row ≡ get_or rows i row → standing_of state (shown row) ≡ Some standing
      → IsStrictlySortedBy (slice_cmp nat_cmp) (keys_of new.entries)
      → ((q : List ℕ) → get (slice_cmp nat_cmp) new q ≡ cond (is_at (slice_cmp nat_cmp (slot_text standing.slot)) q) (Some standing) (get (slice_cmp nat_cmp) old q))
      → Holds state (map shown (take i rows)) old.entries → Holds state (map shown (take (i + 1) rows)) new.entries
  row_stands i row standing old new low is here sorted puts holds =
      let more = longer rows i row low is in
      subst (λ visits. Holds state visits new.entries) more
      (holds_more state whole (map shown (take i rows)) (shown row) standing old new holds
      (λ v inside. among (i + 1) v (subst (λ visits. Contains visits v) more inside)) here sorted puts)

  stays : (o : Option Departure) → is_none o ≡ true → o ≡ None
  stays None e = refl
  stays (Some d) e = cc

  here : (visit : VisitContent) (d : Option Departure) (standing : Standing) → d ≡ None → slot_in state visit.container ≡ Some standing.slot → standing ≡ shown_standing visit standing.slot → standing_if_here state visit d ≡ Some standing
  here visit d standing none stands is = ap (standing_if_here state visit) none ∙ ap (option_map (shown_standing visit)) stands ∙ ap Some (sym is)

  pub are_listed : (i : ℕ) (entries : List (List ℕ × Standing)) → length rows ≤ i → Holds state (map shown (take i rows)) entries → AreListed (StandsAt state) entries
  are_listed i entries all holds_some =
      let holds : Holds state (map shown rows) entries = subst (λ visits. Holds state visits entries) (ap (map shown) (take_all i rows all)) holds_some in
      record {
        sorted = holds.sorted;
        each = λ text standing at.
            let found = found_is (is_open_visit standing.container) state.visits at.visit at.is_open in
            let parts = and_parts (bytes_eq at.visit.container standing.container) (is_none at.visit.departure) found.2 in
            let its : standing.container ≡ at.visit.container = same_bytes at.visit.container standing.container parts.0 in
            let told_here : standing_of state at.visit ≡ Some standing = here at.visit at.visit.departure standing (stays at.visit.departure parts.1) (ap (slot_in state) (sym its) ∙ at.stands) at.is_shown in
            let there = holds.each at.visit standing (are.each at.visit (contained state.visits found.0 at.visit found.1) parts.1) told_here in
            Contains-from_lookup same_text text standing entries (ap (λ t. lookup (is_at (slice_cmp nat_cmp t)) entries) at.named ∙ there);
        only = λ text standing inside. holds.only text standing
            (lookup-from_Contains (eq_by_cmp_equiv nat_list_cmp_total) text standing entries (IsDistinct-from_sorted (slice_cmp nat_cmp) (keys_of entries) holds.sorted) inside);
      }

-- ==== Once: What is listed is one list.

pub both : (a b : Bool) → T a → T b → T (a && b)
both true b p q = q
both false b p q = p

module _ {X : Type 0} where
  found : (q : List ℕ) (list : List (List ℕ × X)) → entries.find (slice_cmp nat_cmp) q list ≡ lookup (eq_by_cmp (slice_cmp nat_cmp) q) list
  found q [] = refl
  found q (e ∷ list) = ap (cond (eq_by_cmp (slice_cmp nat_cmp) q e.0) (Some e.1)) (found q list)

  below : (x : List ℕ) (list : List (List ℕ × X)) → AllByRecursion (λ y. slice_cmp nat_cmp x y ≡ Less) (keys_of list) → T (entries.below_all (slice_cmp nat_cmp) x list)
  below x [] h = tt
  below x (e ∷ list) h = both _ _ (subst (λ r. T (is_lt r)) (sym h.0) tt) (below x list h.1)

  in_order : (list : List (List ℕ × X)) → IsStrictlySortedBy (slice_cmp nat_cmp) (keys_of list) → T (entries.is_sorted (slice_cmp nat_cmp) list)
  in_order [] sorted = tt
  in_order (e ∷ list) sorted = both _ _ (below e.0 list (sorted_head (slice_cmp nat_cmp) e.0 (keys_of list) sorted)) (in_order list (sorted_tail (slice_cmp nat_cmp) e.0 (keys_of list) sorted))

  module _ (GoesUnder : List ℕ → X → Type 0) where
    looked : (list : List (List ℕ × X)) → AreListed GoesUnder list → (q : List ℕ) (x : X) → GoesUnder q x → lookup (eq_by_cmp (slice_cmp nat_cmp) q) list ≡ Some x
    looked list listed q x at = lookup-from_Contains (eq_by_cmp_equiv nat_list_cmp_total) q x list (IsDistinct-from_sorted (slice_cmp nat_cmp) (keys_of list) listed.sorted) (listed.each q x at)

    goes : (list : List (List ℕ × X)) → AreListed GoesUnder list → (q : List ℕ) (x : X) → lookup (eq_by_cmp (slice_cmp nat_cmp) q) list ≡ Some x → GoesUnder q x
    goes list listed q x e = listed.only q x (Contains-from_lookup same_text q x list e)

    same_at : (a b : List (List ℕ × X)) → AreListed GoesUnder a → AreListed GoesUnder b → (q : List ℕ) (o p : Option X) → lookup (eq_by_cmp (slice_cmp nat_cmp) q) a ≡ o → lookup (eq_by_cmp (slice_cmp nat_cmp) q) b ≡ p → o ≡ p
    same_at a b la lb q (Some x) p e f = sym (looked b lb q x (goes a la q x e)) ∙ f
    same_at a b la lb q None (Some y) e f = sym e ∙ looked a la q y (goes b lb q y f)
    same_at a b la lb q None None e f = refl

    -- two lists of the same things are one
    pub one_list : (a b : List (List ℕ × X)) → AreListed GoesUnder a → AreListed GoesUnder b → a ≡ b
    one_list a b la lb = entries.same_entries (slice_cmp nat_cmp) nat_list_cmp_total exact_bytes a b (in_order a la.sorted) (in_order b lb.sorted) (λ q. found q a ∙ same_at a b la lb q _ _ refl refl ∙ sym (found q b))

-- ==== Partners: The codes of partners.

at_place : (accounts : List Account) (place : ℕ) (account : Account) → slice_get accounts place ≡ Some account → slice_index_or (map (λ partner. partner.0) (account_contents accounts)) place [] ≡ string_bytes account.code
at_place [] place account e = absurd (none-some account e)
at_place (a ∷ accounts) zero account e = ap (λ (x : Account). string_bytes x.code) (same_Some a account e)
at_place (a ∷ accounts) (suc place) account e = at_place accounts place account e

-- the account of a number has its code
pub code_found : (setup : Setup) (number place : ℕ) (account : Account) → number ≡ suc place → slice_get setup.partners.items place ≡ Some account → code_of (setup_content setup) number ≡ string_bytes account.code
code_found setup number place account e at = ap (code_of (setup_content setup)) e ∙ at_place setup.partners.items place account at

-- ==== Phrases: Words of references.

flat : {X : Type 0} (f : X → List ℕ) (sep : List ℕ) (xs : List X) → flat_map (λ x. sep ++ f x) xs ≡ flat_map (λ word. sep ++ word) (map f xs)
flat f sep [] = refl
flat f sep (x ∷ xs) = ap (λ rest. (sep ++ f x) ++ rest) (flat f sep xs)

-- what joins things by their words joins the words
pub joined : {X : Type 0} (f : X → List ℕ) (sep : List ℕ) (xs : List X) → join_by f sep xs ≡ join_by (λ word. word) sep (map f xs)
joined f sep [] = refl
joined f sep (x ∷ xs) = ap (λ rest. f x ++ rest) (flat f sep xs)

-- ==== Rows: Lines of rows, one after the other.

module _ {X Y : Type 0} (f : Y → List ℕ) (g : X → Y) (before : List ℕ) (xs : List X) where
  -- a text with the lines of the first rows
  pub record HasLines (i : ℕ) (text : List ℕ) : Type 0 where
    pub is : text ≡ before ++ flat_map f (map g (take i xs))

  pub none_yet : HasLines 0 before
  none_yet = record { is = sym (append-nil before) }

  pub next_row : (i : ℕ) (x : X) (text now : List ℕ) → i < length xs → x ≡ get_or xs i x → HasLines i text → now ≡ text ++ f (g x) → HasLines (i + 1) now
  next_row i x text now low at has e = record {
    is = e ∙ ap (λ (t : List ℕ). t ++ f (g x)) has.is ∙ flat_map_more f before (map g (take i xs)) (g x)
        ∙ ap (λ (ys : List Y). before ++ flat_map f ys) (sym (ap (map g) (take_more xs i x low ∙ ap (λ (y : X). take i xs ++ y ∷ []) (sym at)) ∙ map-append g (take i xs) (x ∷ [])));
  }

  pub all_rows : (i : ℕ) (text : List ℕ) → length xs ≤ i → HasLines i text → text ≡ before ++ flat_map f (map g xs)
  all_rows i text all has = has.is ∙ ap (λ (ys : List X). before ++ flat_map f (map g ys)) (take_all i xs all)
