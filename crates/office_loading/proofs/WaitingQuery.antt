-- What the query of the interchanges that wait means, and what it finds.
use Rattle.std.specs.{List.Sorted.IsPermutation, Option.option_map, Ordering.{nat_cmp, eq_by_cmp}, Cmp.Lexicographic.slice_cmp, Prelude.IsUtf8}
use Rattle.std.proofs.Common.{◌≡◌, ℕ, pos, ◌&&◌, nat_lt, List, [], ◌∷◌, Bool, true, false, map, codes, refl, ap₂, ◌∙◌, arith, is_gt, int_cmp, Some, ◌<◌, ◌^◌, Option, None, is_some, find, Contains, IsTrue, sym, ap, subst, ◌==◌, cond, inl, inr, Ordering}
use Rattle.std.proofs.{lemmas.Bool.Decides.nat_tests, lemmas.Int.ints, lemmas.List.Sorted.IsPermutation-trans, lemmas.Slice.Eq.bytes_eq-Decides}
use Rattle.std.proofs.{lemmas.Bool.and_parts, lemmas.Cmp.eq_by_cmp_equiv, lemmas.Str.IsUtf8-nil}
use Rattle.sqlite.specs.{declared.types.Value.TheVariants.{Null, Int}, Order.{Row, column}, Collation.TheVariants.Binary, Ops.{binary, is_true}}
use Rattle.sqlite.specs.{Term.{Term, col, op2}, Command.TheVariants.Select, State.{State, Shown}, Listing.{understood, reads_listing}}
use Rattle.sqlite.proofs.Callers.{IsPlain, command_of, reads_as}
use Rattle.sqlite_sql.specs.{declared.ops.BinaryOp.TheVariants.Compare, declared.ops.CompareOp.TheVariants.{Eq, Gt}}
use Rattle.sqlite_tied.{specs.Compute.everything, proofs.RuleLemmas.and_true}
use Rattle.sqlite_resolve.specs.Compile.{first}
use Rattle.sqlite_value.proofs.OrderLemmas.{value_cmp-Int}
use Rattle.office_rows.specs.{Tables.{interchange_table, office_schema}, Rows.{Rows, PlaceContent, ListingContent}, Values.{number_value, interchange_values}}
use Rattle.office_rows.specs.{Stored.HasRows, Effects.{stands_for, is_line}, ByKey.{standing_by, ArePlacedOnce, line_entry, lines_by, AreListedOnce}}
use Rattle.office_rows.proofs.{WriteLemmas.{equal_numbers, rows_of, answer_is, holds_read}, Writing.equals}
use Rattle.office_tables.{specs.Reading.OnlyShows, proofs.WritesLemmas.{is_read, understands_query}}
use Rattle.office_loading.{specs.{Waiting.{is_waiting, waiting_in, waiting_values}, Fits.{FitsPlace, FitsLine}}, proofs.RowLemmas.{name_text, any_name_text}}
use Rattle.box6346.{specs.{NumberText.is_number, SlotName.IsNamed, declared.box_number.BoxNumber.BoxNumber}, proofs.SlotNames.names_are_read_again_lem}
use Rattle.yard_core.specs.{declared.placements.Placement.Placement, declared.placements.Stowed.Stowed, YardMap.{placement_if_any, placement_of}}
use Rattle.terminal_core.specs.{Changes.{Standing, standing_in, standing_of}, Forms.{IsWellFormed, IsFormedPort}, Rows.VisitContent, Step.number_of_visit}
use Rattle.terminal_core.specs.State.{TerminalState, IsWhole, open_visit, is_open_visit, LineContent, LineKey, line_key, side_code, Lines}
use Rattle.terminal_core.{specs.{declared.lines.Side.Side, declared.lines.Side.TheVariants.{Load, Discharge}}, proofs.Whole.{contained, found_at}}
use Rattle.terminal_core.proofs.{Indexed.{some_of, one_passes, is_found, found_is}, Lined.{keys_total, same_key}}
use Rattle.sqlite_rules.{specs.Lists.Has, proofs.ListLemmas.contains_had}
use Rattle.edi_syntax.proofs.SegmentLemmas.{mapped_some}
use Rattle.std.specs.FinMap as finite_map

abbrev pub select_waiting : List ℕ
select_waiting = codes "SELECT number FROM interchange WHERE partner = ?1 AND number > ?2"

abbrev tests : List Term
tests = equals (col 1 1) (col 0 0) ∷ op2 (Compare Gt Binary) (col 1 2) (col 0 1) ∷ []

abbrev shown : List Term
shown = col 1 2 ∷ []

abbrev names : List (List ℕ)
names = codes "number" ∷ []

waiting_is : (command_of (understood office_schema select_waiting) ≡ Select (record { lets = []; body = rows_of 2 tests shown }) names) × (reads_listing office_schema select_waiting ≡ false)
unfolding understood everything
waiting_is = (refl, refl)

pub waiting_plain : IsPlain (understood office_schema select_waiting)
unfolding understood everything
waiting_plain = (refl, refl)

waiting_read : is_read (first select_waiting) ≡ true
unfolding everything
waiting_read = refl

pub waiting_shows : OnlyShows select_waiting
waiting_shows schema c is = understands_query schema select_waiting c waiting_read is

-- ---- numbers

greater_numbers : (m n : ℕ) → is_true (binary (Compare Gt Binary) (Int (pos m)) (Int (pos n))) ≡ nat_lt n m
unfolding binary
greater_numbers m n = rw value_cmp-Int (truth_is (is_gt (int_cmp (pos m) (pos n))) ∙ ints_greater m n)
  where
    ints_greater : (m n : ℕ) → is_gt (int_cmp (pos m) (pos n)) ≡ nat_lt n m
    ints_greater m n = grind (arith, ints, nat_tests)

    truth_is : (b : Bool) → is_true (Rattle.sqlite.specs.Ops.from_truth (Some b)) ≡ b
    truth_is true = refl
    truth_is false = refl

-- ---- what is found

abbrev is_of : Row → ℕ → Bool
is_of c p = is_true (binary (Compare Eq Binary) (column c 0) (number_value p))

abbrev is_above : Row → ℕ → Bool
is_above c n = is_true (binary (Compare Gt Binary) (column c 1) (number_value n))

pub finds_waiting : (old new : State) (rows : Rows) (answer : List Row) → HasRows rows old.now → (p n : ℕ) → Shown select_waiting (number_value p ∷ number_value n ∷ []) old new answer
    → IsPermutation (map waiting_values (waiting_in p n rows)) answer
finds_waiting old new rows answer has p n h =
    let params = number_value p ∷ number_value n ∷ [] in
    let read = reads_as select_waiting params old new office_schema has.schema (Select (record { lets = []; body = rows_of 2 tests shown }) names) waiting_is.0 waiting_plain waiting_is.1 answer h in
    IsPermutation-trans _ _ _ (holds_read interchange_table interchange_values rows.interchanges (old.now.trees 2) has.rows_are.interchanges params tests shown
    (λ c. is_of c p && (is_above c n && true)) (λ c. column c 1 ∷ []) (is_waiting p n) waiting_values
    (λ r. refl) (λ r. refl) (λ i. ap₂ ◌&&◌ (equal_numbers i.partner p) (and_true _ ∙ greater_numbers i.number n)) (λ i. refl))
    (answer_is params tests 2 shown old.now.trees answer refl (read.answer Null))

-- ==== PlaceLemmas: The places of an office.

own_place : (p : PlaceContent) → stands_for p.container p ≡ true
own_place p = (bytes_eq-Decides p.container p.container).1 refl

pub places_differ : (places : List PlaceContent) (x y : PlaceContent) → ArePlacedOnce places → Has places x → Has places y → x.container ≡ y.container → x ≡ y
places_differ places x y once p q same =
    one_passes (stands_for x.container) places x y (once x.container) (contains_had places x p) (contains_had places y q) (own_place x) ((bytes_eq-Decides y.container x.container).1 (sym same))

found_place : (places : List PlaceContent) (p : PlaceContent) → ArePlacedOnce places → Has places p → find (stands_for p.container) places ≡ Some p
found_place places p once has =
    let inside = contains_had places p has in
    let some = some_of (find (stands_for p.container) places) (is_found (stands_for p.container) places inside.0 p (found_at places p inside) (own_place p)) in
    let found = found_is (stands_for p.container) places some.0 some.1 in
    some.1 ∙ ap Some (one_passes (stands_for p.container) places some.0 p (once p.container) (contained places found.0 some.0 found.1) inside found.2 (own_place p))

placed_some : (o : Option Stowed) → is_some (placement_if_any o) ≡ is_some o
placed_some None = refl
placed_some (Some w) = refl

module _ (state : TerminalState) (places : List PlaceContent) (whole : IsWhole state) (formed : IsWellFormed state) (small : (visit : VisitContent) → Contains state.visits visit → visit.number < 2 ^ 32)
    (once : ArePlacedOnce places) (same : (container : BoxNumber) → standing_by places container ≡ standing_of state container) where
  pub place_fits : (p : PlaceContent) → Has places p → FitsPlace p
  place_fits p has =
      let stands : standing_by places p.container ≡ Some (standing_in p.visit p.slot) = ap (option_map (λ (place : PlaceContent). standing_in place.visit place.slot)) (found_place places p once has) in
      let there = mapped_some (λ (s : Placement). standing_in (number_of_visit (open_visit state p.container)) s.slot) (placement_of state.yard.boxes p.container) (standing_in p.visit p.slot) (sym (same p.container) ∙ stands) in
      let slot_is : there.0.slot ≡ p.slot = ap (λ (s : Standing). s.slot) there.2 in
      let number_is : number_of_visit (open_visit state p.container) ≡ p.visit = ap (λ (s : Standing). s.visit) there.2 in
      let here : is_some (open_visit state p.container) ≡ true = sym (whole.here p.container) ∙ sym (placed_some (finite_map.get state.yard.boxes p.container)) ∙ ap is_some there.1 in
      let visit = some_of (open_visit state p.container) here in
      let found = found_is (is_open_visit p.container) state.visits visit.0 visit.1 in
      let listed = contained state.visits found.0 visit.0 found.1 in
      let box_is : visit.0.container ≡ p.container = (bytes_eq-Decides visit.0.container p.container).0 (and_parts _ _ found.2).0 in
      let low : visit.0.number < 2 ^ 32 = small visit.0 listed in
      let n : visit.0.number ≡ p.visit = sym (ap number_of_visit visit.1) ∙ number_is in
      record {
        container = subst (λ b. IsTrue (is_number b)) box_is (formed.visits visit.0 listed).container;
        visit = subst (λ k. k < 2 ^ 32) n low;
        slot = names_are_read_again_lem p.slot (subst IsNamed slot_is (formed.slots p.container there.0 there.1));
      }

-- ==== LineLemmas: The lines of an office.

abbrev order : LineKey → LineKey → Ordering
order = slice_cmp (slice_cmp nat_cmp)

abbrev key_of : ListingContent → LineKey
key_of l = line_key l.call l.side l.container

all_true : (a b c d : Bool) → a ≡ true → b ≡ true → c ≡ true → d ≡ true → (a && (b && (c && d))) ≡ true
all_true true true true true p q r s = refl
all_true false b c d p q r s = absurd cc
all_true true false c d p q r s = absurd cc
all_true true true false d p q r s = absurd cc
all_true true true true false p q r s = absurd cc

same_code : (m n : ℕ) → m ≡ n → (m == n) ≡ true
same_code m n h = grind (arith, nat_tests)

is_one : (l m : ListingContent) → m.call.vessel ≡ l.call.vessel → m.call.voyage ≡ l.call.voyage → side_code m.side ≡ side_code l.side → m.container ≡ l.container → is_line l.call l.side l.container m ≡ true
is_one l m a b c d = all_true _ _ _ _ ((bytes_eq-Decides m.call.vessel l.call.vessel).1 a) ((bytes_eq-Decides m.call.voyage l.call.voyage).1 b) (same_code (side_code m.side) (side_code l.side) c) ((bytes_eq-Decides m.container l.container).1 d)

pub lines_differ : (lines : List ListingContent) (x y : ListingContent) → AreListedOnce lines → Has lines x → Has lines y
    → y.call.vessel ≡ x.call.vessel → y.call.voyage ≡ x.call.voyage → side_code y.side ≡ side_code x.side → y.container ≡ x.container → x ≡ y
lines_differ lines x y once p q a b c d =
    one_passes (is_line x.call x.side x.container) lines x y (once x.call x.side x.container) (contains_had lines x p) (contains_had lines y q) (is_one x x refl refl refl refl) (is_one x y a b c d)

find_entry : (lines : List ListingContent) (q : LineKey) (e : LineContent) → ((m : ListingContent) → Has lines m → eq_by_cmp order q (key_of m) ≡ true → (line_entry m).1 ≡ e)
    → (l : ListingContent) → Has lines l → eq_by_cmp order q (key_of l) ≡ true → finite_map.find order q (map line_entry lines) ≡ Some e
find_entry [] q e one l has own = absurd has
find_entry (m ∷ lines) q e one l has own = elim (eq_by_cmp order q (key_of m)) as (λ v. eq_by_cmp order q (key_of m) ≡ v → cond v (Some (line_entry m).1) (finite_map.find order q (map line_entry lines)) ≡ Some e) [
  | true ↦ λ is. ap Some (one m (inl refl) is)
  | false ↦ λ isnt. elim has [
    | inl same ↦ absurd (let t : eq_by_cmp order q (key_of m) ≡ true = ap (λ n. eq_by_cmp order q (key_of n)) (sym same) ∙ own in cc)
    | inr later ↦ find_entry lines q e (λ n there. one n (inr there)) l later own
  ]
] refl

found_line : (lines : List ListingContent) (l : ListingContent) → AreListedOnce lines → Has lines l → finite_map.get (lines_by lines) (key_of l) ≡ Some (line_entry l).1
found_line lines l once has =
    finite_map.get-from_entries keys_total (map line_entry lines) (key_of l)
    ∙ find_entry lines (key_of l) (line_entry l).1 (λ m there is.
    let key : key_of l ≡ key_of m = same_key (key_of l) (key_of m) is in
    let a : m.call.vessel ≡ l.call.vessel = cc in
    let b : m.call.voyage ≡ l.call.voyage = cc in
    let c : side_code m.side ≡ side_code l.side = cc in
    let d : m.container ≡ l.container = cc in
    ap (λ (n : ListingContent). (line_entry n).1) (sym (lines_differ lines l m once has there a b c d))) l has ((eq_by_cmp_equiv keys_total).refl (key_of l))

port_text : (side : Side) (port : List ℕ) → IsFormedPort side port → IsUtf8 port
port_text Load port is = any_name_text port is
port_text Discharge port is = subst IsUtf8 (sym is) IsUtf8-nil

pub line_fits : (state : TerminalState) (lines : List ListingContent) → IsWellFormed state → AreListedOnce lines → lines_by lines ≡ state.lines → (l : ListingContent) → Has lines l → FitsLine l
line_fits state lines formed once same l has =
    let at = sym (ap (λ (m : Lines). finite_map.get m (key_of l)) same) ∙ found_line lines l once has in
    let is = formed.lines l.call l.side l.container (line_entry l).1 at in
    record { vessel = name_text l.call.vessel is.call_formed.vessel; voyage = name_text l.call.voyage is.call_formed.voyage; container = is.container_formed; port = port_text l.side l.port is.port_formed }
