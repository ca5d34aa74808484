-- The rows of an office have keys that differ, and say what their columns say.
use Rattle.std.specs.{Prelude.{nat_le, Vec, IsUtf8}, Ordering.{is_lt, on}, List.Sorted.{IsPermutation, IsSortedBy}, Cmp.IsTotalOrder, Str.IsAscii}
use Rattle.std.{specs.List.{AllByRecursion, list_all}, proofs.{lemmas.Bool.{cases_Bool, and_parts}, lemmas.Cmp.{on_total, then_total}}}
use Rattle.std.proofs.Common.{◌≡◌, ℕ, ◌^◌, List, [], ◌∷◌, Bool, map, filter, codes, Some, None, Ok, Err, inl, inr, refl, sym, ap, ap₂, subst, ◌∙◌, false, Ordering, Less, Equal, is_gt, IsSorted, ◌++◌, Result, zero, suc, ◌+◌, ◌-◌, ◌<◌, ◌≤◌, true, ◌||◌, ◌==◌, length, Option, IsTrue, arith, slice_index_or, slice_get}
use Rattle.std.proofs.{lemmas.List.Sorted.{IsPermutation-map, IsPermutation-sym, Contains-permutation, sum_by-IsPermutation}, lemmas.Bool.Decides.nat_tests}
use Rattle.std.proofs.lemmas.Str.{IsUtf8-from_ascii, IsUtf8-nil}
use Rattle.sqlite.specs.{declared.types.Value.TheVariants.Null, Collation.TheVariants.Binary, Order.{Row, column, value_cmp}, Schema.Schema, Program.overlay}
use Rattle.sqlite.specs.{Term.{Term, eval_all}, Query.{Output, key_cmp, Query}, Tree.{Trees, rowid, IsAscending, IsTable}, Listing.{understood, listing_schema}}
use Rattle.sqlite.specs.{State.{State, Shown, IsUnchanged, Begins}, Clock.timed, Command.TheVariants.Select}
use Rattle.sqlite.proofs.Callers.{IsPlain, command_of, reads_as, begins_shown, EndsIn}
use Rattle.sqlite_value.{specs.{Keys.ascending, declared.keys.Key.Key}, proofs.OrderLemmas.value_cmp_total}
use Rattle.sqlite_schema.specs.Names.{table_named, same_name}
use Rattle.sqlite_resolve.specs.{declared.error.CompileError.CompileError, declared.error.CompileError.TheVariants.{NoSuchTable, NoSuchColumn}, Compile.first}
use Rattle.sqlite_resolve.specs.Lowering.{Checked}
use Rattle.sqlite_syntax.specs.declared.statement.Parsed.{Parsed}
use Rattle.sqlite_trees.proofs.ListLemmas.{map-map, filter_all, all_of, ascending-map, ascending_weaker}
use Rattle.office_rows.specs.{Stored.columns_of, Shown.{columns_at, ShowsTable}, Tables.office_schema, Layouts.{Layout, bare, weighed, bare_schema, schema_in}}
use Rattle.office_rows.specs.{Rows.{Partner, PlaceContent, ListingContent, Setting}, Opened.NumberKept, Office.AreAccounts}
use Rattle.office_rows.specs.Values.{kind_code, way_code, laden_code, state_code, partner_values, visit_values, place_values, line_values, setting_values, block_values}
use Rattle.office_rows.proofs.{Listed.{unmapped, sorted_as}, Reading.{select_setting, select_setting_shown, select_setting_order}}
use Rattle.office_rows.proofs.WriteLemmas.{passes, answer_in_order}
use Rattle.office_loading.specs.{Settings.{HasNoSettings, HasSettings, setting_in}, Decoded.{DecodesAll, ReadsShown}, OwnOffice.AreInOrder, Columns.exit_values}
use Rattle.office_loading.specs.Fits.{FitsPartner, FitsNumber, FitsSource, FitsExit, FitsVisit, FitsBlock, IsSlot, IsMoment, FitsPlace, FitsLine, FitsSetting}
use Rattle.office_loading.proofs.{MissingLemmas.{ParsedAs, not_understood}, LackingLemmas.{lacking_fails, setting_one, setting_selects, one_order, rising_ties}}
use Rattle.office_loading.proofs.SettingQuery.{IsOfSettings, SelectsSettings, with_settings, settings_command, RunsSettings, unlisted, understands_settings}
use Rattle.office_loading.proofs.Keyed.{side_is}
use Rattle.sqlite_rules.{specs.Lists.Has, proofs.ListLemmas.{contains_had, has_contained}}
use Rattle.sqlite_exec.proofs.PartitionLemmas.{ascending_from_sorted}
use Rattle.office_tables.specs.{declared.table_fault.TableFault.TableFault, declared.table_fault.TableFault.TheVariants.{Store, Damaged, Version, Memory}}
use Rattle.office_tables.specs.Faults.{IsOfStore}
use Rattle.edi_syntax.{specs.{Characters.is_printable, Moments.{CivilMoment, moment_of, moment_digits}}, proofs.DigitLemmas.read_back}
use Rattle.edi_messages.specs.{Forms.is_name_if_any, Texts.is_name, declared.codes.PartnerKind.PartnerKind}
use Rattle.edi_messages.specs.declared.codes.PartnerKind.TheVariants.{Gate, Line, Quay, Yard}
use Rattle.box6346.{specs.{SlotName.{slot_of, slot_text}, declared.slot.Slot.Slot}, proofs.SlotNames.names_are_read_again_lem}
use Rattle.terminal_core.specs.{declared.visits.Departure.Departure, declared.change.Source.Source, Forms.{IsSource, IsFormedExit, IsFormedVisit}}
use Rattle.terminal_core.specs.{Rows.VisitContent, State.{AreNumbered, last_from, side_code}, declared.lines.LineState.LineState, declared.visits.Way.Way}
use Rattle.terminal_core.{specs.declared.lines.LineState.TheVariants.{Pending, Done}, proofs.Open.last_highest}
use Rattle.yard_core.specs.{declared.plan.Block.Block, Plan.{IsSized, AreApart}}
use Rattle.office_admission.specs.Given.{is_party_byte, is_party_code}
use Rattle.office_rows.proofs.Reading as texts
use Rattle.office_rows.proofs.BareReading as bare_texts
use Rattle.terminal_core.specs.declared.visits.Way.TheVariants as way

-- ==== ListedLemmas: What the query of the settings shows under any schema.

-- ---- no settings

setting_unlisted : table_named listing_schema (codes "setting") ≡ None
unfolding listing_schema same_name
setting_unlisted = refl

of_settings : (parsed : Checked Parsed) → SelectsSettings parsed → ParsedAs IsOfSettings parsed
of_settings (Ok p) it = it.0
of_settings (Err e) none = absurd none

-- where there are none, the query isn't understood
pub setting_missing : (schema : Schema) → HasNoSettings schema → (e : CompileError) × (understood schema select_setting ≡ Err e)
unfolding listing_schema
setting_missing schema (inl none) = (NoSuchTable, not_understood (codes "setting") setting_unlisted refl schema none.no_table none.no_view select_setting setting_one)
setting_missing schema (inr it) = (NoSuchColumn, lacking_fails schema it.at it.table it.named it.there it.lacks select_setting (of_settings (first select_setting) setting_selects))

-- and what isn't understood shows nothing
pub never_shown : (sql : List ℕ) (params : Row) (old new : State) (rows : List Row) (e : CompileError) → understood old.now.schema sql ≡ Err e → ¬ Shown sql params old new rows
unfolding Shown
never_shown sql params old new rows e fails h = absurd (let is = sym fails ∙ h.1.is in cc)

-- ---- a table of the name, with its columns first

seen : (trees : Trees) (tree : ℕ) → overlay trees [] tree ≡ trees tree
seen trees tree = elim (cases_Bool (nat_le (2 ^ 31) tree)) [ inl high ↦ rw high refl | inr low ↦ rw low refl ]

abbrev shown : List Term
shown = select_setting_shown

abbrev order : List (Term × Key)
order = select_setting_order

module _ (old new : State) (tree : ℕ) (has : HasSettings old.now.schema tree) (answer : List Row) where
  table_is : has.table ≡ with_settings has.table has.more
  table_is = ap₂ (λ columns key. record has.table { columns = columns; key = key }) has.columns has.no_rowid

  shows_in : (n : ℕ) → has.table.tree ≡ n → Shown select_setting [] old new answer → ShowsTable (setting_in n) (0 ∷ 1 ∷ []) (0 ∷ []) old.now answer
  unfolding Shown
  shows_in n tree_is h =
      let there = has.there ∙ ap Some table_is in
      let runs : RunsSettings n h.0 = subst (λ m. RunsSettings m h.0) tree_is (understands_settings old.now.schema has.at has.table has.more has.named there select_setting setting_selects h.0 h.1.is) in
      let plain : IsPlain (understood old.now.schema select_setting) = subst IsPlain (sym h.1.is) (runs.returning, runs.formats) in
      let is : command_of (understood old.now.schema select_setting) ≡ settings_command n = ap command_of h.1.is ∙ runs.command in
      let read = reads_as select_setting [] old new old.now.schema refl (settings_command n) is plain (unlisted old.now.schema has.at has.table has.more has.named there select_setting setting_selects) answer h in
      let stored = old.now.trees n in
      let table = setting_in n in
      let key : List ℕ = 0 ∷ [] in
      let keyed : Row → Output = λ r. (eval_all (map (λ (k : Term × Key). k.0) order) ([] ∷ r ∷ []), eval_all shown ([] ∷ r ∷ [])) in
      let given = answer_in_order [] [] n shown order old.now.trees answer (seen old.now.trees n) (read.answer Null) in
      let all : filter (passes [] []) stored ≡ stored = filter_all _ stored (all_of _ (λ r. refl) stored) in
      let placed = unmapped keyed stored (read.answer Null).ordered (subst (λ l. IsPermutation (map keyed l) (read.answer Null).ordered) all given.0) in
      let lt : Output → Output → Bool = λ x y. is_lt (key_cmp 0 (map (λ (k : Term × Key). k.1) order) x.0 y.0) in
      let less : Row → Row → Bool = λ x y. is_lt (key_cmp 0 (map (λ (n : ℕ). ascending Binary) key) (columns_at key x) (columns_at key y)) in
      let sorted : IsSortedBy lt (map keyed placed.0) = subst (IsSortedBy lt) placed.2 given.1 in
      record {
        by_key = map (columns_of table) placed.0;
        same = IsPermutation-map (columns_of table) _ _ placed.1;
        ordered = sorted_as keyed (columns_of table) lt less (λ x y. refl) placed.0 sorted;
        is = given.2 ∙ ap (map (λ (o : Output). o.1)) placed.2 ∙ map-map (λ (o : Output). o.1) keyed placed.0 ∙ sym (map-map (columns_at (0 ∷ 1 ∷ [])) (columns_of table) placed.0);
      }

  pub lists_settings : Shown select_setting [] old new answer → ShowsTable (setting_in tree) (0 ∷ 1 ∷ []) (0 ∷ []) old.now answer
  lists_settings = shows_in tree has.tree_is

-- ==== RowidLemmas: Rows in the order of their numbers are the rows as they stand.

-- the order of ORDER BY rowid
abbrev pub rowid_cmp : Output → Output → Ordering
rowid_cmp = on (λ (o : Output). o.0) (key_cmp 0 (ascending Binary ∷ []))

none_total : IsTotalOrder (λ (a b : Row). Equal)
none_total = record { antisymm = λ x y. refl; trans = λ x y z p q. p; congr = λ x y z p. refl }

rowid_total : IsTotalOrder rowid_cmp
rowid_total = on_total (λ (o : Output). o.0) (then_total (on_total (λ (r : Row). column r 0) value_cmp_total) none_total)

module _ (show : Row → Row) where
  -- the row's number, and what it shows
  abbrev pub keyed : Row → Output
  keyed row = (rowid row ∷ [], show row)

  less_keyed : (a b : Row) → value_cmp (rowid a) (rowid b) ≡ Less → rowid_cmp (keyed a) (keyed b) ≡ Less
  less_keyed a b less = rw less refl

  not_greater : (a b : Output) → rowid_cmp a b ≡ Less → is_gt (rowid_cmp a b) ≡ false
  not_greater a b less = rw less refl

  pub in_order : (rows : List Row) (ordered : List Output) → IsTable rows → IsPermutation (map keyed rows) ordered → IsSorted rowid_cmp ordered → map keyed rows ≡ ordered
  in_order rows ordered up same sorted =
      let all = map keyed rows in
      let rising : IsAscending (λ a b. rowid_cmp a b ≡ Less) all = ascending-map _ keyed rows (ascending_weaker _ _ less_keyed rows up) in
      one_order rowid_cmp rowid_total all ordered (ascending_weaker _ _ not_greater all rising) (ascending_from_sorted rowid_cmp rowid_total ordered sorted)
      (λ f. sym (sum_by-IsPermutation f all ordered same))
      (λ x y here there tied. rising_ties rowid_cmp rowid_total all rising x y here
      (has_contained all y (Contains-permutation _ _ y (IsPermutation-sym _ _ same) (contains_had ordered y there))) tied)

-- ==== AnswerLemmas: From the rows that a query shows, one at a time, to the records of a table.

-- a query shows these, and more after them
abbrev pub GoesOn : List ℕ → State → State → Type 0
GoesOn sql old new = (first : List Row) → Begins sql [] old first → IsUnchanged old new → (tail : List Row) × Shown sql [] old new (first ++ tail)

pub whole_answer : (sql : List ℕ) (old new : State) (schema : Schema) → old.now.schema ≡ schema → (body : Query) (names : List (List ℕ))
    → command_of (understood schema sql) ≡ Select (record { lets = []; body = body }) names → GoesOn sql old new
whole_answer sql old new schema has body names is first begins same =
    begins_shown sql [] old new first begins same (λ c db it source.
    let command : c.command ≡ Select (record { lets = []; body = body }) names = ap command_of (sym it.is ∙ ap (λ s. understood s sql) has) ∙ is in
    subst (λ k. EndsIn k db (timed [] c.formats it.now)) (sym command) tt)

pub whole_interchange : (old new : State) (layout : Layout) → old.now.schema ≡ schema_in layout → GoesOn texts.select_interchange old new
whole_interchange old new bare has = whole_answer texts.select_interchange old new bare_schema has _ _ bare_texts.select_interchange_is.0
whole_interchange old new weighed has = whole_answer texts.select_interchange old new office_schema has _ _ texts.select_interchange_is.0

pub whole_listed : (old new : State) (layout : Layout) → old.now.schema ≡ schema_in layout → GoesOn texts.select_listed old new
whole_listed old new bare has = whole_answer texts.select_listed old new bare_schema has _ _ bare_texts.select_listed_is.0
whole_listed old new weighed has = whole_answer texts.select_listed old new office_schema has _ _ texts.select_listed_is.0

has_front : {X : Type 0} (xs ys : List X) (x : X) → Has xs x → Has (xs ++ ys) x
has_front [] ys x has = absurd has
has_front (z ∷ xs) ys x (inl same) = inl same
has_front (z ∷ xs) ys x (inr later) = inr (has_front xs ys x later)

module _ {X : Type 0} (Z : Type 0) (says : Row → X → Type 0) (is_said : Row → Type 0) (sql : List ℕ) (old new : State) (whole : GoesOn sql old new)
    (Shows : List Row → Type 0) (lists : (answer : List Row) → Shown sql [] old new answer → Shows answer)
    (Reads : Result (Vec X Z) TableFault → Type 0)
    (decoded : (answer : List Row) → Shows answer → (result : Result (Vec X Z) TableFault) → DecodesAll says is_said answer result → Reads result)
    (failed : (fault : TableFault) → IsOfStore fault → Reads (Err fault)) where
  pub from_shown : (result : Result (Vec X Z) TableFault) → ReadsShown says is_said sql old new result → Reads result
  from_shown (Ok read) h = decoded h.0 (lists h.0 h.1) (Ok read) h.2
  from_shown (Err Damaged) h =
      let more = whole h.0 h.1 h.2 in
      let answer = h.0 ++ more.0 in
      decoded answer (lists answer more.1) (Err Damaged) (h.3, contains_had answer h.3 (has_front h.0 more.0 h.3 (has_contained h.0 h.3 h.4)), h.5)
  from_shown (Err Memory) h = failed Memory h
  from_shown (Err Version) h = absurd h
  from_shown (Err (Store error)) h = failed (Store error) h

-- ==== FitLemmas: The rows of an office fit the types of a row.

-- ---- texts

ascii_from : (p : ℕ → Bool) → ((c : ℕ) → p c ≡ true → c < 128) → (text : List ℕ) → list_all p text ≡ true → IsAscii text
ascii_from p small [] all i = omega arith
ascii_from p small (c ∷ cs) all zero = small c (and_parts (p c) (list_all p cs) all).0
ascii_from p small (c ∷ cs) all (suc i) = ascii_from p small cs (and_parts (p c) (list_all p cs) all).1 i

pub utf8_from : (p : ℕ → Bool) → ((c : ℕ) → p c ≡ true → c < 128) → (text : List ℕ) → list_all p text ≡ true → IsUtf8 text
utf8_from p small text all = IsUtf8-from_ascii text (ascii_from p small text all)

pub party_small : (c : ℕ) → is_party_byte c ≡ true → c < 128
party_small c h = grind (arith, nat_tests)

pub printable_small : (c : ℕ) → is_printable c ≡ true → c < 128
printable_small c h = grind (arith, nat_tests)

pub party_text : (code : List ℕ) → IsTrue (is_party_code code) → IsUtf8 code
party_text code h = utf8_from is_party_byte party_small code (and_parts _ _ h).1

pub name_text : (text : List ℕ) → IsTrue (is_name text) → IsUtf8 text
name_text text h = utf8_from is_printable printable_small text (and_parts _ _ h).1

second_of : (a b : Bool) → a ≡ false → (a || b) ≡ true → b ≡ true
second_of true b none h = absurd cc
second_of false b none h = h

long : (c : ℕ) (cs : List ℕ) → (length (c ∷ cs) == 0) ≡ false
long c cs = grind (arith, nat_tests)

pub any_name_text : (text : List ℕ) → IsTrue (is_name_if_any text) → IsUtf8 text
any_name_text [] h = IsUtf8-nil
any_name_text (c ∷ cs) h = name_text (c ∷ cs) (second_of (length (c ∷ cs) == 0) (is_name (c ∷ cs)) (long c cs) h)

-- ---- accounts

pub partners_fit : (id : ℕ) (partners : List Partner) (accounts : List (List ℕ × PartnerKind)) → AreAccounts id partners accounts → id + length accounts ≤ 1000
    → ((k : ℕ) (d : List ℕ × PartnerKind) → k < length accounts → IsTrue (is_party_code (slice_index_or accounts k d).0)) → AllByRecursion FitsPartner partners
partners_fit id [] [] are few coded = tt
partners_fit id [] (a ∷ accounts) are few coded = absurd are
partners_fit id (p ∷ partners) [] are few coded = absurd are
partners_fit id (p ∷ partners) (a ∷ accounts) are few coded =
    let is = are.0 in
    let high = are.4 in
    let code = subst IsUtf8 (sym are.1) (party_text a.0 (coded 0 a (omega arith))) in
    (record { id = omega arith; code = code; next = omega arith }, partners_fit (id + 1) partners accounts are.5 (omega arith) (λ k d low. coded (suc k) d (omega arith)))

-- ---- interchanges

pub numbers_fit : (count partner number : ℕ) (numbers : List NumberKept) → count ≤ 999 → AreInOrder count partner number numbers → AllByRecursion FitsNumber numbers
numbers_fit count partner number [] few order = tt
numbers_fit count partner number (n ∷ numbers) few order =
    let within : n.partner ≤ count = order.0.1 in
    let high : n.number ≤ 999999999 = order.0.2 in
    (record { partner = omega arith; number = omega arith }, numbers_fit count n.partner n.number numbers few order.1)

-- ---- blocks

pub blocks_fit : (blocks : List Block) → ((k : ℕ) (d : Block) → k < length blocks → IsSized (slice_index_or blocks k d)) → AllByRecursion FitsBlock blocks
blocks_fit [] sized = tt
blocks_fit (b ∷ blocks) sized =
    let one = sized 0 b (omega arith) in
    (record { bays = omega (arith, one); rows = omega (arith, one); tiers = omega (arith, one) }, blocks_fit blocks (λ k d low. sized (suc k) d (omega arith)))

-- ---- visits

source_fit : (source : Source) → IsSource source → FitsSource source
source_fit source is = record { partner = omega (arith, is.partner_high); number = omega (arith, is.number_high) }

exit_fit : (exit : Option Departure) → IsFormedExit exit → FitsExit exit
exit_fit None is = tt
exit_fit (Some departure) is = record { source = source_fit departure.source is.source; moment = read_back departure.moment is.moment }

pub visit_fit : (visit : VisitContent) → visit.number < 2 ^ 32 → IsFormedVisit visit → FitsVisit visit
visit_fit visit small is = record {
  number = small;
  container = is.container;
  size_type = is.size_type;
  booking = any_name_text visit.booking is.booking;
  arrival = record { source = source_fit visit.arrival.source is.source; moment = read_back visit.arrival.moment is.moment; slot = names_are_read_again_lem visit.arrival.slot is.slot };
  exit = exit_fit visit.departure is.exit;
  kilos = omega (arith, is.kilos);
}

pub visits_fit : (above : ℕ) (visits : List VisitContent) → AreNumbered above visits → last_from above visits ≤ 999999999 → AllByRecursion IsFormedVisit visits → AllByRecursion FitsVisit visits
visits_fit above [] numbered within formed = tt
visits_fit above (v ∷ visits) numbered within formed =
    let last : last_from v.number visits ≤ 999999999 = within in
    let highest = last_highest v.number visits numbered.1 in
    let small : v.number < 2 ^ 32 = omega (arith, last, highest) in
    (visit_fit v small formed.0, visits_fit v.number visits numbered.1 within formed.1)

-- ==== RowLemmas: The rows of an office have keys that differ, and say what their columns say.

-- ---- codes

kind_is : (a b : PartnerKind) → kind_code a ≡ kind_code b → a ≡ b
kind_is Gate Gate h = refl
kind_is Gate Line h = absurd cc
kind_is Gate Quay h = absurd cc
kind_is Gate Yard h = absurd cc
kind_is Line Gate h = absurd cc
kind_is Line Line h = refl
kind_is Line Quay h = absurd cc
kind_is Line Yard h = absurd cc
kind_is Quay Gate h = absurd cc
kind_is Quay Line h = absurd cc
kind_is Quay Quay h = refl
kind_is Quay Yard h = absurd cc
kind_is Yard Gate h = absurd cc
kind_is Yard Line h = absurd cc
kind_is Yard Quay h = absurd cc
kind_is Yard Yard h = refl

way_is : (a b : Way) → way_code a ≡ way_code b → a ≡ b
way_is way.Gate way.Gate h = refl
way_is way.Gate way.Ship h = absurd cc
way_is way.Ship way.Gate h = absurd cc
way_is way.Ship way.Ship h = refl

laden_is : (a b : Bool) → laden_code a ≡ laden_code b → a ≡ b
laden_is true true h = refl
laden_is true false h = absurd cc
laden_is false true h = absurd cc
laden_is false false h = refl

state_is : (a b : LineState) → state_code a ≡ state_code b → a ≡ b
state_is Pending Pending h = refl
state_is Pending Done h = absurd cc
state_is Done Pending h = absurd cc
state_is Done Done h = refl

slot_is : (a b : Slot) → IsSlot a → IsSlot b → slot_text a ≡ slot_text b → a ≡ b
slot_is a b p q same = let e : Some a ≡ Some b = sym p ∙ ap slot_of same ∙ q in cc

moment_is : (a b : CivilMoment) → IsMoment a → IsMoment b → moment_digits a ≡ moment_digits b → a ≡ b
moment_is a b p q same = let e : Some a ≡ Some b = sym p ∙ ap moment_of same ∙ q in cc

-- ---- what columns say

pub one_partner : (x y : Partner) → FitsPartner x → FitsPartner y → partner_values x ≡ partner_values y → x ≡ y
one_partner x y p q same =
    let id : x.id ≡ y.id = cc in
    let code : x.code ≡ y.code = cc in
    let kind : kind_code x.kind ≡ kind_code y.kind = cc in
    let next : x.next ≡ y.next = cc in
    let k = kind_is x.kind y.kind kind in
    λ i. record { id = id i; code = code i; kind = k i; next = next i }

pub one_setting : (x y : Setting) → FitsSetting x → FitsSetting y → setting_values x ≡ setting_values y → x ≡ y
one_setting x y p q same =
    let name : x.name ≡ y.name = cc in
    let value : x.value ≡ y.value = cc in
    λ i. record { name = name i; value = value i }

pub one_block : (x y : Block) → FitsBlock x → FitsBlock y → block_values x ≡ block_values y → x ≡ y
one_block x y p q same =
    let letter : x.letter ≡ y.letter = cc in
    let bays : x.bays ≡ y.bays = cc in
    let rows : x.rows ≡ y.rows = cc in
    let tiers : x.tiers ≡ y.tiers = cc in
    λ i. record { letter = letter i; bays = bays i; rows = rows i; tiers = tiers i }

pub one_place : (x y : PlaceContent) → FitsPlace x → FitsPlace y → place_values x ≡ place_values y → x ≡ y
one_place x y p q same =
    let container : x.container ≡ y.container = cc in
    let visit : x.visit ≡ y.visit = cc in
    let text : slot_text x.slot ≡ slot_text y.slot = cc in
    let slot = slot_is x.slot y.slot p.slot q.slot text in
    λ i. record { container = container i; visit = visit i; slot = slot i }

pub one_line : (x y : ListingContent) → FitsLine x → FitsLine y → line_values x ≡ line_values y → x ≡ y
one_line x y p q same =
    let vessel : x.call.vessel ≡ y.call.vessel = cc in
    let voyage : x.call.voyage ≡ y.call.voyage = cc in
    let side_same : side_code x.side ≡ side_code y.side = cc in
    let container : x.container ≡ y.container = cc in
    let port : x.port ≡ y.port = cc in
    let state_same : state_code x.state ≡ state_code y.state = cc in
    let side = side_is x.side y.side side_same in
    let state = state_is x.state y.state state_same in
    λ i. record { call = record { vessel = vessel i; voyage = voyage i }; side = side i; container = container i; port = port i; state = state i }

no_way : (w : Way) → 0 ≡ way_code w → ⊥
no_way way.Gate h = absurd cc
no_way way.Ship h = absurd cc

exit_is : (a b : Option Departure) → FitsExit a → FitsExit b → exit_values a ≡ exit_values b → a ≡ b
exit_is None None p q same = refl
exit_is None (Some b) p q same = absurd (no_way b.way (let e : 0 ≡ way_code b.way = cc in e))
exit_is (Some a) None p q same = absurd (no_way a.way (let e : 0 ≡ way_code a.way = cc in e))
exit_is (Some a) (Some b) p q same =
    let code : way_code a.way ≡ way_code b.way = cc in
    let partner : a.source.partner ≡ b.source.partner = cc in
    let n : a.source.number ≡ b.source.number = cc in
    let digits : moment_digits a.moment ≡ moment_digits b.moment = cc in
    let w = way_is a.way b.way code in
    let moment = moment_is a.moment b.moment p.moment q.moment digits in
    λ i. Some (record { way = w i; source = record { partner = partner i; number = n i }; moment = moment i })

pub one_visit : (x y : VisitContent) → FitsVisit x → FitsVisit y → visit_values x ≡ visit_values y → x ≡ y
one_visit x y p q same =
    let n : x.number ≡ y.number = cc in
    let container : x.container ≡ y.container = cc in
    let size_type : x.size_type ≡ y.size_type = cc in
    let laden : laden_code x.is_laden ≡ laden_code y.is_laden = cc in
    let booking : x.booking ≡ y.booking = cc in
    let code : way_code x.arrival.way ≡ way_code y.arrival.way = cc in
    let partner : x.arrival.source.partner ≡ y.arrival.source.partner = cc in
    let from : x.arrival.source.number ≡ y.arrival.source.number = cc in
    let digits : moment_digits x.arrival.moment ≡ moment_digits y.arrival.moment = cc in
    let text : slot_text x.arrival.slot ≡ slot_text y.arrival.slot = cc in
    let exits : exit_values x.departure ≡ exit_values y.departure = cc in
    let kilos : x.kilos ≡ y.kilos = cc in
    let is_laden = laden_is x.is_laden y.is_laden laden in
    let w = way_is x.arrival.way y.arrival.way code in
    let moment = moment_is x.arrival.moment y.arrival.moment p.arrival.moment q.arrival.moment digits in
    let slot = slot_is x.arrival.slot y.arrival.slot p.arrival.slot q.arrival.slot text in
    let exit = exit_is x.departure y.departure p.exit q.exit exits in
    λ i. record {
      number = n i;
      container = container i;
      size_type = size_type i;
      is_laden = is_laden i;
      booking = booking i;
      arrival = record { way = w i; source = record { partner = partner i; number = from i }; moment = moment i; slot = slot i };
      departure = exit i;
      kilos = kilos i;
    }

-- ---- keys that differ

low_id : (id : ℕ) (partners : List Partner) (accounts : List (List ℕ × PartnerKind)) (x : Partner) → AreAccounts id partners accounts → Has partners x → id ≤ x.id
low_id id [] [] x are has = absurd has
low_id id [] (a ∷ accounts) x are has = absurd has
low_id id (p ∷ partners) [] x are has = absurd are
low_id id (p ∷ partners) (a ∷ accounts) x are (inl same) = let e : x.id ≡ p.id = ap (λ (r : Partner). r.id) same in omega (arith, are.0)
low_id id (p ∷ partners) (a ∷ accounts) x are (inr later) = omega (arith, low_id (id + 1) partners accounts x are.5 later)

pub ids_differ : (id : ℕ) (partners : List Partner) (accounts : List (List ℕ × PartnerKind)) (x y : Partner) → AreAccounts id partners accounts → Has partners x → Has partners y → x.id ≡ y.id → x ≡ y
ids_differ id [] [] x y are p q same = absurd p
ids_differ id [] (a ∷ accounts) x y are p q same = absurd p
ids_differ id (r ∷ partners) [] x y are p q same = absurd are
ids_differ id (r ∷ partners) (a ∷ accounts) x y are (inl p) (inl q) same = p ∙ sym q
ids_differ id (r ∷ partners) (a ∷ accounts) x y are (inl p) (inr q) same = absurd (let e : x.id ≡ r.id = ap (λ (s : Partner). s.id) p in omega (arith, are.0, low_id (id + 1) partners accounts y are.5 q))
ids_differ id (r ∷ partners) (a ∷ accounts) x y are (inr p) (inl q) same = absurd (let e : y.id ≡ r.id = ap (λ (s : Partner). s.id) q in omega (arith, are.0, low_id (id + 1) partners accounts x are.5 p))
ids_differ id (r ∷ partners) (a ∷ accounts) x y are (inr p) (inr q) same = ids_differ (id + 1) partners accounts x y are.5 p q same

low_number : (above : ℕ) (visits : List VisitContent) (x : VisitContent) → AreNumbered above visits → Has visits x → above < x.number
low_number above [] x are has = absurd has
low_number above (v ∷ visits) x are (inl same) = let e : x.number ≡ v.number = ap (λ (r : VisitContent). r.number) same in omega (arith, e, are.0)
low_number above (v ∷ visits) x are (inr later) = let beyond = low_number v.number visits x are.1 later in omega (arith, beyond, are.0)

pub visits_differ : (above : ℕ) (visits : List VisitContent) (x y : VisitContent) → AreNumbered above visits → Has visits x → Has visits y → x.number ≡ y.number → x ≡ y
visits_differ above [] x y are p q same = absurd p
visits_differ above (v ∷ visits) x y are (inl p) (inl q) same = p ∙ sym q
visits_differ above (v ∷ visits) x y are (inl p) (inr q) same = absurd (let e : x.number ≡ v.number = ap (λ (r : VisitContent). r.number) p in omega (arith, e, same, low_number v.number visits y are.1 q))
visits_differ above (v ∷ visits) x y are (inr p) (inl q) same = absurd (let e : y.number ≡ v.number = ap (λ (r : VisitContent). r.number) q in omega (arith, e, same, low_number v.number visits x are.1 p))
visits_differ above (v ∷ visits) x y are (inr p) (inr q) same = visits_differ v.number visits x y are.1 p q same

got : {X : Type 0} (xs : List X) (x : X) → Has xs x → (i : ℕ) × (slice_get xs i ≡ Some x)
got [] x has = absurd has
got (y ∷ xs) x (inl same) = (0, ap Some (sym same))
got (y ∷ xs) x (inr later) = let r = got xs x later in (suc r.0, r.1)

pub blocks_differ : (blocks : List Block) (x y : Block) → AreApart blocks → Has blocks x → Has blocks y → x.letter ≡ y.letter → x ≡ y
blocks_differ blocks x y apart p q same =
    let i = got blocks x p in
    let j = got blocks y q in
    let at : i.0 ≡ j.0 = apart i.0 j.0 x y i.1 j.1 same in
    let e : Some x ≡ Some y = sym i.1 ∙ ap (slice_get blocks) at ∙ j.1 in
    cc
