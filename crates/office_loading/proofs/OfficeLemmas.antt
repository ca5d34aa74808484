-- The rows of an office can be read, and in one way.
use Rattle.std.specs.{Prelude.IsUtf8, List.{AllByRecursion, list_all}, Ordering.{nat_cmp, ordering_then}, Cmp.Lexicographic.slice_cmp}
use Rattle.std.proofs.Common.{◌≡◌, ℕ, ◌<◌, ◌^◌, true, List, [], ◌∷◌, map, None, decimal, inl, inr, refl, ◌∙◌, arith, Less, Equal, suc, ◌+◌, ◌≤◌, length, Contains, sym, ap, ap₂, subst}
use Rattle.std.proofs.{lemmas.Bool.{and_parts, cases_Bool}, lemmas.Bool.Decides.nat_tests, lemmas.Str.IsUtf8-from_ascii, lemmas.Fmt.IsAscii-decimal}
use Rattle.sqlite_value.{specs.Order.value_cmp, proofs.OrderLemmas.{value_cmp-Text, then-Equal}}
use Rattle.edi_syntax.specs.Characters.{is_printable, is_tag_byte}
use Rattle.edi_messages.specs.{CodeText.{is_code, table_fault}, Codes.table_texts, declared.codes.PartnerKind.PartnerKind}
use Rattle.sqlite.specs.{declared.types.Value.TheVariants.Text, Effect.Database}
use Rattle.sqlite_trees.specs.Tree.{IsAscending}
use Rattle.sqlite_rules.{specs.Lists.Has, proofs.ListLemmas.{has_contained, contains_had}}
use Rattle.office_admission.specs.{Setups.SetupContent, Given.IsGiven}
use Rattle.terminal_core.specs.{declared.change.Version.Version, declared.change.Version.TheVariants.{First, Second, Third}, Forms.IsFormedVisit}
use Rattle.terminal_core.specs.{Changes.{TerminalRows, standing_of}, Rows.VisitContent, State.{TerminalState, last_from}}
use Rattle.terminal_core.specs.declared.restoring.RestoreFault.{RestoreFault}
use Rattle.office_rows.specs.{Rows.{Setting, Partner, Interchange}, Opening.{version_text, setting_row, tables_version}, Office.{settings_by_name, AreAccounts}}
use Rattle.office_rows.specs.{Values.{setting_values, partner_values, visit_values, place_values, line_values, block_values}, ByKey.{standing_by, lines_by}}
use Rattle.office_rows.specs.Opened.{number_kept, reply_values, OpenedRows, Shows}
use Rattle.office_loading.specs.{Fits.{FitsSetting, FitsPartner, FitsVisit, FitsPlace, FitsLine, FitsBlock}, Closed.{ClosedContent, nothing_closed}}
use Rattle.office_loading.{specs.{OwnOffice.IsOwnOffice, Refusals.RefusesTables}, proofs.LackingLemmas.{rising_ties, all_in, all_from, interchanges_differ}}
use Rattle.office_loading.specs.Tables.{FitsRows, FailsTables, FailsToLoad, FailsToLoadOwn, Loads, LoadsOwn, ShowsNoOffice, ShowsNoOwnOffice, ShowsUnfit, HasVersion, fault_of_restoring}
use Rattle.office_loading.proofs.VersionLemmas.{keys_cmp, keys_total, mapped_has, fails_weaker, number_tied, text_tied, one_showing, one_reading}
use Rattle.office_loading.proofs.RowLemmas.{utf8_from, printable_small, party_text, partners_fit, numbers_fit, blocks_fit, visits_fit, one_partner, one_visit, one_place, one_line, one_setting, one_block, ids_differ, visits_differ, blocks_differ}
use Rattle.office_loading.proofs.{Offices.{own_office, whole_office}, WaitingQuery.{place_fits, places_differ, line_fits, lines_differ}}
use Rattle.box6346.specs.declared.box_number.BoxNumber.{BoxNumber}
use Rattle.office_tables.specs.{declared.table_fault.TableFault.TableFault, Faults.IsOfStoreOr}
use Rattle.terminal_core.specs.declared.restoring.RestoreFault.TheVariants as restoring
use Rattle.office_rows.specs.Tables as table

-- ==== SettingLemmas: The settings of an office.

tag_small : (c : ℕ) → is_tag_byte c ≡ true → c < 128
tag_small c h = grind (arith, nat_tests)

code_text : (text : List ℕ) → is_code text ≡ true → IsUtf8 text
code_text text h = utf8_from is_tag_byte tag_small text (and_parts _ _ h).1

coded : (texts : List (List ℕ)) → table_fault texts ≡ None → list_all is_code texts ≡ true
coded texts h = elim (cases_Bool (list_all is_code texts)) [
  | inl all ↦ all
  | inr some ↦ absurd (let e = rw some at h in cc)
]

named : (name value : List ℕ) → list_all is_printable name ≡ true → IsUtf8 value → FitsSetting (setting_row name value)
named name value plain is = record { name = utf8_from is_printable printable_small name plain; value = is }

pub settings_fit : (content : SetupContent) → IsGiven content → AllByRecursion FitsSetting (settings_by_name content)
settings_fit content given =
    let a = and_parts _ _ (coded (table_texts content.codes) given.codes) in
    let b = and_parts _ _ a.1 in
    let d = and_parts _ _ b.1 in
    let e = and_parts _ _ d.1 in
    let f = and_parts _ _ e.1 in
    let h = and_parts _ _ f.1 in
    let k = and_parts _ _ h.1 in
    let limit : content.visit_limit < 2 ^ 64 = omega (arith, given.limit.1) in (
      named _ _ refl (code_text _ e.0),
      (
        named _ _ refl (code_text _ h.0),
        (
          named _ _ refl (code_text _ a.0),
          (
            named _ _ refl (code_text _ b.0),
            (
              named _ _ refl (code_text _ f.0),
              (
                named _ _ refl (code_text _ k.0),
                (
                  named _ _ refl (party_text content.terminal given.terminal),
                  (
                    named _ _ refl (utf8_from is_printable printable_small tables_version refl),
                    (
                      named _ _ refl (IsUtf8-from_ascii (decimal content.visit_limit) (IsAscii-decimal content.visit_limit limit)),
                      (
                        named _ _ refl (code_text _ d.0),
                        tt,
                      ),
                    ),
                  ),
                ),
              ),
            ),
          ),
        ),
      ),
    )

name_below : (s t : List ℕ) → slice_cmp nat_cmp s t ≡ Less → ordering_then (value_cmp (Text s) (Text t)) Equal ≡ Less
name_below s t less = then-Equal _ ∙ value_cmp-Text s t ∙ less

rising : (content : SetupContent) → IsAscending (λ a b. keys_cmp (0 ∷ []) a b ≡ Less) (map setting_values (settings_by_name content))
rising content = ((name_below _ _ refl, (name_below _ _ refl, (name_below _ _ refl, (name_below _ _ refl, (name_below _ _ refl, (name_below _ _ refl, (name_below _ _ refl, (name_below _ _ refl, (name_below _ _ refl, tt))))))))), ((name_below _ _ refl, (name_below _ _ refl, (name_below _ _ refl, (name_below _ _ refl, (name_below _ _ refl, (name_below _ _ refl, (name_below _ _ refl, (name_below _ _ refl, tt)))))))), ((name_below _ _ refl, (name_below _ _ refl, (name_below _ _ refl, (name_below _ _ refl, (name_below _ _ refl, (name_below _ _ refl, (name_below _ _ refl, tt))))))), ((name_below _ _ refl, (name_below _ _ refl, (name_below _ _ refl, (name_below _ _ refl, (name_below _ _ refl, (name_below _ _ refl, tt)))))), ((name_below _ _ refl, (name_below _ _ refl, (name_below _ _ refl, (name_below _ _ refl, (name_below _ _ refl, tt))))), ((name_below _ _ refl, (name_below _ _ refl, (name_below _ _ refl, (name_below _ _ refl, tt)))), ((name_below _ _ refl, (name_below _ _ refl, (name_below _ _ refl, tt))), ((name_below _ _ refl, (name_below _ _ refl, tt)), ((name_below _ _ refl, tt), (tt, tt))))))))))

pub settings_tied : (content : SetupContent) (x y : Setting) → Has (settings_by_name content) x → Has (settings_by_name content) y → keys_cmp (0 ∷ []) (setting_values x) (setting_values y) ≡ Equal → setting_values x ≡ setting_values y
settings_tied content x y p q = rising_ties (keys_cmp (0 ∷ [])) (keys_total (0 ∷ [])) (map setting_values (settings_by_name content)) (rising content) (setting_values x) (setting_values y)
    (mapped_has setting_values (settings_by_name content) x p) (mapped_has setting_values (settings_by_name content) y q)

pub version_utf8 : (version : Version) → IsUtf8 (version_text version)
version_utf8 First = utf8_from is_printable printable_small (version_text First) refl
version_utf8 Second = utf8_from is_printable printable_small (version_text Second) refl
version_utf8 Third = utf8_from is_printable printable_small (version_text Third) refl

-- ==== OfficeLemmas: The rows of an office can be read, and in one way.

pub replies_same : (is js : List Interchange) → map reply_values is ≡ map reply_values js → map number_kept is ≡ map number_kept js
replies_same [] [] same = refl
replies_same [] (j ∷ js) same = absurd cc
replies_same (i ∷ is) [] same = absurd cc
replies_same (i ∷ is) (j ∷ js) same =
    let first : reply_values i ≡ reply_values j = cc in
    let rest : map reply_values is ≡ map reply_values js = cc in
    let partner : i.partner ≡ j.partner = cc in
    let n : i.number ≡ j.number = cc in
    let reply : i.reply ≡ j.reply = cc in
    ap₂ (λ a l. a ∷ l) (λ k. number_kept (record { partner = partner k; number = n k; body = []; reply = reply k })) (replies_same is js rest)

many : (id : ℕ) (partners : List Partner) (accounts : List (List ℕ × PartnerKind)) → AreAccounts id partners accounts → length partners ≡ length accounts
many id [] [] are = refl
many id [] (a ∷ accounts) are = absurd are
many id (p ∷ partners) [] are = absurd are
many id (p ∷ partners) (a ∷ accounts) are = ap suc (many (id + 1) partners accounts are.5)

module _ (closed : ClosedContent) (rows : OpenedRows) (content : SetupContent) (state : TerminalState) (office : IsOwnOffice closed rows content state) where
  visits_are : rows.visits ≡ state.visits
  visits_are = ap (λ (t : TerminalRows). t.visits) office.terminal

  places_are : (container : BoxNumber) → standing_by rows.places container ≡ standing_of state container
  places_are container = ap (λ (t : TerminalRows). t.places container) office.terminal

  lines_are : lines_by rows.lines ≡ state.lines
  lines_are = ap (λ (t : TerminalRows). t.lines) office.terminal

  few : 1 + length content.partners ≤ 1000
  few = omega (arith, office.given.counted.1)

  counted : length rows.partners ≤ 999
  counted = omega (arith, many 1 rows.partners content.partners office.accounts, office.given.counted.1)

  state_visits : AllByRecursion FitsVisit state.visits
  state_visits =
      let limit = office.limit in
      let high = office.given.limit.1 in
      let within : last_from 0 state.visits ≤ state.limit = office.whole.within in
      visits_fit 0 state.visits office.whole.numbered (omega (arith, limit, high, within)) (all_from IsFormedVisit state.visits (λ v has. office.formed.visits v (contains_had state.visits v has)))

  small : (visit : VisitContent) → Contains state.visits visit → visit.number < 2 ^ 32
  small visit there = (all_in FitsVisit state.visits visit state_visits (has_contained state.visits visit there)).number

  pub office_fits : FitsRows rows
  office_fits = record {
    partners = partners_fit 1 rows.partners content.partners office.accounts few (λ k d low. office.given.coded k d low);
    numbers = numbers_fit (length rows.partners) 1 0 rows.numbers counted office.own_numbers.in_order;
    visits = subst (AllByRecursion FitsVisit) (sym visits_are) state_visits;
    places = all_from FitsPlace rows.places (place_fits state rows.places office.whole office.formed small office.placed_once places_are);
    lines = all_from FitsLine rows.lines (line_fits state rows.lines office.formed office.listed_once lines_are);
    settings = subst (AllByRecursion FitsSetting) (sym office.settings) (settings_fit content office.given);
    blocks = subst (AllByRecursion FitsBlock) (sym office.blocks) (blocks_fit content.blocks office.given.plan.sized);
  }

  module _ (db : Database) (shown : Shows db rows) (other : OpenedRows) (that : Shows db other) (fits : FitsRows other) where
    one_partners : rows.partners ≡ other.partners
    one_partners =
        let same = one_showing table.partner_table (0 ∷ 1 ∷ 2 ∷ 3 ∷ []) (0 ∷ []) (λ r. refl) db partner_values rows.partners other.partners shown.partners that.partners (λ x y p q tied.
        ap partner_values (ids_differ 1 rows.partners content.partners x y office.accounts p q (number_tied x.id y.id Equal tied).0)) in
        one_reading table.partner_table (0 ∷ 1 ∷ 2 ∷ 3 ∷ []) (0 ∷ []) (λ r. refl) db partner_values FitsPartner one_partner rows.partners other.partners office_fits.partners fits.partners same

    one_numbers : rows.numbers ≡ other.numbers
    one_numbers =
        let is = shown.numbers.interchanges in
        let js = that.numbers.interchanges in
        let same = one_showing table.interchange_table (0 ∷ 1 ∷ 3 ∷ []) (0 ∷ 1 ∷ []) (λ r. refl) db reply_values is js shown.numbers.shown that.numbers.shown (λ x y p q tied.
        let a = number_tied x.partner y.partner _ tied in
        let b = number_tied x.number y.number Equal a.1 in
        ap reply_values (interchanges_differ (length rows.partners) rows.numbers is office.own_numbers.in_order shown.numbers.are x y p q a.0 b.0)) in
        shown.numbers.are ∙ replies_same is js same ∙ sym that.numbers.are

    one_visits : rows.visits ≡ other.visits
    one_visits =
        let same = one_showing table.visit_table (0 ∷ 1 ∷ 2 ∷ 3 ∷ 4 ∷ 5 ∷ 6 ∷ 7 ∷ 8 ∷ 9 ∷ 10 ∷ 11 ∷ 12 ∷ 13 ∷ 14 ∷ []) (0 ∷ []) (λ r. refl) db visit_values rows.visits other.visits shown.visits that.visits (λ x y p q tied.
        ap visit_values (visits_differ 0 state.visits x y office.whole.numbered (subst (λ l. Has l x) visits_are p) (subst (λ l. Has l y) visits_are q) (number_tied x.number y.number Equal tied).0)) in
        one_reading table.visit_table (0 ∷ 1 ∷ 2 ∷ 3 ∷ 4 ∷ 5 ∷ 6 ∷ 7 ∷ 8 ∷ 9 ∷ 10 ∷ 11 ∷ 12 ∷ 13 ∷ 14 ∷ []) (0 ∷ []) (λ r. refl) db visit_values FitsVisit one_visit rows.visits other.visits office_fits.visits fits.visits same

    one_places : rows.places ≡ other.places
    one_places =
        let same = one_showing table.place_table (0 ∷ 1 ∷ 2 ∷ []) (0 ∷ []) (λ r. refl) db place_values rows.places other.places shown.places that.places (λ x y p q tied.
        ap place_values (places_differ rows.places x y office.placed_once p q (text_tied x.container y.container Equal tied).0)) in
        one_reading table.place_table (0 ∷ 1 ∷ 2 ∷ []) (0 ∷ []) (λ r. refl) db place_values FitsPlace one_place rows.places other.places office_fits.places fits.places same

    one_lines : rows.lines ≡ other.lines
    one_lines =
        let same = one_showing table.listing_table (0 ∷ 1 ∷ 2 ∷ 3 ∷ 4 ∷ 5 ∷ []) (0 ∷ 1 ∷ 2 ∷ 3 ∷ []) (λ r. refl) db line_values rows.lines other.lines shown.lines that.lines (λ x y p q tied.
        let a = text_tied x.call.vessel y.call.vessel _ tied in
        let b = text_tied x.call.voyage y.call.voyage _ a.1 in
        let c = number_tied _ _ _ b.1 in
        let d = text_tied x.container y.container Equal c.1 in
        ap line_values (lines_differ rows.lines x y office.listed_once p q (sym a.0) (sym b.0) (sym c.0) (sym d.0))) in
        one_reading table.listing_table (0 ∷ 1 ∷ 2 ∷ 3 ∷ 4 ∷ 5 ∷ []) (0 ∷ 1 ∷ 2 ∷ 3 ∷ []) (λ r. refl) db line_values FitsLine one_line rows.lines other.lines office_fits.lines fits.lines same

    one_settings : rows.settings ≡ other.settings
    one_settings =
        let same = one_showing table.setting_table (0 ∷ 1 ∷ []) (0 ∷ []) (λ r. refl) db setting_values rows.settings other.settings shown.settings that.settings (λ x y p q tied.
        settings_tied content x y (subst (λ l. Has l x) office.settings p) (subst (λ l. Has l y) office.settings q) tied) in
        one_reading table.setting_table (0 ∷ 1 ∷ []) (0 ∷ []) (λ r. refl) db setting_values FitsSetting one_setting rows.settings other.settings office_fits.settings fits.settings same

    one_blocks : rows.blocks ≡ other.blocks
    one_blocks =
        let same = one_showing table.block_table (0 ∷ 1 ∷ 2 ∷ 3 ∷ []) (0 ∷ []) (λ r. refl) db block_values rows.blocks other.blocks shown.blocks that.blocks (λ x y p q tied.
        let text = (text_tied (x.letter ∷ []) (y.letter ∷ []) Equal tied).0 in
        let letter : x.letter ≡ y.letter = cc in
        ap block_values (blocks_differ content.blocks x y office.given.plan.apart (subst (λ l. Has l x) office.blocks p) (subst (λ l. Has l y) office.blocks q) letter)) in
        one_reading table.block_table (0 ∷ 1 ∷ 2 ∷ 3 ∷ []) (0 ∷ []) (λ r. refl) db block_values FitsBlock one_block rows.blocks other.blocks office_fits.blocks fits.blocks same

    pub office_one : rows ≡ other
    office_one = λ i. record {
      partners = one_partners i;
      numbers = one_numbers i;
      visits = one_visits i;
      places = one_places i;
      lines = one_lines i;
      settings = one_settings i;
      blocks = one_blocks i;
    }

-- ---- faults

pub tables_fail : (closed : ClosedContent) (db : Database) (fault : TableFault) → FailsTables db fault → FailsToLoadOwn closed db fault
tables_fail closed db fault = fails_weaker (HasVersion db) (ShowsUnfit db) (ShowsNoOwnOffice closed db) fault (λ h rows content state shown office. h rows shown (office_fits closed rows content state office))

pub none_shown : (closed : ClosedContent) (db : Database) (other : OpenedRows) → Shows db other → FitsRows other → ((content : SetupContent) (state : TerminalState) → ¬ IsOwnOffice closed other content state) → ShowsNoOwnOffice closed db
none_shown closed db other that fits none rows content state shown = λ office. none content state (subst (λ r. IsOwnOffice closed r content state) (office_one closed rows content state office db shown other that fits) office)

-- what can't be restored isn't loaded
pub restoring_fails : (closed : ClosedContent) (db : Database) (read : OpenedRows) → HasVersion db → Shows db read → FitsRows read → (fault : RestoreFault) → RefusesTables closed read fault → FailsToLoadOwn closed db (fault_of_restoring fault)
restoring_fails closed db read version that fits restoring.Unsound refuses = (version, none_shown closed db read that fits refuses)
restoring_fails closed db read version that fits restoring.Memory refuses = tt

-- it is damage, or memory was refused
pub restoring_tells : (fault : RestoreFault) → IsOfStoreOr (Unit {0}) (fault_of_restoring fault)
restoring_tells restoring.Unsound = tt
restoring_tells restoring.Memory = tt

-- ---- where nothing is closed

pub loads_whole : (db : Database) (content : SetupContent) (state : TerminalState) → LoadsOwn nothing_closed db content state → Loads db content state
loads_whole db content state loads = (loads.0, loads.1, whole_office loads.0 content state loads.2)

pub fails_whole : (db : Database) (fault : TableFault) → FailsToLoadOwn nothing_closed db fault → FailsToLoad db fault
fails_whole db fault =
    fails_weaker (HasVersion db) (ShowsNoOwnOffice nothing_closed db) (ShowsNoOffice db) fault (λ none rows content state shown office. none rows content state shown (own_office rows content state office))
