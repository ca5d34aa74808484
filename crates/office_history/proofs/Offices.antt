-- The rows after deliveries are those of an office.
use Rattle.std.specs.{Prelude.{cond, Contains, codes}, List.Sorted.IsPermutation, Ordering.{nat_cmp, ordering_then}, Cmp.Lexicographic.slice_cmp, Str.bytes_eq}
use Rattle.std.proofs.Common.{◌≡◌, ℕ, ◌+◌, ◌<◌, ◌≤◌, inl, inr, List, [], ◌∷◌, length, map, Bool, false, is_some, refl, sym, ap, subst, ◌∙◌, arith, Ordering, Equal, Greater, is_lt}
use Rattle.std.proofs.{lemmas.Bool.cases_order, lemmas.Bool.Decides.nat_tests, lemmas.List.Sorted.{IsPermutation-refl, sum_by-IsPermutation}}
use Rattle.sqlite.specs.{Effect.Database, declared.types.Value.TheVariants.Text}
use Rattle.sqlite_value.specs.Order.{value_cmp}
use Rattle.partner_core.{specs.{Deliveries.{Delivery, first_text, run}, Machine.Taking, Order.state}, proofs.Orders.{some_of, used_within_run, free_after_run}}
use Rattle.partner_core.proofs.OnceEach.{within_replied}
use Rattle.terminal_core.specs.{Changes.{TerminalRows, rows_of}, Forms.IsWellFormed, OneByOne.GoOneByOne, Rows.VisitContent, State.{TerminalState, IsWhole}}
use Rattle.terminal_core.specs.{Versions.newest, declared.change.Version.Version, declared.change.Version.TheVariants.{First, Second, Third}}
use Rattle.office_replies.specs.Events.{Event}
use Rattle.office_admission.specs.{Given.IsGiven, Setups.SetupContent, Taking.MachineState, Accounts.content_after, Deliveries.deliveries_of}
use Rattle.office_admission.proofs.Adding.{given_after}
use Rattle.office_rows.specs.{Rows.{Partner, Interchange, PlaceContent, ListingContent, Setting, Rows}, Stored.{AreRows, HasRows}, Migrated.migrated_settings}
use Rattle.office_rows.specs.Values.{number_value, partner_values, interchange_values, visit_values, place_values, line_values, setting_values, block_values}
use Rattle.office_rows.specs.{Effects.{stands_for, is_line}, Opened.{number_kept, reply_values, OpenedRows, Shows}, Opening.{version_text, settings_in}}
use Rattle.office_rows.specs.Office.{settings_by_name, AreAccounts, AreKept, HasAccounts, IsOffice}
use Rattle.office_rows.specs.Tables.{partner_table, interchange_table, visit_table, place_table, listing_table, block_table, setting_table as settings_table}
use Rattle.office_history.{specs.After.{SaysSame, accounts_from, machine_after, opening_of, taking_in, AreAfter, AreAfterBy}, proofs.Places.sound_in}
use Rattle.office_history.{specs.Laws.{AreRowsByKey, RowsAreAnOffice, OlderRowsAreAnOffice}, proofs.Accounted.{state_accounted, delivered_within}}
use Rattle.office_history.proofs.{Afters.{state_sound, unreplied}, Ground.state_on_ground, Kept.{accounts_are, Rises}, KeptNumbers.{KeepsNumbers, numbers_kept}}
use Rattle.office_history.proofs.Loads.{accounts_rise, numbered_rise, letter_key, blocks_rise, any_head, places_same, lines_same, one_terminal, one_setup, ShowsSetupAndTerminal, shown_by_office}
use Rattle.office_history.proofs.Runs.{InTurn, is_before, number_order, text_order, shows_records, by_keys}

-- ---- keys in order

pub greater_first : (m n : ℕ) → n < m → nat_cmp m n ≡ Greater
greater_first m n below = grind (arith, nat_tests)

-- a greater number isn't before
pub not_before : (m n : ℕ) (rest : Ordering) → n < m → is_lt (ordering_then (value_cmp (number_value m) (number_value n)) rest) ≡ false
not_before m n rest below = ap (λ o. is_lt (ordering_then o rest)) (number_order m n ∙ greater_first m n below)

-- nor a text of a greater byte
pub not_before_byte : (m n : ℕ) (rest : Ordering) → n < m → is_lt (ordering_then (value_cmp (Text (m ∷ [])) (Text (n ∷ []))) rest) ≡ false
not_before_byte m n rest below = ap (λ o. is_lt (ordering_then o rest)) (text_order (m ∷ []) (n ∷ []) ∙ ap (λ o. ordering_then o Equal) (greater_first m n below))

pub rising_in_turn : {A : Type 0} (key : A → ℕ) (lt : A → A → Bool) → ((x y : A) → key x < key y → lt y x ≡ false) → (low : ℕ) (xs : List A) → Rises key low xs → InTurn lt xs
rising_in_turn key lt after low [] rises = tt
rising_in_turn key lt after low (x ∷ []) rises = (tt, tt)
rising_in_turn key lt after low (x ∷ y ∷ xs) rises = (after x y rises.1.0, rising_in_turn key lt after (key x) (y ∷ xs) rises.1)

-- ---- settings

pub text_after : (s t : List ℕ) → is_lt (ordering_then (slice_cmp nat_cmp s t) Equal) ≡ false → is_lt (ordering_then (value_cmp (Text s) (Text t)) Equal) ≡ false
text_after s t after = ap (λ o. is_lt (ordering_then o Equal)) (text_order s t) ∙ after

-- the setting with that version for the one of the tables
aged_setting : Version → Setting → Setting
aged_setting version s = cond (bytes_eq s.name (codes "version")) (record s { value = version_text version }) s

-- the settings by their names, as a store of that version has them
pub settings_shown : Version → SetupContent → List Setting
settings_shown version content = map (aged_setting version) (settings_by_name content)

newest_shown : (content : SetupContent) → settings_shown newest content ≡ settings_by_name content
unfolding settings_shown aged_setting
newest_shown content = refl

migrated_shown : (version : Version) (content : SetupContent) → migrated_settings (settings_shown version content) ≡ settings_by_name content
unfolding settings_shown aged_setting
migrated_shown First content = refl
migrated_shown Second content = refl
migrated_shown Third content = refl

settings_in_turn : (version : Version) (content : SetupContent) → InTurn (is_before (0 ∷ []) setting_values) (settings_shown version content)
unfolding settings_shown aged_setting
settings_in_turn version content = (
  text_after (codes "discharge-report") (codes "discharge-list") refl,
  (
    text_after (codes "gate-in") (codes "discharge-report") refl,
    (
      text_after (codes "gate-out") (codes "gate-in") refl,
      (
        text_after (codes "load-list") (codes "gate-out") refl,
        (
          text_after (codes "load-report") (codes "load-list") refl,
          (
            text_after (codes "terminal") (codes "load-report") refl,
            (
              text_after (codes "version") (codes "terminal") refl,
              (
                text_after (codes "visits") (codes "version") refl,
                (
                  text_after (codes "yard-move") (codes "visits") refl,
                  (tt, tt),
                ),
              ),
            ),
          ),
        ),
      ),
    ),
  ),
)

-- the settings by their names, as exchanges of two at a time give them, the last first
settings_shuffled : (version : Version) (content : SetupContent) → IsPermutation (settings_in version content) (settings_shown version content)
unfolding settings_shown aged_setting
settings_shuffled version content = record {
  moves = (7, 8) ∷ (6, 8) ∷ (5, 9) ∷ (4, 7) ∷ (3, 4) ∷ (2, 3) ∷ (1, 8) ∷ (0, 6) ∷ [];
  below = (omega arith, omega arith, (omega arith, omega arith, (omega arith, omega arith, (omega arith, omega arith, (omega arith, omega arith, (omega arith, omega arith, (omega arith, omega arith, (omega arith, omega arith, tt))))))));
  is = refl;
}

-- ---- an office

-- the rows, accounts, visits and blocks in the order of their keys, are those of a set-up and of a terminal, in a store of that version
pub record AreOfOffice (version : Version) (content : SetupContent) (runs : ℕ → ℕ) (rows : Rows) (state : TerminalState) : Type 0 where
  pub given : IsGiven content
  pub partners : rows.partners ≡ accounts_from 1 (λ p. runs p + 1) content.partners
  pub high : (p : ℕ) → runs p ≤ 999999999
  pub keeps : KeepsNumbers (length content.partners) runs rows
  pub by_key : AreRowsByKey rows (rows_of state)
  pub settings : IsPermutation rows.settings (settings_shown version content)
  pub blocks : rows.blocks ≡ content.blocks
  pub plan : state.yard.plan ≡ content.blocks
  pub limit : state.limit ≡ content.visit_limit
  pub whole : IsWhole state
  pub one_by_one : GoOneByOne 1 state.visits
  pub formed : IsWellFormed state
  pub accounted : (visit : VisitContent) → Contains state.visits visit → HasAccounts (length content.partners) visit

module _ (version : Version) (content : SetupContent) (runs : ℕ → ℕ) (rows : Rows) (state : TerminalState) (db : Database) (are : AreOfOffice version content runs rows state) (has : AreRows rows db.trees) where
  visits_are : rows.visits ≡ state.visits
  visits_are = ap (λ (r : TerminalRows). r.visits) are.by_key.same

  partners_in_turn : InTurn (is_before (0 ∷ []) partner_values) rows.partners
  partners_in_turn =
      rising_in_turn (λ (p : Partner). p.id) (is_before (0 ∷ []) partner_values) (λ x y below. not_before y.id x.id Equal below) 0 rows.partners
      (subst (Rises (λ (p : Partner). p.id) 0) (sym are.partners) (accounts_rise 1 0 (λ p. runs p + 1) content.partners refl))

  visits_in_turn : InTurn (is_before (0 ∷ []) visit_values) rows.visits
  visits_in_turn =
      rising_in_turn (λ (v : VisitContent). v.number) (is_before (0 ∷ []) visit_values) (λ x y below. not_before y.number x.number Equal below) 0 rows.visits
      (subst (Rises (λ (v : VisitContent). v.number) 0) (sym visits_are) (numbered_rise 0 state.visits are.whole.numbered))

  blocks_in_turn : InTurn (is_before (0 ∷ []) block_values) rows.blocks
  blocks_in_turn =
      rising_in_turn letter_key (is_before (0 ∷ []) block_values) (λ x y below. not_before_byte y.letter x.letter Equal (omega arith)) 0 rows.blocks
      (subst (Rises letter_key 0) (sym are.blocks) (blocks_rise 0 content.blocks are.given.by_letter are.given.plan.apart (any_head content.blocks)))

  abbrev InOrder : {A : Type 0} → (A → A → Bool) → List A → Type 0
  InOrder {A} lt records = (zs : List A) × IsPermutation records zs × InTurn lt zs

  abbrev shown_with : List Interchange → List PlaceContent → List ListingContent → OpenedRows
  shown_with interchanges places lines = record {
    partners = rows.partners;
    numbers = map number_kept interchanges;
    visits = rows.visits;
    places = places;
    lines = lines;
    settings = settings_shown version content;
    blocks = rows.blocks;
  }

  module _ (interchanges : InOrder (is_before (0 ∷ 1 ∷ []) interchange_values) rows.interchanges) (places : InOrder (is_before (0 ∷ []) place_values) rows.places)
      (lines : InOrder (is_before (0 ∷ 1 ∷ 2 ∷ 3 ∷ []) line_values) rows.lines) where
    abbrev shown : OpenedRows
    shown = shown_with interchanges.0 places.0 lines.0

    shows : Shows db shown
    shows = record {
      partners = shows_records partner_table (0 ∷ 1 ∷ 2 ∷ 3 ∷ []) (0 ∷ []) partner_values partner_values rows.partners rows.partners db (λ p. refl) has.partners (IsPermutation-refl rows.partners) partners_in_turn;
      numbers = record {
        interchanges = interchanges.0;
        shown = shows_records interchange_table (0 ∷ 1 ∷ 3 ∷ []) (0 ∷ 1 ∷ []) interchange_values reply_values rows.interchanges interchanges.0 db (λ i. refl) has.interchanges interchanges.1 interchanges.2;
        are = refl;
      };
      visits = shows_records visit_table (0 ∷ 1 ∷ 2 ∷ 3 ∷ 4 ∷ 5 ∷ 6 ∷ 7 ∷ 8 ∷ 9 ∷ 10 ∷ 11 ∷ 12 ∷ 13 ∷ 14 ∷ []) (0 ∷ []) visit_values visit_values rows.visits rows.visits db (λ v. refl) has.visits (IsPermutation-refl rows.visits) visits_in_turn;
      places = shows_records place_table (0 ∷ 1 ∷ 2 ∷ []) (0 ∷ []) place_values place_values rows.places places.0 db (λ p. refl) has.places places.1 places.2;
      lines = shows_records listing_table (0 ∷ 1 ∷ 2 ∷ 3 ∷ 4 ∷ 5 ∷ []) (0 ∷ 1 ∷ 2 ∷ 3 ∷ []) line_values line_values rows.lines lines.0 db (λ l. refl) has.lines lines.1 lines.2;
      settings = shows_records settings_table (0 ∷ 1 ∷ []) (0 ∷ []) setting_values setting_values rows.settings (settings_shown version content) db (λ s. refl) has.settings are.settings (settings_in_turn version content);
      blocks = shows_records block_table (0 ∷ 1 ∷ 2 ∷ 3 ∷ []) (0 ∷ []) block_values block_values rows.blocks rows.blocks db (λ b. refl) has.blocks (IsPermutation-refl rows.blocks) blocks_in_turn;
    }

    office : (settings : List Setting) → settings ≡ settings_by_name content → IsOffice (record shown { settings = settings }) content state
    office settings named = record {
      given = are.given;
      settings = named;
      blocks = are.blocks;
      accounts = subst (λ l. AreAccounts 1 l content.partners) (sym are.partners) (accounts_are 1 runs content.partners are.high);
      kept = subst (λ l. AreKept l (map number_kept interchanges.0)) (sym are.partners) (numbers_kept (length content.partners) runs rows are.keeps content.partners interchanges.0 refl interchanges.1 interchanges.2);
      plan = are.plan;
      limit = are.limit;
      whole = are.whole;
      one_by_one = are.one_by_one;
      formed = are.formed;
      accounted = are.accounted;
      placed_once = λ container. subst (λ n. n ≤ 1) (sym (sum_by-IsPermutation (λ p. cond (stands_for container p) 1 0) rows.places places.0 places.1)) (are.by_key.placed_once container);
      listed_once = λ call side container. subst (λ n. n ≤ 1) (sym (sum_by-IsPermutation (λ l. cond (is_line call side container l) 1 0) rows.lines lines.0 lines.1)) (are.by_key.listed_once call side container);
      terminal = (λ i. record { visits = rows.visits; places = places_same rows.places places.0 are.by_key.placed_once places.1 i; lines = lines_same rows.lines lines.0 are.by_key.listed_once lines.1 i }) ∙ are.by_key.same;
    }

  -- what a database shows of them, the settings brought to the newest version, is that office
  office_shown : (settings : List Setting → List Setting) → settings (settings_shown version content) ≡ settings_by_name content
      → (shown : OpenedRows) × Shows db shown × IsOffice (record shown { settings = settings shown.settings }) content state
  office_shown settings named =
      let interchanges = by_keys (0 ∷ 1 ∷ []) interchange_values rows.interchanges in
      let places = by_keys (0 ∷ []) place_values rows.places in
      let lines = by_keys (0 ∷ 1 ∷ 2 ∷ 3 ∷ []) line_values rows.lines in
      (shown_with interchanges.0 places.0 lines.0, shows interchanges places lines, office interchanges places lines (settings (settings_shown version content)) named)

-- a database shows those of the newest version
pub loaded : (content : SetupContent) (runs : ℕ → ℕ) (rows : Rows) (state : TerminalState) (db : Database) → AreOfOffice newest content runs rows state → AreRows rows db.trees → (shown : OpenedRows) × Shows db shown × IsOffice shown content state
loaded content runs rows state db are has = office_shown newest content runs rows state db are has (λ settings. settings) (newest_shown content)

-- ---- the rows after deliveries

-- no run goes past the numbers of interchanges
run_within : (content : SetupContent) (es : List Event) (p : ℕ) → run (deliveries_of content es) p ≤ 999999999
run_within content es p = elim (cases_order (run (deliveries_of content es) p) 0) [
  | inl none ↦ omega arith
  | inr o ↦ elim o [
    | inl below ↦ absurd (omega arith)
    | inr some ↦
        let last = some_of (first_text (deliveries_of content es) p (run (deliveries_of content es) p)) (used_within_run (deliveries_of content es) p (run (deliveries_of content es) p) (omega arith) (omega arith)) in
        (delivered_within content es p (run (deliveries_of content es) p) last.0 last.1).3
  ]
]

module _ (version : Version) (content : SetupContent) (es : List Event) (rows : Rows) (given : IsGiven content) (are : AreAfterBy version content es rows) where
  abbrev now : SetupContent
  now = content_after content es

  abbrev D : List Delivery
  D = deliveries_of content es

  abbrev taking : Taking MachineState
  taking = taking_in version content es

  abbrev own : TerminalState
  own = (state taking (opening_of now) D).terminal

  -- up to its run each number of a partner was taken, the next didn't come, and those beyond wait
  numbers : KeepsNumbers (length now.partners) (run D) rows
  numbers = record {
    once = are.kept_once;
    within = λ p k text e. delivered_within content es p k text (sym (are.texts p k) ∙ e);
    there = λ p k one within. ap is_some (are.texts p k) ∙ used_within_run D p k one within;
    taken = λ p k one within. ap is_some (are.replies p k) ∙ within_replied taking (opening_of now) D p k one within;
    free = λ p. are.texts p (run D p + 1) ∙ free_after_run D p;
    waits = λ p k beyond. unreplied version taking now D rows p k are (omega (arith, beyond));
  }

  are_of : AreOfOffice version now (run D) rows own
  are_of =
      let given_now = given_after es content given in
      let ground = state_on_ground version content es (opening_of now) D in
      let sound = state_sound taking now D (sound_in version content es) given_now in
      record {
        given = given_now;
        partners = are.partners;
        high = run_within content es;
        keeps = numbers;
        by_key = record { same = are.terminal; placed_once = are.placed_once; listed_once = are.listed_once };
        settings = subst (λ l. IsPermutation l (settings_shown version now)) (sym are.settings) (settings_shuffled version now);
        blocks = are.blocks;
        plan = ground.plan;
        limit = ground.limit;
        whole = sound.whole;
        one_by_one = sound.one_by_one;
        formed = sound.formed;
        accounted = state_accounted version content es now D;
      }

pub rows_are : RowsAreAnOffice
rows_are content es rows db given are has =
    let it = loaded (content_after content es) (run (deliveries_of content es)) rows (machine_after content es).terminal db (are_of newest content es rows given are) has.rows_are in
    (it.0, (machine_after content es).terminal, it.1, it.2)

pub older_rows_are : OlderRowsAreAnOffice
older_rows_are content version es rows db given are has =
    let now = content_after content es in
    let left : TerminalState = (state (taking_in version content es) (opening_of now) (deliveries_of content es)).terminal in
    let it = office_shown version now (run (deliveries_of content es)) rows left db (are_of version content es rows given are) has migrated_settings (migrated_shown version now) in
    (it.0, left, it.1, it.2)

-- ---- what opens again

module _ (content : SetupContent) (es : List Event) (rows : Rows) (db : Database) (shown : OpenedRows) (other : SetupContent) (state : TerminalState)
    (given : IsGiven content) (are : AreAfter content es rows) (has : HasRows rows db) (shows : Shows db shown) (office : ShowsSetupAndTerminal shown other state) where
  abbrev so_far : SetupContent
  so_far = content_after content es

  abbrev theirs : TerminalState
  theirs = (machine_after content es).terminal

  its : (mine : OpenedRows) × Shows db mine × IsOffice mine so_far theirs
  its = loaded so_far (run (deliveries_of content es)) rows theirs db (are_of newest content es rows given are) has.rows_are

  pub state_given : state ≡ theirs
  state_given = one_terminal db shown its.0 other so_far state theirs shows its.1 office (shown_by_office its.0 so_far theirs its.2)

  pub says_same : SaysSame other so_far
  says_same = one_setup db shown its.0 other so_far state theirs shows its.1 office (shown_by_office its.0 so_far theirs its.2)
