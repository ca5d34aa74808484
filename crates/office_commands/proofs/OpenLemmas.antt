-- A store that is opened on its files, beside its archives.
use Rattle.std.{specs.{Prelude.{◌&&◌, nat_le, IfSome, IsTrue, Option}, List.list_all}, proofs.lemmas.Bool.{and_parts, eqb-false, eqb-true, leb-true}}
use Rattle.std.proofs.Common.{◌≡◌, ◌≢◌, ◌==◌, ℕ, ◌+◌, List, [], ◌∷◌, Bool, true, false, length, None, Some, refl, sym, ap, subst, ◌∙◌, arith}
use Rattle.sqlite.specs.{Effect.Database, Held.{Held, state}, Recovery.Image, Tree.Trees}
use Rattle.sqlite_trees.specs.declared.store.Store.{Ghosts}
use Rattle.office_replies.specs.Events.{Event}
use Rattle.edi_syntax.specs.Numbers.{last_number}
use Rattle.edi_messages.specs.Codes.{table_texts}
use Rattle.office_loading.specs.{Closed.{closed_content, nothing_closed}, declared.closed.Closed.Closed}
use Rattle.office_history.proofs.Alike.{reopens}
use Rattle.office_tables.proofs.MadeLemmas.{clean_first}
use Rattle.office_rows.{specs.{Stored.{HasRows, StoresRows}, Tables.office_schema}, proofs.Creating.stores}
use Rattle.office_admission.specs.{Given.IsGiven, Setups.{SetupContent, setup_content}, declared.setup.Setup.Setup, Limits.most_partners}
use Rattle.office_closing.specs.{Register.{RegisterContent, closed_by, is_newer_than, is_of_terminal, last_closed, newest_visit}, declared.register.Segment.Segment}
use Rattle.office_closing.specs.Sound.{are_in_order, are_sound_archives, are_sound_lists, are_sound_sealed, are_sound_segments, are_sound_taken, close_more, is_sound, is_sound_mark, is_within}
use Rattle.office_commands.specs.{Opening.{BeginsAt, Shows}, Beside.{IsLoaded, IsOfDay, IsOfTerminal, IsOpenedOver, IsOpenedWhole, OpensFor, OpensOn, OpensWith}}
use Rattle.office_desk.specs.{Beside.{IsBeside, IsOrNone}, Desks.{IsSound, OpensAt}, Telling.Holds, declared.beside.Beside.Beside, declared.desk.Desk.Desk}
use Rattle.office_desk.proofs.{DeliverLemmas.{beside_loaded, office_with, shown_by_own}, HoldLemmas.{held_leaves, nexts_loaded}, OwnNumbers.codes_after}
use Rattle.office_parts.specs.{Archives.Archive, OwnLists.rows_without_lists}
use Rattle.office_archives.{specs.{Shelves.NamesAll, Together.IsBesideAfter}, proofs.Filled.opened_beside}

pub opens_for : {S : Type 0} (g : Ghosts S) (found : Held S) (desk : Desk S g) → IsOpenedOver g found desk → IsSound g desk → (list : List Archive) (content : SetupContent) (es : List Event) → IsGiven content →
    (state g found).committed.schema ≡ office_schema → IsBesideAfter list (closed_content desk.closed) content es (state g found).committed.trees → OpensFor g list content es desk
opens_for g found desk opened sound list content es given schema beside =
    let it = opened_beside g list content es found desk given schema beside (opened.office sound schema) in
    let stands = it.stands in
    record {
      opens = it;
      leaves = λ db left. record {
        archived = stands.archived;
        own = stands.own;
        whole = stands.whole;
        parts = stands.parts;
        hold = stands.hold;
        knows = stands.knows;
        rows = stands.rows;
        is_own = stands.is_own;
        away = stands.away;
        lists = stands.lists;
        are =
            let left_there = rows_without_lists stands.away stands.rows in
            subst (StoresRows left_there) (sym (opened.settled sound db left)) (stores left_there (state g desk.conn).committed stands.holds.has);
      };
    }

-- what a connection to the files shows is what they held
pub opens_on : {S : Type 0} (g : Ghosts S) (image : Image) (found : Held S) (desk : Desk S g) → Shows g image found → IsOpenedOver g found desk → OpensOn g image desk
opens_on g image found desk shows opened = record {
  beside = λ sound list content es given holds.
      let same : (state g found).committed ≡ record { schema = office_schema; trees = holds.db } = shows (opened.clean sound) holds.db office_schema holds.held holds.beside.are.lists in
      opens_for g found desk opened sound list content es given (ap (λ (d : Database). d.schema) same)
      (subst (IsBesideAfter list (closed_content desk.closed) content es) (sym (ap (λ (d : Database). d.trees) same)) holds.beside);
  office = λ sound db held.
      let same : (state g found).committed ≡ record { schema = office_schema; trees = db } = shows (opened.clean sound) db office_schema held.held held.lists in
      record { was = found; shows = same; office = opened.office sound (ap (λ (d : Database). d.schema) same) };
}

-- ---- a store of which nothing was put away

-- it goes on from the events whose rows the files held
pub opens_at : {S : Type 0} (g : Ghosts S) (image : Image) (found : Held S) (desk : Desk S g) → Shows g image found → IsOpenedWhole g found desk → IsSound g desk → (content : SetupContent) (es : List Event) → BeginsAt image content es → OpensAt g content es desk
opens_at g image found desk shows whole sound content es begins =
    let held = begins.1 in
    let same : (state g found).committed ≡ record { schema = office_schema; trees = held.db } = shows (whole.over.clean sound) held.db office_schema held.held held.after.are.lists in
    whole.events sound content es held.after.rows begins.0 (subst (HasRows held.after.rows) (sym same) held.after.are) held.after.after

-- what has no length is empty
pub empty_if : {X : Type 0} (xs : List X) → (length xs == 0) ≡ true → xs ≡ []
empty_if [] none = refl
empty_if (x ∷ xs) none = let many = eqb-true (length (x ∷ xs)) 0 none in absurd (omega (arith, many))

pub some_if : {X : Type 0} (xs : List X) → (length xs == 0) ≡ false → xs ≢ []
some_if xs some none = eqb-false (length xs) 0 some (ap length none)

-- a sound register that names no archive closes nothing
none_within : (segments : List Segment) → list_all (is_within 0) segments ≡ true → segments ≡ []
none_within [] all = refl
none_within (segment ∷ segments) all =
    let one = (and_parts (is_within 0 segment) (list_all (is_within 0) segments) all).0 in
    let place = (and_parts (nat_le 1 segment.partner && nat_le segment.partner most_partners) (nat_le 1 segment.archive && nat_le segment.archive 0)
    (and_parts ((nat_le 1 segment.partner && nat_le segment.partner most_partners) && (nat_le 1 segment.archive && nat_le segment.archive 0)) (nat_le 1 segment.last && nat_le segment.last last_number) one).0).1 in
    let both = and_parts (nat_le 1 segment.archive) (nat_le segment.archive 0) place in
    let low = leb-true 1 segment.archive both.0 in
    let high = leb-true segment.archive 0 both.1 in
    absurd (omega (arith, low, high))

pub closes_nothing : (names : RegisterContent) → IsTrue (is_sound names) → names.archives ≡ [] → closed_by names ≡ nothing_closed
closes_nothing names sound none =
    let many : ℕ = length names.archives in
    let rest : Bool = are_sound_lists many names.lists && (are_sound_taken many names.taken && (are_sound_sealed many names.sealed && is_sound_mark names.closed_for)) in
    let all = (and_parts (are_sound_archives names.archives) (are_sound_segments many names.segments && rest) sound).1 in
    let segments = (and_parts (are_sound_segments many names.segments) rest all).0 in
    let within = (and_parts (list_all (is_within many) names.segments) (are_in_order 0 0 names.segments && close_more [] names.segments) segments).0 in
    let empty : names.segments ≡ [] = none_within names.segments (subst (λ (n : ℕ). list_all (is_within n) names.segments ≡ true) (ap length none) within) in
    λ i. record { last_closed = last_closed (empty i); newest_closed = newest_visit (none i) }

-- the list that it names is empty
pub none_named : (names : RegisterContent) (list : List Archive) → names.archives ≡ [] → NamesAll names list → list ≡ []
none_named names list none named = by list (named.counted ∙ ap length none)
  where
    by : (list : List Archive) → length list ≡ 0 → list ≡ []
    by [] many = refl
    by (one ∷ list) many = absurd (omega (arith, many))

-- ---- a desk over what was loaded

module _ {S : Type 0} (g : Ghosts S) (found : Held S) (desk : Desk S g) (there : Beside) (loaded : IsLoaded g found desk.conn (closed_content desk.closed) (setup_content desk.setup) there) (is : desk.beside ≡ Some there)
    (settled : IsSound g desk → (db : Trees) → (state g desk.conn).may_leave db → db ≡ (state g desk.conn).committed.trees) where
  abbrev own : SetupContent
  own = setup_content desk.setup

  pub opened_over : IsOpenedOver g found desk
  opened_over = record {
    clean = λ sound. clean_first loaded.reads sound.0;
    settled = settled;
    office = λ sound schema.
        let loads = loaded.loads sound.0 schema in
        let still = loaded.reads.unchanged sound.0 in
        record {
          there = there;
          beside = is;
          loads = loads;
          holds = λ rows has. office_with (closed_content desk.closed) own rows there.terminal (state g found).committed (state g desk.conn).committed None desk.beside still.0.committed_is
              (subst (IsOrNone rows there.terminal) (sym is) (record { terminal_is = refl; nexts = loaded.nexts sound.0 rows has }))
              (record { has = has; loads = loads; beside = tt });
          unchanged = still;
        };
  }

  -- of a store of which nothing was put away
  pub opened_whole : closed_content desk.closed ≡ nothing_closed → IsOpenedWhole g found desk
  opened_whole nothing = record {
    over = opened_over;
    closed = nothing;
    events = λ sound content es rows given has after.
        let closed = closed_content desk.closed in
        let loads = loaded.loads sound.0 has.schema in
        let still = loaded.reads.unchanged sound.0 in
        let back = reopens content es rows (state g found).committed loads.0 own there.terminal after given has loads.1 (shown_by_own closed loads.0 own there.terminal loads.2) in
        let opening : SetupContent = record content { codes = desk.setup.codes } in
        let beside : IsBeside opening es (Some there) = record {
          terminal = beside_loaded closed opening es rows (state g found).committed own there.terminal back.given back.rows_are has loads;
          nexts = nexts_loaded opening es rows there.nexts.items back.rows_are (loaded.nexts sound.0 rows has);
        } in
        let held : Holds opening es own (state g desk.conn).committed desk.beside = record {
          given = back.given;
          now_is = back.now;
          rows = rows;
          has = subst (HasRows rows) (sym still.0.committed_is) has;
          after = back.rows_are;
          beside = subst (IsBeside opening es) (sym is) beside;
        } in
        record {
          says = back.says;
          opening = opening;
          opening_says = record { terminal = refl; codes = back.says.codes ∙ ap table_texts (codes_after es content); partners = refl; blocks = refl; limit = refl };
          stands = held;
          leaves = held_leaves opening es own (state g desk.conn) desk.beside sound.1 (settled sound) held;
        };
  }

-- the desk is over what was loaded
pub loaded_as : {S : Type 0} (g : Ghosts S) (found conn : Held S) (closed : Closed) (setup : Setup) (there : Beside) (desk : Desk S g) → desk.conn ≡ conn → desk.closed ≡ closed → desk.setup ≡ setup → IsLoaded g found conn (closed_content closed) (setup_content setup) there
    → IsLoaded g found desk.conn (closed_content desk.closed) (setup_content desk.setup) there
loaded_as g found conn closed setup there desk conn_is closed_is setup_is loaded =
    subst (λ (h : Held _). IsLoaded g found h (closed_content desk.closed) (setup_content desk.setup) there) (sym conn_is)
    (subst (λ (k : Closed). IsLoaded g found conn (closed_content k) (setup_content desk.setup) there) (sym closed_is)
    (subst (λ (s : Setup). IsLoaded g found conn (closed_content closed) (setup_content s) there) (sym setup_is) loaded))

-- what stands beside it tells the day
pub of_that_day : {S : Type 0} {g : Ghosts S} (names : RegisterContent) (desk : Desk S g) (there : Beside) → desk.beside ≡ Some there → is_newer_than there.nexts.items names ≡ false → IsOfDay names desk
of_that_day names desk there is of_day = subst (λ (o : Option Beside). IfSome o (λ one. is_newer_than one.nexts.items names ≡ false)) (sym is) of_day

-- the set-up that was loaded tells the terminal
pub of_that_terminal : {S : Type 0} {g : Ghosts S} (names : RegisterContent) (desk : Desk S g) (setup : Setup) → desk.setup ≡ setup → is_of_terminal (setup_content setup).terminal names ≡ true → IsOfTerminal names desk
of_that_terminal names desk setup is of_terminal = subst (λ (s : Setup). is_of_terminal (setup_content s).terminal names ≡ true) (sym is) of_terminal

-- beside the archives that the register names
pub joined_with : {S A : Type 0} (g : Ghosts S) (hold : List Archive → Type 0) (are : List Archive → A → Type 0) (image : Image) (found : Held S) (names : RegisterContent) (desk : Desk S g) (there : Beside) (archives : A) → Shows g image found
    → IsLoaded g found desk.conn (closed_content desk.closed) (setup_content desk.setup) there → desk.beside ≡ Some there → (IsSound g desk → (db : Trees) → (state g desk.conn).may_leave db → db ≡ (state g desk.conn).committed.trees) → IsTrue (is_sound names) → closed_content desk.closed ≡ closed_by names
    → ((list : List Archive) → hold list → NamesAll names list → are list archives) → (names.archives ≡ [] → are [] archives) → is_newer_than there.nexts.items names ≡ false → IsOfTerminal names desk → OpensWith g hold are image names (desk, archives)
joined_with g hold are image found names desk there archives shows loaded is settled sound closed these none of_day of_terminal = record {
  opens = opens_on g image found desk shows (opened_over g found desk there loaded is settled);
  sound = sound;
  closed = closed;
  of_day = of_that_day names desk there is of_day;
  of_terminal = of_terminal;
  these = these;
  alone = λ empty.
      let nothing = closed ∙ closes_nothing names sound empty in
      record { none = none empty; closed = nothing; events = opens_at g image found desk shows (opened_whole g found desk there loaded is settled nothing) };
}
