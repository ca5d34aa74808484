-- Lists that are put away are away.
use Rattle.std.specs.{Prelude.{◌≢◌, ◌||◌, ◌&&◌, not, filter, Contains, IsPermutation}, List.AllByRecursion, Ordering.eq_by_cmp}
use Rattle.std.proofs.Common.{◌≡◌, ℕ, ◌+◌, ◌<◌, ◌≤◌, List, [], ◌∷◌, length, map, Bool, true, false, cond, None, Some, inl, inr, refl, sym, ap, ap₂, subst, ◌∙◌, arith}
use Rattle.std.proofs.lemmas.Bool.{cases_eq, cases_order}
use Rattle.edi_messages.specs.declared.codes.PartnerKind.{PartnerKind}
use Rattle.partner_core.{specs.{Deliveries.{Delivery, first_text, run}, Numbered.with_number}, proofs.Orders.free_after_run}
use Rattle.terminal_core.specs.{Changes.TerminalRows, State.{LineKey, Lines, line_key}, Versions.newest, declared.lines.LineState.TheVariants.Done}
use Rattle.terminal_core.proofs.Lined.{order, keys_total, same_key, tied_self}
use Rattle.office_admission.specs.{Accounts.content_after, Deliveries.deliveries_of, Setups.SetupContent}
use Rattle.office_replies.specs.Events.{Event}
use Rattle.office_rows.specs.{ByKey.{line_entry, lines_by}, Rows.{ListingContent, Partner, Rows}}
use Rattle.office_history.{specs.{After.{SaysSame, accounts_from, machine_after}, Cascade.text_in}, proofs.{Kept.{head_in, tail_in}, Accounted.text_within}}
use Rattle.office_parts.specs.{Archives.Archive, Parts.{Archived, ArePartsAfter}, Away.{AreAway, ArePutAway, HasDoneLine, lines_away, lists_after}}
use Rattle.office_parts.{specs.{Bringing.{is_list, is_of, lines_of}, Naming.{AreHere, lists_named_by}}, proofs.Takings.{free_in_whole, own_rows}}
use Rattle.office_parts.{specs.OwnLists.{ListName, is_own_line, list_name, list_of, rows_without_lists}, proofs.LeftOver.told_alike}
use Rattle.office_parts.proofs.{Reading.{lists_are, named_same}, BringingLemmas.{same_tests, twice}}
use Rattle.office_closing.specs.{Going.{IsWaiting, MayGo, lines_on, lists_in}, DoneListLaws.{AwayStaysWithClosing, KeepLines, PutAwayListsAreAway}}
use Rattle.std.specs.FinMap as finite_map

-- ---- lines of lists that are not away

none : (lines : List ListingContent) → filter (λ (line : ListingContent). false) lines ≡ []
none [] = refl
none (line ∷ lines) = none lines

own_both : (gone is : Bool) → (is ≡ true → gone ≡ false) → (not gone && is) ≡ is
own_both gone true here = ap (λ b. not b && true) (here refl)
own_both true false here = refl
own_both false false here = refl

away_both : (gone is : Bool) → (is ≡ true → gone ≡ true) → (not gone && is) ≡ false
away_both gone true there = ap (λ b. not b && true) (there refl)
away_both true false there = refl
away_both false false there = refl

module _ (away : ListName → Bool) (list : ListName) where
  named : (line : ListingContent) → is_of list line ≡ true → away (list_name line.call line.side) ≡ away list
  named line is = ap away (sym (same_key list (list_name line.call line.side) is))

  lines_there : away list ≡ false → (lines : List ListingContent) → lines_on list (filter (is_own_line away) lines) ≡ lines_on list lines
  lines_there here lines =
      twice (is_own_line away) (is_of list) lines
      ∙ same_tests _ _ (λ (line : ListingContent). own_both (away (list_name line.call line.side)) (is_of list line) (λ is. named line is ∙ here)) lines

  none_there : away list ≡ true → (lines : List ListingContent) → lines_on list (filter (is_own_line away) lines) ≡ []
  none_there gone lines =
      twice (is_own_line away) (is_of list) lines
      ∙ same_tests _ _ (λ (line : ListingContent). away_both (away (list_name line.call line.side)) (is_of list line) (λ is. named line is ∙ gone)) lines
      ∙ none lines

  -- a list with a line there is not away
  is_there : (lines : List ListingContent) → lines_on list (filter (is_own_line away) lines) ≢ [] → away list ≡ false
  is_there lines some = by (away list) refl
    where
      by : (is : Bool) → away list ≡ is → is ≡ false
      by true e = absurd (some (none_there e lines))
      by false e = refl

-- ---- a line that is done

abbrev key_of : ListingContent → LineKey
key_of line = line_key line.call line.side line.container

-- the first line of the list is found under its key, and is done
record FirstDone (list : ListName) (lines : List ListingContent) : Type 0 where
  line : ListingContent
  is_its : is_of list line ≡ true
  is_done : line.state ≡ Done
  found : finite_map.find order (key_of line) (map line_entry lines) ≡ Some (line_entry line).1

abbrev AreDone : List ListingContent → Type 0
AreDone lines = AllByRecursion (λ (line : ListingContent). line.state ≡ Done) lines

first_done : (list : ListName) (lines : List ListingContent) → lines_on list lines ≢ [] → AreDone (lines_on list lines) → FirstDone list lines
first_done list [] some done = absurd (some refl)
first_done list (line ∷ lines) some done = by (is_of list line) refl some done (first_done list lines)
  where
    others : List ListingContent
    others = lines_on list lines

    apart : (later : FirstDone list lines) (tie : Bool) → is_of list line ≡ false → eq_by_cmp order (key_of later.line) (key_of line) ≡ tie
        → cond tie (Some (line_entry line).1) (finite_map.find order (key_of later.line) (map line_entry lines)) ≡ Some (line_entry later.line).1
    apart later true e t =
        let same : list_name later.line.call later.line.side ≡ list_name line.call line.side = ap list_of (same_key (key_of later.line) (key_of line) t) in
        let no : true ≡ false = sym later.is_its ∙ ap (is_list list) same ∙ e in
        absurd cc
    apart later false e t = later.found

    by : (is : Bool) → is_of list line ≡ is → cond is (line ∷ others) others ≢ [] → AreDone (cond is (line ∷ others) others) → (others ≢ [] → AreDone others → FirstDone list lines) → FirstDone list (line ∷ lines)
    by true e some done rest = record {
      line = line;
      is_its = e;
      is_done = done.0;
      found = ap (λ b. cond b (Some (line_entry line).1) (finite_map.find order (key_of line) (map line_entry lines))) (tied_self (key_of line));
    }
    by false e some done rest =
        let later = rest some done in
        record {
          line = later.line;
          is_its = later.is_its;
          is_done = later.is_done;
          found = apart later (eq_by_cmp order (key_of later.line) (key_of line)) e refl;
        }

-- ---- texts that wait

account_there : (id : ℕ) (next : ℕ → ℕ) (accounts : List (List ℕ × PartnerKind)) (partner : ℕ) → id ≤ partner → partner < id + length accounts
    → (account : Partner) × Contains (accounts_from id next accounts) account × (account.id ≡ partner) × (account.next ≡ next partner)
account_there id next [] partner low high = absurd (omega (arith, low, high))
account_there id next (account ∷ accounts) partner low high = elim (cases_order id partner) [
  | inl same ↦ (record { id = id; code = account.0; kind = account.1; next = next id }, head_in _ _, same, ap next same)
  | inr other ↦ elim other [
    | inl less ↦
        let rest = account_there (id + 1) next accounts partner (omega (arith, less)) (omega (arith, high)) in
        (rest.0, tail_in _ rest.0 _ rest.1, rest.2, rest.3)
    | inr more ↦ absurd (omega (arith, more, low))
  ]
]

module _ (content : SetupContent) (es : List Event) (archived : Archived) (own whole : Rows) (parts : ArePartsAfter content es archived own whole) where
  abbrev now : SetupContent
  now = content_after content es

  abbrev ds : List Delivery
  ds = deliveries_of content es

  -- beyond the run a text waits: none is kept under the next number
  waits : (partner number : ℕ) (text : List ℕ) → run ds partner < number → text_in own partner number ≡ Some text → IsWaiting own partner number text
  waits partner number text far kept =
      let in_whole : text_in whole partner number ≡ Some text = free_in_whole content es archived own whole partner number parts far ∙ kept in
      let within = text_within content es whole partner number text parts.after in_whole in
      let account = account_there 1 (λ p. run ds p + 1) now.partners partner within.0 (omega (arith, within.1)) in
      record {
        account = account.0;
        has = subst (λ l. Contains l account.0) (sym parts.after.partners ∙ parts.parts.partners) account.1;
        is_its = account.2;
        beyond = elim (cases_eq number (run ds partner + 1)) [
          | inl next ↦
              let no : Some text ≡ None = sym in_whole ∙ parts.after.texts partner number ∙ ap (first_text ds partner) next ∙ free_after_run ds partner in
              absurd cc
          | inr apart ↦ omega (arith, far, account.3, apart)
        ];
        kept = kept;
      }

  -- a set-up that says the same names the same lists
  named_alike : (setup : SetupContent) (partner : ℕ) (text : List ℕ) → SaysSame setup now → lists_after content es partner text ≡ lists_in setup partner text
  named_alike setup partner text says =
      lists_are content es partner text
      ∙ ap (λ (accounts : List (List ℕ × PartnerKind)). lists_named_by newest now.codes text (with_number (map (λ (account : List ℕ × PartnerKind). account.1) accounts) partner)) (sym says.partners)
      ∙ sym (named_same setup.codes now.codes says.codes text (with_number (map (λ (account : List ℕ × PartnerKind). account.1) setup.partners) partner))

  -- ---- a done line of the terminal

  has_done : (list : ListName) → lines_on list own.lines ≢ [] → AreDone (lines_on list own.lines) → HasDoneLine list (machine_after content es).terminal.lines
  has_done list some done =
      let first = first_done list own.lines some done in
      let lines : lines_by own.lines ≡ (machine_after content es).terminal.lines = ap (λ (r : TerminalRows). r.lines) (own_rows content es archived own whole parts) in
      record {
        call = first.line.call;
        side = first.line.side;
        container = first.line.container;
        is_its = sym (same_key list (list_name first.line.call first.line.side) first.is_its);
        is_done = record {
          line = (line_entry first.line).1;
          there = ap (λ (l : Lines). finite_map.get l (key_of first.line)) (sym lines)
              ∙ finite_map.get-from_entries keys_total (map line_entry own.lines) (key_of first.line) ∙ first.found;
          is_done = first.is_done;
        };
      }

-- ---- the archives that a store then has

no_more : (a b : Bool) → a ≡ false → b ≡ false → (a || b) ≡ false
no_more a b e f = ap₂ ◌||◌ e f

-- what is not there is no part of it
no_part : (part all : Bool) → (part ≡ true → all ≡ true) → all ≡ false → part ≡ false
no_part true all within none = sym (within refl) ∙ none
no_part false all within none = refl

-- names of lists that are here, of which none is deleted
still_here : (away deleted : ListName → Bool) (lists : List ListName) → AreHere away lists → ((list : ListName) → Contains lists list → deleted list ≡ false) → AreHere (λ (list : ListName). away list || deleted list) lists
still_here away deleted [] here stay = tt
still_here away deleted (list ∷ lists) here stay =
    (no_more (away list) (deleted list) here.0 (stay list (head_in list lists)), still_here away deleted lists here.1 (λ other has. stay other (tail_in list other lists has)))

module _ (content setup : SetupContent) (es : List Event) (archives after : List Archive) (away goes deleted : ListName → Bool) (archived : Archived) (own whole : Rows) (parts : ArePartsAfter content es archived own whole)
    (are : AreAway archives away content es own) (says : SaysSame setup (content_after content es)) (may : (list : ListName) → goes list ≡ true → MayGo setup (rows_without_lists away own) list)
    (keep : (list : ListName) → goes list ≡ true → KeepLines after (rows_without_lists away own) list) (others : (list : ListName) → goes list ≡ false → lines_away after list ≡ lines_away archives list)
    (within : (list : ListName) → deleted list ≡ true → goes list ≡ true) where
  -- a list that goes was not away, so it has the lines that the store shows of it
  same_lines : (list : ListName) → goes list ≡ true → lines_on list (rows_without_lists away own).lines ≡ lines_of list own
  same_lines list its = lines_there away list (is_there away list own.lines (may list its).done.some) own.lines

  has_lines : (list : ListName) → goes list ≡ true → lines_of list own ≢ []
  has_lines list its = subst (λ lines. lines ≢ []) (same_lines list its) (may list its).done.some

  are_done : (list : ListName) → goes list ≡ true → AreDone (lines_of list own)
  are_done list its = subst AreDone (same_lines list its) (may list its).done.done

  goes_away : (list : ListName) → goes list ≡ true → ArePutAway after list (lines_of list own)
  goes_away list its = record {
    kept = (keep list its).kept;
    are = (keep list its).are;
    same = subst (λ lines. IsPermutation lines (keep list its).kept) (same_lines list its) (keep list its).same;
    done = are_done list its;
  }

  stays_away : (list : ListName) → goes list ≡ false → away list ≡ true → ArePutAway after list (lines_of list own)
  stays_away list stays is = record {
    kept = (are.kept list is).kept;
    are = others list stays ∙ (are.kept list is).are;
    same = (are.kept list is).same;
    done = (are.kept list is).done;
  }

  kept_then : (list : ListName) (is its : Bool) → away list ≡ is → goes list ≡ its → (is || deleted list) ≡ true → ArePutAway after list (lines_of list own)
  kept_then list is true e f either = goes_away list f
  kept_then list true false e f either = stays_away list f e
  kept_then list false false e f either = absurd (let gone = within list either in cc)

  done_then : (list : ListName) (kept : List ListingContent) (its : Bool) → goes list ≡ its → lines_away after list ≡ Some kept → HasDoneLine list (machine_after content es).terminal.lines
  done_then list kept true e had = has_done content es archived own whole parts list (has_lines list e) (are_done list e)
  done_then list kept false e had = are.done list kept (sym (others list e) ∙ had)

  -- no text that waits names a list that goes
  unnamed : (partner number : ℕ) (text : List ℕ) → run (deliveries_of content es) partner < number → text_in own partner number ≡ Some text
      → (list : ListName) → Contains (lists_after content es partner text) list → deleted list ≡ false
  unnamed partner number text far kept list names = no_part (deleted list) (goes list) (within list) (by (goes list) refl)
    where
      waiting : IsWaiting own partner number text
      waiting = waits content es archived own whole parts partner number text far kept

      by : (its : Bool) → goes list ≡ its → its ≡ false
      by true e = absurd ((may list e).free (record {
        partner = partner;
        number = number;
        text = text;
        waits = record { account = waiting.account; has = waiting.has; is_its = waiting.is_its; beyond = waiting.beyond; kept = waiting.kept };
        names = subst (λ l. Contains l list) (named_alike content es archived own whole parts setup partner text says) names;
      }))
      by false e = refl

  put_away_then : AreAway after (λ (list : ListName). away list || deleted list) content es own
  put_away_then = record {
    kept = λ list either. kept_then list (away list) (goes list) refl refl either;
    done = λ list kept had. done_then list kept (goes list) refl had;
    waits = λ partner number text far kept. still_here away deleted (lists_after content es partner text) (are.waits partner number text far kept) (unnamed partner number text far kept);
  }

pub put_away : PutAwayListsAreAway
put_away content setup es archives after away goes deleted archived own whole parts are says may keep others within =
    put_away_then content setup es archives after away goes deleted archived own whole parts are says may keep others within

-- ---- a closing

pub closing_keeps : AwayStaysWithClosing
closing_keeps content es archives away archived own whole last_closed stays parts may are = record {
  kept = are.kept;
  done = are.done;
  waits = λ partner number text far kept.
      let to = may.to partner in
      are.waits partner number text far (sym (told_alike last_closed own partner number (omega (arith, far, to))).text ∙ kept);
}
