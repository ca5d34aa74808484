-- What dropping leaves.
use Rattle.std.specs.{Prelude.{filter, ◌&&◌, T, slice_get}, FinMap.Entries.below_all, Ordering.{eq_by_cmp, is_eq, is_lt}, declared.cmp.Ordering.Ordering}
use Rattle.std.specs.{declared.cmp.Ordering.TheVariants.{Less, Equal, Greater}, Cmp.eq_by_cmp_equiv, Str.bytes_eq, Cmp.Lexicographic.same_text}
use Rattle.std.{specs.{Map.{lookup, values_of}, Option.option_and_then}, proofs.{lemmas.List.take_more, lemmas.Option.{none-some, same_Some}}}
use Rattle.std.proofs.Common.{◌≡◌, ◌<◌, ◌++◌, length, take, get_or, ℕ, ◌+◌, List, [], ◌∷◌, map, Bool, true, false, cond, Option, None, Some, refl, sym, ap, subst, ◌∙◌, ◌⊎◌, zero, suc, inl, inr, Contains, is_none, arith}
use Rattle.std.proofs.lemmas.List.Elements.{Contains-push_cases, Contains-append_left, Contains-append_right}
use Rattle.box6346.specs.declared.box_number.BoxNumber.{BoxNumber}
use Rattle.edi_messages.specs.Purposes.{CallContent}
use Rattle.terminal_core.specs.{declared.lines.Side.Side, declared.lines.LineState.LineState, declared.lines.LineState.TheVariants.{Pending, Done}}
use Rattle.terminal_core.specs.{Rows.{unlisted, VisitContent}, Changes.{TerminalRows, rows_of, rows_with_all, AreApplicable}, Forms.IsWellFormed}
use Rattle.terminal_core.specs.State.{TerminalState, LineContent, LineKey, Lines, line_key, line_of, side_code, IsWhole, AreOpenOf, is_open_visit}
use Rattle.terminal_core.specs.Drop.{is_pending, is_on, container_in, is_open_on, open_containers, without_lines_of, dropped_lines, list_drop, unless_open_on}
use Rattle.terminal_core.{specs.Index.{AreIndexed, if_open}, proofs.{Lined.{order, keys_total, same_key, tied_self}, Whole.{whole_listed, contained, found_at}}}
use Rattle.terminal_core.proofs.Open.{same_self}
use Rattle.std.specs.FinMap as finite_map

-- ---- keys

pub both_true : (a b : Bool) → (a && b) ≡ true → (a ≡ true) × (b ≡ true)
both_true true true e = (refl, refl)
both_true true false e = cc
both_true false b e = cc

-- a key of the list is that of its container
pub key_on : (call : CallContent) (side : Side) (key : LineKey) → is_on call side key ≡ true → key ≡ line_key call side (container_in key)
key_on call side [] e = cc
key_on call side (a ∷ []) e = cc
key_on call side (a ∷ b ∷ []) e = cc
key_on call side (a ∷ b ∷ c ∷ []) e = cc
key_on call side (a ∷ b ∷ c ∷ d ∷ []) e =
    let one = both_true (bytes_eq a call.vessel) (bytes_eq b call.voyage && bytes_eq c (side_code side ∷ [])) e in
    let two = both_true (bytes_eq b call.voyage) (bytes_eq c (side_code side ∷ [])) one.1 in
    let x : a ≡ call.vessel = same_text a call.vessel (sym one.0) in
    let y : b ≡ call.voyage = same_text b call.voyage (sym two.0) in
    let z : c ≡ side_code side ∷ [] = same_text c (side_code side ∷ []) (sym two.1) in
    λ i. x i ∷ y i ∷ z i ∷ d ∷ []
key_on call side (a ∷ b ∷ c ∷ d ∷ f ∷ k) e = cc

-- ---- rows

turned : (call : CallContent) (side : Side) (containers : List BoxNumber) (rows : TerminalRows) → rows_with_all rows (map (unlisted call side) containers) ≡ record rows { lines = without_lines_of call side containers rows.lines }
turned call side [] rows = refl
turned call side (b ∷ containers) rows = turned call side containers (record rows { lines = finite_map.remove rows.lines (line_key call side b) })

pub drop_turned : (state : TerminalState) (call : CallContent) (side : Side) → rows_with_all (rows_of state) (list_drop state call side).changes ≡ rows_of (list_drop state call side).state
drop_turned state call side = turned call side (open_containers state.lines call side) (rows_of state)

pub drop_whole : (state : TerminalState) (call : CallContent) (side : Side) → IsWhole state → IsWhole (list_drop state call side).state
drop_whole state call side whole = whole_listed state (dropped_lines state.lines call side) whole

-- ---- entries in order, each of which the map has

abbrev Entry : Type 0
Entry = LineKey × LineContent

-- the entries' keys rise strictly
abbrev Rise : List Entry → Type 0
Rise es = T (finite_map.is_sorted order es)

-- each of the entries is the map's
abbrev AreIn : List Entry → Lines → Type 0
AreIn [] lines = Unit {0}
AreIn (e ∷ es) lines = (finite_map.get lines e.0 ≡ Some e.1) × AreIn es lines

and_first : (a b : Bool) → T (a && b) → T a
and_first true b p = tt
and_first false b p = p

and_second : (a b : Bool) → T (a && b) → T b
and_second true b p = p
and_second false b p = absurd p

is_less : (r : Ordering) → T (is_lt r) → is_eq r ≡ false
is_less Less p = refl
is_less Equal p = absurd p
is_less Greater p = absurd p

-- a key is not that of an entry above it
apart : (key : LineKey) (e : Entry) → T (is_lt (order key e.0)) → eq_by_cmp order key e.0 ≡ false
apart key e p = is_less (order key e.0) p

swapped : (j k : LineKey) → eq_by_cmp order j k ≡ false → eq_by_cmp order k j ≡ false
swapped j k e = (eq_by_cmp_equiv keys_total).symm k j ∙ e

abbrev AreFound : List Entry → List Entry → Type 0
AreFound [] all = Unit {0}
AreFound (e ∷ es) all = (finite_map.find order e.0 all ≡ Some e.1) × AreFound es all

found_later : (e : Entry) (es fs : List Entry) → T (below_all order e.0 fs) → AreFound fs es → AreFound fs (e ∷ es)
found_later e es [] below found = tt
found_later e es (f ∷ fs) below found =
    let off = swapped e.0 f.0 (apart e.0 f (and_first _ _ below)) in
    (ap (λ b. cond b (Some e.1) (finite_map.find order f.0 es)) off ∙ found.0, found_later e es fs (and_second _ _ below) found.1)

all_found : (es : List Entry) → Rise es → AreFound es es
all_found [] rise = tt
all_found (e ∷ es) rise =
    (ap (λ b. cond b (Some e.1) (finite_map.find order e.0 es)) (tied_self e.0), found_later e es es (and_first _ _ rise) (all_found es (and_second _ _ rise)))

are_in : (lines : Lines) (es : List Entry) → AreFound es (finite_map.entries lines) → AreIn es lines
are_in lines [] found = tt
are_in lines (e ∷ es) found = (finite_map.get-entries lines e.0 ∙ found.0, are_in lines es found.1)

pub own_entries : (lines : Lines) → AreIn (finite_map.entries lines) lines
own_entries lines = are_in lines (finite_map.entries lines) (all_found (finite_map.entries lines) (finite_map.entries_sorted lines))

-- the entries that stay in the map if the first is removed
still_in : (key : LineKey) (es : List Entry) (lines : Lines) → T (below_all order key es) → AreIn es lines → AreIn es (finite_map.remove lines key)
still_in key [] lines below are = tt
still_in key (e ∷ es) lines below are =
    let off = swapped key e.0 (apart key e (and_first _ _ below)) in
    (finite_map.get-remove keys_total lines key e.0 ∙ ap (λ b. cond b None (finite_map.get lines e.0)) off ∙ are.0, still_in key es lines (and_second _ _ below) are.1)

pending_is : (s : LineState) → is_pending s ≡ true → s ≡ Pending
pending_is Pending e = refl
pending_is Done e = cc

-- ---- each change finds its line

applies : (call : CallContent) (side : Side) (es : List Entry) (rows : TerminalRows) → Rise es → AreIn es rows.lines
    → AreApplicable rows (map (unlisted call side) (map (λ (e : Entry). container_in e.0) (filter (is_open_on call side) es)))
applies call side [] rows rise are = tt
applies call side (e ∷ es) rows rise are =
    by (is_open_on call side e) refl (applies call side es rows (and_second _ _ rise) are.1)
    (applies call side es (record rows { lines = finite_map.remove rows.lines e.0 }) (and_second _ _ rise) (still_in e.0 es rows.lines (and_first _ _ rise) are.1))
  where
    by : (b : Bool) → is_open_on call side e ≡ b → AreApplicable rows (map (unlisted call side) (map (λ (f : Entry). container_in f.0) (filter (is_open_on call side) es)))
        → AreApplicable (record rows { lines = finite_map.remove rows.lines e.0 }) (map (unlisted call side) (map (λ (f : Entry). container_in f.0) (filter (is_open_on call side) es)))
        → AreApplicable rows (map (unlisted call side) (map (λ (f : Entry). container_in f.0) (cond b (e ∷ filter (is_open_on call side) es) (filter (is_open_on call side) es))))
    by false is same less = same
    by true is same less =
        let both = both_true (is_on call side e.0) (is_pending e.1.state) is in
        let key : e.0 ≡ line_key call side (container_in e.0) = key_on call side e.0 both.0 in
        let P : LineKey → Type 0 = λ k. finite_map.get rows.lines k ≡ Some e.1 in
        let Q : LineKey → Type 0 = λ k. AreApplicable (record rows { lines = finite_map.remove rows.lines k }) (map (unlisted call side) (map (λ (f : Entry). container_in f.0) (filter (is_open_on call side) es))) in
        (record { line = e.1; there = subst P key are.0; pending = pending_is e.1.state both.1 }, subst Q key less)

pub drop_applicable : (state : TerminalState) (call : CallContent) (side : Side) → AreApplicable (rows_of state) (list_drop state call side).changes
drop_applicable state call side = applies call side (finite_map.entries state.lines) (rows_of state) (finite_map.entries_sorted state.lines) (own_entries state.lines)

-- ---- what is left

-- whether the key is that of one of the entries that go
abbrev is_gone : CallContent → Side → LineKey → List Entry → Bool
is_gone call side key [] = false
is_gone call side key (e ∷ es) = cond (is_open_on call side e) (cond (eq_by_cmp order key e.0) true (is_gone call side key es)) (is_gone call side key es)

none_again : {A : Type 0} (a b : Bool) (o : Option A) → cond b None (cond a None o) ≡ cond (cond a true b) None o
none_again true true o = refl
none_again true false o = refl
none_again false b o = refl

left : (call : CallContent) (side : Side) (es : List Entry) (lines : Lines) (key : LineKey)
    → finite_map.get (without_lines_of call side (map (λ (e : Entry). container_in e.0) (filter (is_open_on call side) es)) lines) key ≡ cond (is_gone call side key es) None (finite_map.get lines key)
left call side [] lines key = refl
left call side (e ∷ es) lines key = by (is_open_on call side e) refl (left call side es lines key) (left call side es (finite_map.remove lines e.0) key)
  where
    by : (b : Bool) → is_open_on call side e ≡ b
        → finite_map.get (without_lines_of call side (map (λ (f : Entry). container_in f.0) (filter (is_open_on call side) es)) lines) key ≡ cond (is_gone call side key es) None (finite_map.get lines key)
        → finite_map.get (without_lines_of call side (map (λ (f : Entry). container_in f.0) (filter (is_open_on call side) es)) (finite_map.remove lines e.0)) key ≡ cond (is_gone call side key es) None (finite_map.get (finite_map.remove lines e.0) key)
        → finite_map.get (without_lines_of call side (map (λ (f : Entry). container_in f.0) (cond b (e ∷ filter (is_open_on call side) es) (filter (is_open_on call side) es))) lines) key
        ≡ cond (cond b (cond (eq_by_cmp order key e.0) true (is_gone call side key es)) (is_gone call side key es)) None (finite_map.get lines key)
    by false is same less = same
    by true is same less =
        let both = both_true (is_on call side e.0) (is_pending e.1.state) is in
        let its : e.0 ≡ line_key call side (container_in e.0) = key_on call side e.0 both.0 in
        ap (λ k. finite_map.get (without_lines_of call side (map (λ (f : Entry). container_in f.0) (filter (is_open_on call side) es)) (finite_map.remove lines k)) key) (sym its)
        ∙ less
        ∙ ap (cond (is_gone call side key es) None) (finite_map.get-remove keys_total lines e.0 key)
        ∙ none_again (eq_by_cmp order key e.0) (is_gone call side key es) (finite_map.get lines key)

not_below : (key : LineKey) (call : CallContent) (side : Side) (es : List Entry) → finite_map.find order key es ≡ None → is_gone call side key es ≡ false
not_below key call side [] none = refl
not_below key call side (e ∷ es) none = by (eq_by_cmp order key e.0) (is_open_on call side e) none (not_below key call side es)
  where
    by : (a b : Bool) → cond a (Some e.1) (finite_map.find order key es) ≡ None → (finite_map.find order key es ≡ None → is_gone call side key es ≡ false)
        → cond b (cond a true (is_gone call side key es)) (is_gone call side key es) ≡ false
    by true b none rest = cc
    by false true none rest = rest none
    by false false none rest = rest none

none_above : (key : LineKey) (call : CallContent) (side : Side) (es : List Entry) → T (below_all order key es) → is_gone call side key es ≡ false
none_above key call side [] below = refl
none_above key call side (e ∷ es) below = by (is_open_on call side e) (none_above key call side es (and_second _ _ below))
  where
    by : (b : Bool) → is_gone call side key es ≡ false → cond b (cond (eq_by_cmp order key e.0) true (is_gone call side key es)) (is_gone call side key es) ≡ false
    by true rest = ap (λ a. cond a true (is_gone call side key es)) (apart key e (and_first _ _ below)) ∙ rest
    by false rest = rest

gone : (key : LineKey) (line : LineContent) (call : CallContent) (side : Side) (es : List Entry) → Rise es → finite_map.find order key es ≡ Some line → is_gone call side key es ≡ is_open_on call side (key, line)
gone key line call side [] rise at = cc
gone key line call side (e ∷ es) rise at = by (eq_by_cmp order key e.0) refl at (gone key line call side es (and_second _ _ rise))
  where
    off : (b : Bool) → cond b (is_gone call side key es) (is_gone call side key es) ≡ is_gone call side key es
    off true = refl
    off false = refl

    on : (b : Bool) → is_gone call side key es ≡ false → cond b true (is_gone call side key es) ≡ b
    on true none = refl
    on false none = none

    by : (a : Bool) → eq_by_cmp order key e.0 ≡ a → cond a (Some e.1) (finite_map.find order key es) ≡ Some line
        → (finite_map.find order key es ≡ Some line → is_gone call side key es ≡ is_open_on call side (key, line))
        → cond (is_open_on call side e) (cond a true (is_gone call side key es)) (is_gone call side key es) ≡ is_open_on call side (key, line)
    by true is at rest =
        let key_is : key ≡ e.0 = same_key key e.0 is in
        let line_is : e.1 ≡ line = cc in
        let P : LineKey → Type 0 = λ k. T (below_all order k es) in
        on (is_open_on call side e) (none_above key call side es (subst P (sym key_is) (and_first _ _ rise)))
        ∙ ap (is_open_on call side) (λ i. (sym key_is i, line_is i))
    by false is at rest = off (is_open_on call side e) ∙ rest at

pub open_alone : (lines : Lines) (call : CallContent) (side : Side) (key : LineKey) → finite_map.get (dropped_lines lines call side) key ≡ unless_open_on call side key (finite_map.get lines key)
open_alone lines call side key =
    left call side (finite_map.entries lines) lines key ∙ by (finite_map.get lines key) refl
  where
    by : (o : Option LineContent) → finite_map.get lines key ≡ o → cond (is_gone call side key (finite_map.entries lines)) None (finite_map.get lines key) ≡ unless_open_on call side key o
    by None e =
        ap (cond (is_gone call side key (finite_map.entries lines)) None) e
        ∙ ap (λ b. cond b None None) (not_below key call side (finite_map.entries lines) (sym (finite_map.get-entries lines key) ∙ e))
    by (Some line) e =
        ap (cond (is_gone call side key (finite_map.entries lines)) None) e
        ∙ ap (λ b. cond b None (Some line)) (gone key line call side (finite_map.entries lines) (finite_map.entries_sorted lines) (sym (finite_map.get-entries lines key) ∙ e))

pub drop_alone : (state : TerminalState) (call : CallContent) (side : Side) (key : LineKey) → finite_map.get (list_drop state call side).state.lines key ≡ unless_open_on call side key (finite_map.get state.lines key)
drop_alone state call side key = open_alone state.lines call side key

-- a line that is left was there
left_there : (call : CallContent) (side : Side) (key : LineKey) (o : Option LineContent) (line : LineContent) → unless_open_on call side key o ≡ Some line → o ≡ Some line
left_there call side key None line e = cc
left_there call side key (Some other) line e = by (is_open_on call side (key, other)) e
  where
    by : (b : Bool) → cond b None (Some other) ≡ Some line → Some other ≡ Some line
    by true e = cc
    by false e = e

pub drop_formed : (state : TerminalState) (call : CallContent) (side : Side) → IsWellFormed state → IsWellFormed (list_drop state call side).state
drop_formed state call side formed = record {
  visits = formed.visits;
  lines = λ c s b line at. formed.lines c s b line (left_there call side (line_key c s b) (line_of state c s b) line (sym (drop_alone state call side (line_key c s b)) ∙ at));
  slots = formed.slots;
}

-- ---- one container after the other

without_one_more : (call : CallContent) (side : Side) (containers : List BoxNumber) (b : BoxNumber) (lines : Lines) →
    without_lines_of call side (containers ++ b ∷ []) lines ≡ finite_map.remove (without_lines_of call side containers lines) (line_key call side b)
without_one_more call side [] b lines = refl
without_one_more call side (c ∷ containers) b lines = without_one_more call side containers b (finite_map.remove lines (line_key call side c))

pub without_next : (call : CallContent) (side : Side) (containers : List BoxNumber) (i : ℕ) (b : BoxNumber) (old now new : Lines) → i < length containers → b ≡ get_or containers i b
    → now ≡ without_lines_of call side (take i containers) old → new ≡ finite_map.remove now (line_key call side b) → new ≡ without_lines_of call side (take (i + 1) containers) old
without_next call side containers i b old now new low at so is =
    is ∙ ap (λ (l : Lines). finite_map.remove l (line_key call side b)) so ∙ sym (without_one_more call side (take i containers) b old)
    ∙ ap (λ cs. without_lines_of call side cs old) (sym (take_more containers i b low ∙ ap (λ (c : BoxNumber). take i containers ++ c ∷ []) (sym at)))

-- ==== OpenOnes: The open visits that are found by walking over their indexes.

-- each open visit was found, or its index is still to come; and what was found is open
pub record IsOpenSoFar (visits : List VisitContent) (rest : List (BoxNumber × ℕ)) (found : List VisitContent) : Type 0 where
  pub each : (k : ℕ) (visit : VisitContent) → slice_get visits k ≡ Some visit → is_none visit.departure ≡ true → Contains found visit ⊎ Contains (values_of rest) k
  pub only : (visit : VisitContent) → Contains found visit → Contains visits visit × (is_none visit.departure ≡ true)

-- what a list with one more before it has is that one, or one of its own
front_cases : {A : Type 0} (xs : List A) (x y : A) → Contains (x ∷ xs) y → (x ≡ y) ⊎ Contains xs y
front_cases xs x y (zero, low, e) = inl e
front_cases xs x y (suc i, low, e) = inr (i, omega (arith, low), e)

-- an index that is looked up is among those that are stored
looked_at : (is : Bool) (index : ℕ) (indexes : List ℕ) (later : Option ℕ) (k : ℕ) → (later ≡ Some k → Contains indexes k) → cond is (Some index) later ≡ Some k → Contains (index ∷ indexes) k
looked_at true index indexes later k rest here = contained (index ∷ indexes) 0 k here
looked_at false index indexes later k rest there = Contains-append_right (index ∷ []) indexes k (rest there)

looked_up : (test : BoxNumber → Bool) (entries : List (BoxNumber × ℕ)) (k : ℕ) → lookup test entries ≡ Some k → Contains (values_of entries) k
looked_up test [] k e = absurd cc
looked_up test (entry ∷ entries) k e = looked_at (test entry.0) entry.1 (values_of entries) (lookup test entries) k (looked_up test entries k) e

pub open_none : (visits : List VisitContent) (entries : List (BoxNumber × ℕ)) → AreIndexed visits entries → IsOpenSoFar visits entries []
open_none visits entries are = record {
  each = λ k visit at stays.
      let mine : is_open_visit visit.container visit ≡ true = ap (λ b. b && is_none visit.departure) (same_self visit.container) ∙ stays in
      inr (looked_up (bytes_eq visit.container) entries k (are visit.container k visit at mine));
  only = λ visit inside. (let bad : inside.0 < 0 = inside.1 in absurd (omega arith));
}

-- ---- an index more

only_open : (visit : VisitContent) (is : Bool) (shown : VisitContent) → is_none visit.departure ≡ is → cond is (Some visit) None ≡ Some shown → (visit ≡ shown) × (is ≡ true)
only_open visit true shown stays e = (same_Some visit shown e, refl)
only_open visit false shown stays e = absurd (none-some shown e)

opened_at : (o : Option VisitContent) (shown : VisitContent) → option_and_then if_open o ≡ Some shown → (o ≡ Some shown) × (is_none shown.departure ≡ true)
opened_at None shown e = absurd (none-some shown e)
opened_at (Some visit) shown e =
    let parts = only_open visit (is_none visit.departure) shown refl e in
    (ap Some parts.0, ap (λ (v : VisitContent). is_none v.departure) (sym parts.0) ∙ parts.1)

kept_open : (visit : VisitContent) → is_none visit.departure ≡ true → if_open visit ≡ Some visit
kept_open visit stays = ap (λ b. cond b (Some visit) None) stays

module _ (visits : List VisitContent) (key : BoxNumber) (index : ℕ) (rest : List (BoxNumber × ℕ)) (found : List VisitContent) (so : IsOpenSoFar visits ((key, index) ∷ rest) found) where
  -- its visit is open, and is found
  pub open_more : (visit : VisitContent) → option_and_then if_open (slice_get visits index) ≡ Some visit → IsOpenSoFar visits rest (found ++ visit ∷ [])
  open_more visit e =
      let here = opened_at (slice_get visits index) visit e in
      record {
        each = λ k v at stays. elim (so.each k v at stays) [
          | inl before ↦ inl (Contains-append_left found (visit ∷ []) v before)
          | inr index_to_come ↦ elim (front_cases (values_of rest) index k index_to_come) [
            | inl first ↦ inl (Contains-append_right found (visit ∷ []) v (contained (visit ∷ []) 0 v (sym here.0 ∙ ap (slice_get visits) first ∙ at)))
            | inr later ↦ inr later
          ]
        ];
        only = λ v inside. elim (Contains-push_cases found visit v inside) [
          | inl before ↦ so.only v before
          | inr last ↦ subst (λ w. Contains visits w × (is_none w.departure ≡ true)) last (contained visits index visit here.0, here.1)
        ];
      }

  -- there is no open visit at it
  pub open_less : option_and_then if_open (slice_get visits index) ≡ None → IsOpenSoFar visits rest found
  open_less none = record {
    each = λ k v at stays. elim (so.each k v at stays) [
      | inl before ↦ inl before
      | inr index_to_come ↦ elim (front_cases (values_of rest) index k index_to_come) [
        | inl first ↦ absurd (none-some v (sym none ∙ ap (option_and_then if_open) (ap (slice_get visits) first ∙ at) ∙ kept_open v stays))
        | inr later ↦ inr later
      ]
    ];
    only = so.only;
  }

pub open_all : (visits : List VisitContent) (rest : List (BoxNumber × ℕ)) (found : List VisitContent) → rest ≡ [] → IsOpenSoFar visits rest found → AreOpenOf visits found
open_all visits rest found none so = record {
  each = λ visit inside stays. elim (so.each inside.0 visit (found_at visits visit inside) stays) [
    | inl here ↦ here
    | inr later ↦ (let gone : Contains [] inside.0 = subst (λ l. Contains (values_of l) inside.0) none later in let bad : gone.0 < 0 = gone.1 in absurd (omega arith))
  ];
  only = so.only;
}
