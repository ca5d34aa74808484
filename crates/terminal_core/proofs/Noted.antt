-- Where the lines of the vessels' lists are said to stand.
use Rattle.std.specs.Prelude.{OnErr, ◌&&◌, ◌==◌, slice_get, string_bytes, find, reverse}
use Rattle.std.specs.Str.{bytes_eq}
use Rattle.std.specs.Map.{lookup}
use Rattle.std.specs.Cmp.{eq_by_cmp_equiv}
use Rattle.std.{specs.{Ordering.eq_by_cmp, Slice.IsItemAt}, proofs.lemmas.Bool.{and_parts, eqb-true, eq-eqb}}
use Rattle.std.proofs.Common.{◌≡◌, ℕ, ◌+◌, ◌<◌, zero, suc, List, [], ◌∷◌, ◌++◌, length, map, take, get_or, ◌⊎◌, Bool, true, false, cond, Option, None, Some, Result, Ok, Err, refl, sym, ap, ◌∙◌, arith, subst, inl, inr, option_map, Bor}
use Rattle.std.proofs.lemmas.Option.{same_Some, none-some, slice_get-map, slice_get_past}
use Rattle.std.proofs.lemmas.List.{take_more, length-take-le, map-append, reverse-append, length-map}
use Rattle.box6346.specs.declared.box_number.BoxNumber.{BoxNumber}
use Rattle.edi_messages.specs.{Purposes.CallContent, Owned.call_content, declared.call.Call.Call}
use Rattle.terminal_core.specs.{declared.lines.Listing.Listing, declared.lines.Side.Side, declared.lines.Side.TheVariants.{Load, Discharge}, Restoring.AreOnce}
use Rattle.terminal_core.specs.{State.{LineContent, LineKey, line_key, side_code, is_open_visit, is_visit_of}, declared.visits.Departure.Departure}
use Rattle.terminal_core.specs.{Listings.{key_of, line_content, line_entry, lines_of, is_line, NoneBefore, IsFirstAt}, declared.visits.Visit.Visit}
use Rattle.terminal_core.specs.LineIndexes.{CallIndexes, AllIndexes, is_call, is_key, indexes_of, index_by, index_in, is_same_line, SameIndexes, NotesIndex, AreNoted}
use Rattle.terminal_core.{specs.{Rows.{VisitContent, visit_content}, Step.closed_visit, Index.{AreLastIndexed, AreFound}}, proofs.Open.{same_bytes, same_self}}
use Rattle.terminal_core.proofs.{Lined.{order, keys_total, same_key, line_tied, line_none, read_at}, Indexed.{at_most_one, pushed_at, mapped_at, next_rows}}
use Rattle.terminal_core.proofs.Whole.{content_at}
use Rattle.std.specs.FinMap as finite_map

-- what holds holds where it failed
pub always : {A E : Type 0} {P : Type 0} (r : Result A E) → P → OnErr r P
always (Ok x) fact = tt
always (Err e) fact = fact

-- ---- one call's indexes

same_call : (call : CallContent) (other : Call) → is_call call other ≡ true → call_content other ≡ call
same_call call other e =
    let parts = and_parts (bytes_eq call.vessel (string_bytes other.vessel)) (bytes_eq call.voyage (string_bytes other.voyage)) e in
    let vessel : string_bytes other.vessel ≡ call.vessel = same_bytes call.vessel (string_bytes other.vessel) parts.0 in
    let voyage : string_bytes other.voyage ≡ call.voyage = same_bytes call.voyage (string_bytes other.voyage) parts.1 in
    λ i. record { vessel = vessel i; voyage = voyage i }

written : (u v : Bool) (o : Option CallIndexes) (old new : CallIndexes) (side : Side) (b : BoxNumber) (row_index : ℕ) → (u ≡ true → o ≡ Some old) → lookup (is_key side b) new.entries ≡ cond v (Some row_index) (lookup (is_key side b) old.entries)
    → index_by (cond u (Some new) o) side b ≡ cond (u && v) (Some row_index) (index_by o side b)
written true v o old new side b row_index there e = e ∙ ap (λ x. cond v (Some row_index) (index_by x side b)) (sym (there refl))
written false v o old new side b row_index there e = refl

unwritten : (u : Bool) (o : Option CallIndexes) (old new : CallIndexes) (side : Side) (b : BoxNumber) → (u ≡ true → o ≡ Some old) → new.entries ≡ old.entries → index_by (cond u (Some new) o) side b ≡ index_by o side b
unwritten true o old new side b there e = ap (lookup (is_key side b)) e ∙ ap (λ x. index_by x side b) (sym (there refl))
unwritten false o old new side b there e = refl

unknown : (u : Bool) (o : Option CallIndexes) (new : CallIndexes) (side : Side) (b : BoxNumber) → (u ≡ true → o ≡ None) → new.entries ≡ [] → index_by (cond u (Some new) o) side b ≡ index_by o side b
unknown true o new side b none e = ap (lookup (is_key side b)) e ∙ ap (λ x. index_by x side b) (sym (none refl))
unknown false o new side b none e = refl

module _ (call : CallContent) (old new : AllIndexes) (was now : CallIndexes) (writes : (q : Call) → indexes_of new (call_content q) ≡ cond (is_call call q) (Some now) (indexes_of old (call_content q))) where
  pub notes_index : (side : Side) (container : BoxNumber) (row_index : ℕ) → indexes_of old call ≡ Some was
      → ((s : Side) (b : BoxNumber) → lookup (is_key s b) now.entries ≡ cond (side_code side == side_code s && bytes_eq container b) (Some row_index) (lookup (is_key s b) was.entries)) → NotesIndex old new call side container row_index
  notes_index side container row_index there puts q s b =
      ap (λ o. index_by o s b) (writes q)
      ∙ written (is_call call q) (side_code side == side_code s && bytes_eq container b) (indexes_of old (call_content q)) was now s b row_index (λ e. ap (indexes_of old) (same_call call q e) ∙ there) (puts s b)

  pub stays_noted : indexes_of old call ≡ Some was → now.entries ≡ was.entries → SameIndexes old new
  stays_noted there same q s b =
      ap (λ o. index_by o s b) (writes q) ∙ unwritten (is_call call q) (indexes_of old (call_content q)) was now s b (λ e. ap (indexes_of old) (same_call call q e) ∙ there) same

  pub known_now : indexes_of old call ≡ None → now.entries ≡ [] → SameIndexes old new
  known_now none empty q s b =
      ap (λ o. index_by o s b) (writes q) ∙ unknown (is_call call q) (indexes_of old (call_content q)) now s b (λ e. ap (indexes_of old) (same_call call q e) ∙ none) empty

-- ---- the rows

same_side : (s t : Side) → side_code s ≡ side_code t → s ≡ t
same_side Load Load e = refl
same_side Load Discharge e = absurd (omega arith)
same_side Discharge Load e = absurd (omega arith)
same_side Discharge Discharge e = refl

-- the parts of a key
call_in : LineKey → CallContent
call_in [] = record { vessel = []; voyage = [] }
call_in (v ∷ []) = record { vessel = v; voyage = [] }
call_in (v ∷ w ∷ k) = record { vessel = v; voyage = w }

side_in : LineKey → List ℕ
side_in (v ∷ w ∷ s ∷ k) = s
side_in [] = []
side_in (v ∷ []) = []
side_in (v ∷ w ∷ []) = []

container_in : LineKey → List ℕ
container_in (v ∷ w ∷ s ∷ b ∷ k) = b
container_in [] = []
container_in (v ∷ []) = []
container_in (v ∷ w ∷ []) = []
container_in (v ∷ w ∷ s ∷ []) = []

first_of_list : List ℕ → ℕ
first_of_list [] = 0
first_of_list (n ∷ ns) = n

-- a key tells its call, side and container
pub key_parts : (call c : CallContent) (side s : Side) (container b : BoxNumber) → line_key call side container ≡ line_key c s b → (call ≡ c) × (side ≡ s) × (container ≡ b)
unfolding call_in side_in container_in first_of_list
key_parts call c side s container b key = (ap call_in key, same_side side s (ap (λ k. first_of_list (side_in k)) key), ap container_in key)

-- lines of one key are said to stand at one index
pub index_by_key : (indexes : AllIndexes) (call : CallContent) (side : Side) (container : BoxNumber) (row : Listing) → line_key call side container ≡ key_of row
    → index_in indexes call side container ≡ index_in indexes (call_content row.call) row.side row.container
unfolding call_in side_in container_in first_of_list
index_by_key indexes call side container row key =
    let calls : call ≡ call_content row.call = ap call_in key in
    let sides : side ≡ row.side = same_side side row.side (ap (λ k. first_of_list (side_in k)) key) in
    let boxes : container ≡ row.container = ap container_in key in
    ap (λ (c : CallContent). index_in indexes c side container) calls ∙ ap (λ s. index_in indexes (call_content row.call) s container) sides ∙ ap (index_in indexes (call_content row.call) row.side) boxes

same_index : (indexes : AllIndexes) (call : CallContent) (side : Side) (container : BoxNumber) (row : Listing) → is_line call side container row ≡ true
    → index_in indexes call side container ≡ index_in indexes (call_content row.call) row.side row.container
same_index indexes call side container row is = index_by_key indexes call side container row (same_key (line_key call side container) (key_of row) (line_tied call side container row ∙ is))

module _ (rows : List Listing) (indexes : AllIndexes) (noted : AreNoted rows indexes) (call : CallContent) (side : Side) (container : BoxNumber) where
  -- a line that stands is said to stand there
  pub said : (k : ℕ) (row : Listing) → slice_get rows k ≡ Some row → is_line call side container row ≡ true → index_in indexes call side container ≡ Some k
  said k row at is = same_index indexes call side container row is ∙ noted k row at

  isnt_line : (k : ℕ) (row : Listing) → slice_get rows k ≡ Some row → (index_in indexes call side container ≡ Some k → ⊥) → is_line call side container row ≡ false
  isnt_line k row at not =
      elim (is_line call side container row) as (λ v. is_line call side container row ≡ v → v ≡ false) [ true ↦ λ is. absurd (not (said k row at is)) | false ↦ λ e. refl ] refl

  pub none_there : (row_index : ℕ) (other : Listing) → index_in indexes call side container ≡ Some row_index → slice_get rows row_index ≡ Some other → is_line call side container other ≡ false → NoneBefore call side container rows (length rows)
  none_there row_index other is there isnt k row low at =
      elim (is_line call side container row) as (λ v. is_line call side container row ≡ v → v ≡ false) [
        | true ↦ λ its.
            let same : row_index ≡ k = same_Some row_index k (sym is ∙ said k row at its) in
            let met : other ≡ row = same_Some other row (sym there ∙ ap (slice_get rows) same ∙ at) in
            let bad : true ≡ false = sym its ∙ ap (is_line call side container) (sym met) ∙ isnt in
            bad
        | false ↦ λ e. refl
      ] refl

  pub first_there : (row_index : ℕ) (row : Listing) → index_in indexes call side container ≡ Some row_index → slice_get rows row_index ≡ Some row → is_line call side container row ≡ true → IsFirstAt call side container rows row_index
  first_there row_index row is at its = record {
    row = row;
    at = at;
    is = its;
    before = λ k other low there. isnt_line k other there (λ also. let same : row_index ≡ k = same_Some row_index k (sym is ∙ also) in omega arith);
  }

-- ---- a row more

cond_none : {A : Type 0} (v : Bool) (x : A) (o : Option A) → cond v (Some x) o ≡ None → (v ≡ false) × (o ≡ None)
cond_none true x o e = absurd (none-some x (sym e))
cond_none false x o e = (refl, e)

-- no row has a key that the map lacks
lacks : (rows : List Listing) (key : LineKey) → finite_map.find order key (map line_entry rows) ≡ None → (k : ℕ) (row : Listing) → slice_get rows k ≡ Some row → eq_by_cmp order key (key_of row) ≡ false
lacks [] key none k row at = absurd (none-some row at)
lacks (r ∷ rows) key none zero row at =
    ap (λ (w : Listing). eq_by_cmp order key (key_of w)) (sym (same_Some r row at)) ∙ (cond_none (eq_by_cmp order key (key_of r)) (line_content r) (finite_map.find order key (map line_entry rows)) none).0
lacks (r ∷ rows) key none (suc k) row at = lacks rows key (cond_none (eq_by_cmp order key (key_of r)) (line_content r) (finite_map.find order key (map line_entry rows)) none).1 k row at

pub one_key : (line row : Listing) → is_same_line (call_content line.call) line.side line.container row.call row.side row.container ≡ true → key_of row ≡ key_of line
one_key line row e =
    let parts = and_parts (is_call (call_content line.call) row.call) (side_code line.side == side_code row.side && bytes_eq line.container row.container) e in
    let last = and_parts (side_code line.side == side_code row.side) (bytes_eq line.container row.container) parts.1 in
    let calls : call_content row.call ≡ call_content line.call = same_call (call_content line.call) row.call parts.0 in
    let sides : row.side ≡ line.side = same_side row.side line.side (sym (eqb-true (side_code line.side) (side_code row.side) last.0)) in
    ap (λ (c : CallContent). line_key c row.side row.container) calls ∙ ap (λ s. line_key (call_content line.call) s row.container) sides
    ∙ ap (line_key (call_content line.call) line.side) (same_bytes line.container row.container last.1)

both_hold : (a b : Bool) → a ≡ true → b ≡ true → (a && b) ≡ true
both_hold true b e f = f
both_hold false b e f = e

pub one_line : (line : Listing) → is_same_line (call_content line.call) line.side line.container line.call line.side line.container ≡ true
one_line line =
    both_hold _ _ (both_hold _ _ (same_self (string_bytes line.call.vessel)) (same_self (string_bytes line.call.voyage)))
    (both_hold (side_code line.side == side_code line.side) (bytes_eq line.container line.container) (eq-eqb (side_code line.side) (side_code line.side) refl) (same_self line.container))

kept_case : (line row : Listing) (v : Bool) (n k : ℕ) (o : Option ℕ) → is_same_line (call_content line.call) line.side line.container row.call row.side row.container ≡ v → eq_by_cmp order (key_of line) (key_of row) ≡ false → o ≡ Some k
    → cond v (Some n) o ≡ Some k
kept_case line row true n k o e apart at =
    let bad : true ≡ false = sym ((eq_by_cmp_equiv keys_total).refl (key_of line)) ∙ ap (eq_by_cmp order (key_of line)) (sym (one_key line row e)) ∙ apart in
    cc
kept_case line row false n k o e apart at = at

pub one_noted : (rows : List Listing) (line : Listing) (old new : AllIndexes) → finite_map.get (lines_of rows) (key_of line) ≡ None → AreNoted rows old → NotesIndex old new (call_content line.call) line.side line.container (length rows)
    → AreNoted (rows ++ line ∷ []) new
one_noted rows line old new none noted notes k row at = elim (pushed_at rows line k row at) [
  | inl before ↦ notes row.call row.side row.container
      ∙ kept_case line row (is_same_line (call_content line.call) line.side line.container row.call row.side row.container) (length rows) k (index_in old (call_content row.call) row.side row.container) refl
      (lacks rows (key_of line) (sym (finite_map.get-from_entries keys_total (map line_entry rows) (key_of line)) ∙ none) k row before) (noted k row before)
  | inr last ↦ (let P : Listing → Type 0 = λ r. index_in new (call_content r.call) r.side r.container ≡ Some k in
      subst P last.1 (notes line.call line.side line.container
      ∙ ap (λ v. cond v (Some (length rows)) (index_in old (call_content line.call) line.side line.container)) (one_line line) ∙ ap Some (sym last.0)))
]

-- a row more of those that are read
pub next_noted : (rows : List Listing) (i : ℕ) (row : Listing) (old new : AllIndexes) → i < length rows → row ≡ get_or rows i row → NoneBefore (call_content row.call) row.side row.container (take i rows) (length (take i rows))
    → AreNoted (take i rows) old → NotesIndex old new (call_content row.call) row.side row.container i → AreNoted (take (i + 1) rows) new
next_noted rows i row old new low at none noted notes =
    let longer : take (i + 1) rows ≡ take i rows ++ row ∷ [] = take_more rows i row low ∙ ap (λ (r : Listing). take i rows ++ r ∷ []) (sym at) in
    let long : length (take i rows) ≡ i = length-take-le i rows (omega arith) in
    let P : List Listing → Type 0 = λ r. AreNoted r new in
    let Q : ℕ → Type 0 = NotesIndex old new (call_content row.call) row.side row.container in
    subst P (sym longer) (one_noted (take i rows) row old new (line_none (call_content row.call) row.side row.container (take i rows) none) noted (subst Q (sym long) notes))

-- ---- copies

map_at : {A B : Type 0} (f : A → B) (xs : List A) (k : ℕ) (x : A) → slice_get xs k ≡ Some x → slice_get (map f xs) k ≡ Some (f x)
map_at f [] k x at = absurd (none-some x at)
map_at f (y ∷ xs) zero x at = ap (λ z. Some (f z)) (same_Some y x at)
map_at f (y ∷ xs) (suc k) x at = map_at f xs k x at

pub copy_noted : (rows copies : List Listing) (indexes : AllIndexes) → AreNoted rows indexes → map line_entry copies ≡ map line_entry rows → AreNoted copies indexes
copy_noted rows copies indexes noted e k row at =
    let other = mapped_at line_entry rows k (line_entry row) (sym (ap (λ l. slice_get l k) e) ∙ map_at line_entry copies k row at) in
    index_by_key indexes (call_content row.call) row.side row.container other.0 (sym (ap (λ (p : LineKey × LineContent). p.0) other.2)) ∙ noted k other.0 other.1

pub once_noted : (rows : List Listing) (indexes : AllIndexes) → AreNoted rows indexes → AreOnce rows
once_noted rows indexes noted call side container =
    at_most_one (is_line call side container) rows
    (λ j k x y at also is too. same_Some j k (sym (said rows indexes noted call side container j x at is) ∙ said rows indexes noted call side container k y also too))

-- ==== LastIndexed: The places of last visits, by their containers.

-- ---- one more

read_before : {A : Type 0} (xs : List A) (x w : A) (k : ℕ) → slice_get xs k ≡ Some w → slice_get (xs ++ x ∷ []) k ≡ Some w
read_before [] x w k at = absurd (none-some w at)
read_before (y ∷ xs) x w zero at = at
read_before (y ∷ xs) x w (suc k) at = read_before xs x w k at

read_last : {A : Type 0} (xs : List A) (x : A) → slice_get (xs ++ x ∷ []) (length xs) ≡ Some x
read_last [] x = refl
read_last (y ∷ xs) x = read_last xs x

-- what an index shows, it shows with one more after
still_shown : (visits : List VisitContent) (visit : VisitContent) (o : Option ℕ) (f : Option VisitContent) → option_map (slice_get visits) o ≡ option_map Some f → option_map (slice_get (visits ++ visit ∷ [])) o ≡ option_map Some f
still_shown visits visit None f e = e
still_shown visits visit (Some k) None e = absurd (none-some (slice_get visits k) (sym e))
still_shown visits visit (Some k) (Some w) e = ap Some (read_before visits visit w k (same_Some (slice_get visits k) (Some w) e))

more_last : (visits : List VisitContent) (visit : VisitContent) (o : Option ℕ) (f : Option VisitContent) (is : Bool) → option_map (slice_get visits) o ≡ option_map Some f
    → option_map (slice_get (visits ++ visit ∷ [])) (cond is (Some (length visits)) o) ≡ option_map Some (cond is (Some visit) f)
more_last visits visit o f true e = ap Some (read_last visits visit)
more_last visits visit o f false e = still_shown visits visit o f e

pub one_last : (visits : List VisitContent) (visit : VisitContent) (old new : List (BoxNumber × ℕ)) → AreLastIndexed visits old
    → ((q : BoxNumber) → lookup (bytes_eq q) new ≡ cond (bytes_eq visit.container q) (Some (length visits)) (lookup (bytes_eq q) old)) → AreLastIndexed (visits ++ visit ∷ []) new
one_last visits visit old new are puts q =
    ap (option_map (slice_get (visits ++ visit ∷ []))) (puts q)
    ∙ more_last visits visit (lookup (bytes_eq q) old) (find (is_visit_of q) (reverse visits)) (bytes_eq visit.container q) (are q)
    ∙ ap (λ rows. option_map Some (find (is_visit_of q) rows)) (sym (reverse-append visits (visit ∷ [])))

-- ---- one closed

same_container : (departure : Departure) (visit : VisitContent) (is : Bool) → (cond is (record visit { departure = Some departure }) visit).container ≡ visit.container
same_container departure visit true = refl
same_container departure visit false = refl

module _ (departure : Departure) (b : BoxNumber) where
  abbrev shut : VisitContent → VisitContent
  shut visit = closed_visit departure b visit

  found_shut : (q : BoxNumber) (visits : List VisitContent) → option_map shut (find (is_visit_of q) visits) ≡ find (is_visit_of q) (map shut visits)
  found_shut q [] = refl
  found_shut q (visit ∷ visits) =
      let same : is_visit_of q (shut visit) ≡ is_visit_of q visit = ap (λ c. bytes_eq c q) (same_container departure visit (is_open_visit b visit)) in
      first_shut (is_visit_of q visit) visit (find (is_visit_of q) visits) (find (is_visit_of q) (map shut visits)) (found_shut q visits)
      ∙ ap (λ is. cond is (Some (shut visit)) (find (is_visit_of q) (map shut visits))) (sym same)
    where
      first_shut : (is : Bool) (v : VisitContent) (o f : Option VisitContent) → option_map shut o ≡ f → option_map shut (cond is (Some v) o) ≡ cond is (Some (shut v)) f
      first_shut true v o f e = refl
      first_shut false v o f e = e

  turned : (visits : List VisitContent) → map shut (reverse visits) ≡ reverse (map shut visits)
  turned [] = refl
  turned (visit ∷ visits) =
      ap (map shut) (reverse-append (visit ∷ []) visits) ∙ map-append shut (reverse visits) (visit ∷ [])
      ∙ ap (λ t. t ++ shut visit ∷ []) (turned visits) ∙ sym (reverse-append (shut visit ∷ []) (map shut visits))

  shown_shut : (visits : List VisitContent) (o : Option ℕ) (f : Option VisitContent) → option_map (slice_get visits) o ≡ option_map Some f
      → option_map (slice_get (map shut visits)) o ≡ option_map Some (option_map shut f)
  shown_shut visits None None e = refl
  shown_shut visits None (Some w) e = absurd (none-some (Some w) e)
  shown_shut visits (Some k) None e = absurd (none-some (slice_get visits k) (sym e))
  shown_shut visits (Some k) (Some w) e = ap Some (slice_get-map shut visits k ∙ ap (option_map shut) (same_Some (slice_get visits k) (Some w) e))

  pub closed_last : (visits after : List VisitContent) (entries : List (BoxNumber × ℕ)) → AreLastIndexed visits entries → after ≡ map (closed_visit departure b) visits → AreLastIndexed after entries
  closed_last visits after entries are is =
      let P : List VisitContent → Type 0 = λ v. AreLastIndexed v entries in
      subst P (sym is) (λ q.
      shown_shut visits (lookup (bytes_eq q) entries) (find (is_visit_of q) (reverse visits)) (are q)
      ∙ ap (option_map Some) (found_shut q (reverse visits) ∙ ap (find (is_visit_of q)) (turned visits)))

-- ---- the same

pub kept_found : (visits after : List VisitContent) (open_old open_new last_old last_new : List (BoxNumber × ℕ)) → after ≡ visits → ((q : BoxNumber) → lookup (bytes_eq q) open_new ≡ lookup (bytes_eq q) open_old)
    → ((q : BoxNumber) → lookup (bytes_eq q) last_new ≡ lookup (bytes_eq q) last_old) → AreFound visits open_old last_old → AreFound after open_new last_new
kept_found visits after open_old open_new last_old last_new same open_same last_same are =
    let P : List VisitContent → Type 0 = λ v. AreFound v open_new last_new in
    subst P (sym same) (record {
      open_ones = λ q k w at open_. open_same q ∙ are.open_ones q k w at open_;
      last_ones = λ q. ap (option_map (slice_get visits)) (last_same q) ∙ are.last_ones q;
    })

-- ---- found

pub is_shown : (visits : List VisitContent) (o : Option ℕ) (f : Option VisitContent) (k : ℕ) → option_map (slice_get visits) o ≡ option_map Some f → Some k ≡ o → slice_get visits k ≡ f
is_shown visits o None k e some = absurd (none-some (slice_get visits k) (sym (ap (option_map (slice_get visits)) some ∙ e)))
is_shown visits o (Some w) k e some = same_Some (slice_get visits k) (Some w) (ap (option_map (slice_get visits)) some ∙ e)

-- the row that is lent from an index
pub lent_at : (rows : List Visit) (k : ℕ) (r : Option (Bor Visit)) → IsItemAt rows k r → option_map (λ visit. visit_content visit.now) r ≡ slice_get (map visit_content rows) k
lent_at rows k None item = sym (slice_get-map visit_content rows k ∙ ap (option_map visit_content) (slice_get_past rows k item.3))
lent_at rows k (Some row) item = sym (content_at rows k row.now (read_at rows k row.now item.0 item.1))

-- ---- rows one after another

pub row_last : (rows : List Visit) (i : ℕ) (row : Visit) (old new : List (BoxNumber × ℕ)) → i < length rows → row ≡ get_or rows i row → AreLastIndexed (map visit_content (take i rows)) old
    → ((q : BoxNumber) → lookup (bytes_eq q) new ≡ cond (bytes_eq row.container q) (Some i) (lookup (bytes_eq q) old)) → AreLastIndexed (map visit_content (take (i + 1) rows)) new
row_last rows i row old new low at are puts =
    let P : List VisitContent → Type 0 = λ v. AreLastIndexed v new in
    let long : length (map visit_content (take i rows)) ≡ i = length-map (take i rows) visit_content ∙ length-take-le i rows (omega arith) in
    subst P (sym (next_rows rows i row low at)) (one_last (map visit_content (take i rows)) (visit_content row) old new are
    (λ q. puts q ∙ ap (λ n. cond (bytes_eq row.container q) (Some n) (lookup (bytes_eq q) old)) (sym long)))
