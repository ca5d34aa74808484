-- If a closing puts away each visit that is over in its archive, of each container's visits the older go first.
use Rattle.std.{specs.{Prelude.{Contains, nat_lt, ◌||◌}, Str.bytes_eq}, proofs.lemmas.Bool.{lt-ltb, ltb-true, or_cases, or_left, or_right}}
use Rattle.std.proofs.Common.{◌≡◌, ◌⊎◌, ℕ, ◌<◌, inl, inr, List, [], ◌∷◌, Bool, true, false, cond, is_some, refl, sym, ap, subst, ◌∙◌, arith}
use Rattle.terminal_core.specs.{Rows.VisitContent, State.{AreNumbered, is_visit_of}}
use Rattle.office_rows.specs.Rows.{Rows}
use Rattle.office_history.specs.After.{machine_after}
use Rattle.office_parts.{specs.OwnTerminal.{is_own, own_visits}, proofs.Takings.visits_same}
use Rattle.office_parts.proofs.Splits.{own_rise, Has, contained_has, had_filtered, has_contained, has_filtered}
use Rattle.office_archives.specs.{Laws.{ClearingsGoOldestFirst, FullClosingsGoOldestFirst}, Stayed.{GoOldestFirst, PutsAwayOver}}
use Rattle.office_archives.proofs.{Going.{after_ordered, later_go_on}, Moves.{AreOverBefore, GoOn}}

-- ---- one before another

abbrev Before : List VisitContent → VisitContent → VisitContent → Type 0
Before [] v w = ⊥
Before (x ∷ visits) v w = ((x ≡ v) × Has visits w) ⊎ Before visits v w

before_first : (visits : List VisitContent) (v w : VisitContent) → Before visits v w → Has visits v
before_first [] v w before = absurd before
before_first (x ∷ visits) v w (inl here) = inl here.0
before_first (x ∷ visits) v w (inr later) = inr (before_first visits v w later)

before_second : (visits : List VisitContent) (v w : VisitContent) → Before visits v w → Has visits w
before_second [] v w before = absurd before
before_second (x ∷ visits) v w (inl here) = inr here.1
before_second (x ∷ visits) v w (inr later) = inr (before_second visits v w later)

above_has : (above : ℕ) (visits : List VisitContent) (w : VisitContent) → AreNumbered above visits → Has visits w → above < w.number
above_has above [] w numbered has = absurd has
above_has above (x ∷ visits) w numbered (inl here) = let same : x.number ≡ w.number = ap (λ (y : VisitContent). y.number) here in omega (arith, same, numbered.0)
above_has above (x ∷ visits) w numbered (inr later) = let rest = above_has x.number visits w numbered.1 later in omega (arith, rest, numbered.0)

before_less : (above : ℕ) (visits : List VisitContent) (v w : VisitContent) → AreNumbered above visits → Before visits v w → v.number < w.number
before_less above [] v w numbered before = absurd before
before_less above (x ∷ visits) v w numbered (inl here) =
    let same : x.number ≡ v.number = ap (λ (y : VisitContent). y.number) here.0 in
    let far = above_has x.number visits w numbered.1 here.1 in
    omega (arith, same, far)
before_less above (x ∷ visits) v w numbered (inr later) = before_less x.number visits v w numbered.1 later

-- what stands so among those that stay stands so among all
record IsBefore (stays : ℕ → Bool) (visits : List VisitContent) (v w : VisitContent) : Type 0 where
  before : Before visits v w
  first : stays v.number ≡ true

own_before : (stays : ℕ → Bool) (visits : List VisitContent) (v w : VisitContent) → Before (own_visits stays visits) v w → IsBefore stays visits v w
own_before stays [] v w before = absurd before
own_before stays (x ∷ visits) v w before = by (stays x.number) refl before (own_before stays visits v w)
  where
    behind : IsBefore stays visits v w → IsBefore stays (x ∷ visits) v w
    behind is = record { before = inr is.before; first = is.first }

    by : (stay : Bool) → stays x.number ≡ stay → Before (cond stay (x ∷ own_visits stays visits) (own_visits stays visits)) v w → (Before (own_visits stays visits) v w → IsBefore stays visits v w) → IsBefore stays (x ∷ visits) v w
    by true e (inl here) rest = record { before = inl (here.0, (had_filtered (is_own stays) visits w here.1).0); first = ap (λ (y : VisitContent). stays y.number) (sym here.0) ∙ e }
    by true e (inr later) rest = behind (rest later)
    by false e before rest = behind (rest before)

pairs_go : (stays : ℕ → Bool) (visits : List VisitContent) → ((v w : VisitContent) → Before visits v w → is_visit_of v.container w ≡ true → stays v.number ≡ true → stays w.number ≡ true) → GoOldestFirst stays visits
pairs_go stays [] pairs = tt
pairs_go stays (v ∷ visits) pairs = (
  (λ stay w inside of_it. pairs v w (inl (refl, has_contained visits w inside)) of_it stay),
  pairs_go stays visits (λ u w before of_it stay. pairs u w (inr before) of_it stay),
)

-- ---- the same visits earlier

-- where the later of two was there before, the earlier was there as it is, and over
was_over : (old new : List VisitContent) (above : ℕ) (v w : VisitContent) → GoOn old new → AreOverBefore old → AreNumbered above new → Before new v w → Has old w → is_visit_of v.container w ≡ true → Has old v × (is_some v.departure ≡ true)
was_over [] new above v w on over numbered before has of_it = absurd has
was_over (o ∷ old) [] above v w on over numbered before has of_it = absurd on
was_over (o ∷ old) (n ∷ new) above v w on over numbered before (inl here) of_it =
    let far = above_has n.number new w numbered.1 (second before) in
    let same : o.number ≡ w.number = ap (λ (x : VisitContent). x.number) here in
    let own : n.number ≡ o.number = on.0.number in
    absurd (omega (arith, far, same, own))
  where
    second : ((n ≡ v) × Has new w) ⊎ Before new v w → Has new w
    second (inl here) = here.1
    second (inr later) = before_second new v w later
was_over (o ∷ old) (n ∷ new) above v w on over numbered (inl here) (inr later) of_it =
    let box : v.container ≡ o.container = ap (λ (x : VisitContent). x.container) (sym here.0) ∙ on.0.container in
    let first : is_some o.departure ≡ true = over.0 w later (ap (bytes_eq w.container) (sym box) ∙ of_it) in
    let same : o ≡ v = sym (on.0.over first) ∙ here.0 in
    (inl same, ap (λ (x : VisitContent). is_some x.departure) (sym same) ∙ first)
was_over (o ∷ old) (n ∷ new) above v w on over numbered (inr before) (inr later) of_it =
    let rest = was_over old new n.number v w on.1 over.1 numbered.1 before later of_it in
    (inr rest.0, rest.1)

-- ---- a closing

module _ (now_stays then_stays stays : ℕ → Bool) (then whole own copy : List VisitContent) (own_is : own ≡ own_visits now_stays whole) (copy_is : copy ≡ own_visits then_stays then)
    (on : GoOn then whole) (over : AreOverBefore then) (numbered : AreNumbered 0 whole) (still : (number : ℕ) → now_stays number ≡ true → then_stays number ≡ true) (puts : PutsAwayOver own copy stays) where
  pair_goes : (v w : VisitContent) → Before own v w → is_visit_of v.container w ≡ true → stays v.number ≡ true → stays w.number ≡ true
  pair_goes v w before of_it stay = by (stays w.number) refl
    where
      there : IsBefore now_stays whole v w
      there = own_before now_stays whole v w (subst (λ l. Before l v w) own_is before)

      never : stays w.number ≡ false → ⊥
      never gone =
          let goes = puts.only w (contained_has own w (before_second own v w before)) gone in
          let copied = had_filtered (is_own then_stays) then w (has_contained (own_visits then_stays then) w (subst (λ l. Contains l w) copy_is goes.0)) in
          let was = was_over then whole 0 v w on over numbered there.before copied.0 of_it in
          let stood : Contains copy v = subst (λ l. Contains l v) (sym copy_is) (contained_has (own_visits then_stays then) v (has_filtered (is_own then_stays) then v was.0 (still v.number there.first))) in
          let less = before_less 0 whole v w numbered there.before in
          let goes_too : stays v.number ≡ false = puts.each v (contained_has own v (before_first own v w before)) stood was.1 (omega (arith, less, goes.1)) in
          let bad : true ≡ false = sym stay ∙ goes_too in
          absurd cc

      by : (stay : Bool) → stays w.number ≡ stay → stays w.number ≡ true
      by true e = e
      by false e = absurd (never e)

  pub full_goes : GoOldestFirst stays own
  full_goes = pairs_go stays own pair_goes

pub full_closings : FullClosingsGoOldestFirst
full_closings content es archived own whole closed_before archive stays given are copy still puts =
    let day = copy.at_its_day in
    let then_is = visits_same content copy.earlier copy.whole copy.parts.after in
    let now_is = visits_same content es whole are.after in
    let go_on : GoOn (machine_after content copy.earlier).terminal.visits (machine_after content es).terminal.visits =
    subst (λ l. GoOn (machine_after content copy.earlier).terminal.visits (machine_after content l).terminal.visits) (sym day) (later_go_on content copy.earlier copy.later given copy.unmigrated) in
    full_goes archived.stays copy.archived.stays stays (machine_after content copy.earlier).terminal.visits (machine_after content es).terminal.visits own.visits archive.rows.visits
    (are.parts.visits ∙ ap (own_visits archived.stays) now_is) (ap (λ (r : Rows). r.visits) copy.is_own ∙ copy.parts.parts.visits ∙ ap (own_visits copy.archived.stays) then_is)
    go_on (after_ordered content copy.earlier given).over (after_ordered content es given).whole.numbered still puts

-- ---- in the order of their numbers

module _ (stays : ℕ → Bool) (last : ℕ) where
  abbrev stays_yet : ℕ → Bool
  stays_yet number = stays number || nat_lt last number

  later_stays : (v w : VisitContent) → v.number < w.number → (stays v.number ≡ true → stays w.number ≡ true) → stays_yet v.number ≡ true → stays_yet w.number ≡ true
  later_stays v w far stay yet = elim (or_cases (stays v.number) (nat_lt last v.number) yet) [
    | inl own ↦ or_left (stays w.number) (nat_lt last w.number) (stay own)
    | inr beyond ↦ let more : last < v.number = ltb-true last v.number beyond in or_right (stays w.number) (nat_lt last w.number) (lt-ltb last w.number (omega (arith, more, far)))
  ]

  go_in_order : (above : ℕ) (visits : List VisitContent) → AreNumbered above visits → GoOldestFirst stays visits → GoOldestFirst stays_yet visits
  go_in_order above [] numbered first = tt
  go_in_order above (v ∷ visits) numbered first = (
    (λ yet w inside of_it. later_stays v w (above_has v.number visits w numbered.1 (has_contained visits w inside)) (λ own. first.0 own w inside of_it) yet),
    go_in_order v.number visits numbered.1 first.1,
  )

pub clearings_go : ClearingsGoOldestFirst
clearings_go content es archived own whole stays last given are first =
    let own_is : own.visits ≡ own_visits archived.stays (machine_after content es).terminal.visits = are.parts.visits ∙ ap (own_visits archived.stays) (visits_same content es whole are.after) in
    let numbered : AreNumbered 0 own.visits = subst (AreNumbered 0) (sym own_is) (own_rise archived.stays 0 (machine_after content es).terminal.visits (after_ordered content es given).whole.numbered) in
    go_in_order stays last 0 own.visits numbered first
