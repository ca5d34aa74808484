-- What was read of a piece, after the line breaks at its front.
use Rattle.std.proofs.Common.{◌≡◌, ℕ, zero, suc, ◌+◌, ◌-◌, ◌<◌, ◌≤◌, Bool, true, false, cond, nat_lt, List, [], ◌∷◌, ◌++◌, length, take, drop, Option, Some, None, IfSome, refl, sym, ap, subst, ◌∙◌, inl, inr, arith}
use Rattle.std.proofs.{lemmas.Bool.{cases_Bool, false≢true, ltb-true, ltb-false, eqb-true}, lemmas.List.{take_all, length-drop, append-nil}}
use Rattle.std.proofs.Math.Seq.{take-append-add}
use Rattle.edi_syntax.specs.{Characters.is_break, Reading.breaks_len, Advice.without_breaks, Steps.{Holds, IsReadOn, IsRefusedBehind}}
use Rattle.edi_syntax.specs.Cuts.{Cutting, fault_of, is_closed, is_whole, is_nil, IsOpenBefore, IsInterchange, IsPending, Faults, HasNoFault, Answers, Fails, FaultsWithin}
use Rattle.edi_syntax.{specs.{declared.position.Reading.Reading, declared.cutter.CutFault.CutFault}, proofs.PositionLemmas.{never_memory, no_breaks}}
use Rattle.edi_syntax.{specs.declared.cutter.CutFault.TheVariants.{TooLong, Service as ServiceFault, Segment, Memory}, proofs.CutLemmas.first_is_one}
use Rattle.edi_syntax.proofs.BehindLemmas.{none_left}

-- ---- line breaks at the front

-- the piece after its line breaks
pub record Begins (q piece rest : List ℕ) (b : ℕ) : Type 0 where
  pub within : b ≤ length piece
  pub len : length rest ≡ length piece - b
  pub begins : breaks_len (q ++ rest) ≡ 0
  pub front : (n : ℕ) → without_breaks (q ++ take (b + n) piece) ≡ q ++ take n rest
  pub all : without_breaks (q ++ piece) ≡ q ++ rest

whole_front : (a : ℕ) (bytes : List ℕ) → is_break a ≡ false → without_breaks (a ∷ bytes) ≡ a ∷ bytes
whole_front a bytes none = rw none refl

take_none : (n : ℕ) → take {A = ℕ} n [] ≡ []
take_none n = take_all n [] (omega arith)

front_breaks : (piece : List ℕ) (n m : ℕ) → m ≡ breaks_len piece + n → without_breaks (take m piece) ≡ take n (drop (breaks_len piece) piece)
front_breaks [] n m h = ap without_breaks (take_none m) ∙ sym (take_none n)
front_breaks (x ∷ xs) n zero h =
    elim (cases_Bool (is_break x)) [
      | inl is ↦ let h' = rw is at h in absurd (omega (arith, h'))
      | inr none ↦ let h' = rw none at h in let zero_is : n ≡ 0 = omega (arith, h') in rw (none, zero_is) refl
    ]
front_breaks (x ∷ xs) n (suc m) h =
    elim (cases_Bool (is_break x)) [
      | inl is ↦ let h' = rw is at h in rw is (front_breaks xs n m (omega (arith, h')))
      | inr none ↦ let h' = rw none at h in let same : n ≡ suc m = omega (arith, h') in rw (none, same) refl
    ]

breaks_within : (piece : List ℕ) → breaks_len piece ≤ length piece
breaks_within [] = omega arith
breaks_within (x ∷ xs) =
    elim (cases_Bool (is_break x)) [
      | inl is ↦ let h = breaks_within xs in rw is (omega (arith, h))
      | inr none ↦ rw none (omega arith)
    ]

some_bytes : (a : ℕ) (q : List ℕ) → is_nil (a ∷ q) ≡ false
some_bytes a q =
    elim (cases_Bool (is_nil (a ∷ q))) [
      | inl is ↦ absurd (omega (arith, eqb-true (length (a ∷ q)) 0 is))
      | inr none ↦ none
    ]

pub begins_of : (q piece rest : List ℕ) (b : ℕ) → breaks_len q ≡ 0 → b ≡ cond (is_nil q) (breaks_len piece) 0 → rest ≡ drop b piece → Begins q piece rest b
begins_of [] piece rest b none b_is rest_is =
    let same : rest ≡ drop (breaks_len piece) piece = rest_is ∙ ap (λ (n : ℕ). drop n piece) b_is in
    let w = breaks_within piece in
    record {
      within = omega (arith, w, b_is);
      len = ap length rest_is ∙ length-drop b piece;
      begins = ap breaks_len same ∙ none_left piece;
      front = λ n. front_breaks piece n (b + n) (omega (arith, b_is)) ∙ ap (take n) (sym same);
      all = sym same;
    }
begins_of (a ∷ q) piece rest b none b_is rest_is =
    let ahead : is_break a ≡ false = no_breaks (is_break a) (breaks_len q) none in
    let nought : b ≡ 0 = b_is ∙ ap (λ (v : Bool). cond v (breaks_len piece) 0) (some_bytes a q) in
    let same : rest ≡ piece = rest_is ∙ ap (λ (n : ℕ). drop n piece) nought in
    record {
      within = omega (arith, nought);
      len = ap length rest_is ∙ length-drop b piece;
      begins = rw ahead refl;
      front = λ n. whole_front a (q ++ take (b + n) piece) ahead ∙ ap (λ (m : ℕ). a ∷ q ++ take m piece) (omega (arith, nought)) ∙ ap (λ (t : List ℕ). a ∷ q ++ take n t) (sym same);
      all = whole_front a (q ++ piece) ahead ∙ ap (λ (t : List ℕ). a ∷ q ++ t) (sym same);
    }

-- ---- a piece that was read

no_fault_among : (text : List ℕ) (fault : CutFault) → fault_of text ≡ None → fault_of text ≡ Some fault → ⊥
no_fault_among text fault none some = let both = sym none ∙ some in absurd cc

-- open bytes have no fault at any front
pending_faultless : (text : List ℕ) → fault_of text ≡ None → IsOpenBefore text → (n : ℕ) (fault : CutFault) → Faults (take n text) fault → ⊥
pending_faultless text none before n fault faulty =
    elim (cases_Bool (nat_lt n (length text))) [
      | inl less ↦ no_fault_among (take n text) fault (before n (ltb-true n (length text) less)).0 faulty.0
      | inr past ↦ no_fault_among (take n text) fault (ap fault_of (take_all n text (ltb-false n (length text) past)) ∙ none) faulty.0
    ]

whole_is : (text : List ℕ) (reading : Reading) → Holds text reading → is_whole text ≡ is_closed reading.position
whole_is text reading h = sym (ap is_closed h.reads.1)

-- what was read is open or an interchange, and so no fault stands in the piece
pub faultless : (q piece rest : List ℕ) (b used : ℕ) (reading : Reading) → Begins q piece rest b → IsReadOn q rest used reading → HasNoFault (without_breaks (q ++ piece))
faultless q piece rest b used reading g r =
    let text : List ℕ = q ++ take used rest in
    subst HasNoFault (sym g.all)
    (elim (cases_Bool (is_whole text)) [
      | inl whole ↦ λ n fault faulty.
          (first_is_one (q ++ rest) (length q + used) n (subst IsInterchange (sym (take-append-add q rest used)) (r.holds.none, whole, r.holds.before))).1 fault faulty
      | inr less ↦
          let all : text ≡ q ++ rest = ap (λ (t : List ℕ). q ++ t) (take_all used rest (omega (arith, r.all less))) in
          pending_faultless (q ++ rest) (ap fault_of (sym all) ∙ r.holds.none) (subst IsOpenBefore all r.holds.before)
    ])

some_read : (q rest : List ℕ) (used : ℕ) → is_whole q ≡ false → is_whole (q ++ take used rest) ≡ true → 0 < used
some_read q rest zero open_ whole = absurd (false≢true (sym open_ ∙ ap is_whole (sym (append-nil q)) ∙ whole))
some_read q rest (suc used) open_ whole = omega arith

pub answers_read : (q piece rest : List ℕ) (b used : ℕ) (reading : Reading) (answer : Option ℕ) (new : Cutting) → Begins q piece rest b → IsReadOn q rest used reading → is_whole q ≡ false
    → answer ≡ cond (is_closed reading.position) (Some (b + used)) None → new ≡ record { text = q ++ take used rest; fault = None } → Answers q piece new answer
answers_read q piece rest b used reading answer new g r open_ answer_is is =
    subst (Answers q piece new) (sym answer_is) (either (is_closed reading.position) refl)
  where
    either : (closed : Bool) → is_closed reading.position ≡ closed → Answers q piece new (cond closed (Some (b + used)) None)
    either true h =
        let whole : is_whole (q ++ take used rest) ≡ true = whole_is (q ++ take used rest) reading r.holds ∙ h in
        let some = some_read q rest used open_ whole in
        let same = sym (g.front used) in (
          omega (arith, some),
          omega (arith, r.within, g.within, g.len),
          subst IsInterchange same (r.holds.none, whole, r.holds.before),
          is ∙ ap (λ (t : List ℕ). record { text = t; fault = None }) same,
        )
    either false h =
        let less : is_whole (q ++ take used rest) ≡ false = whole_is (q ++ take used rest) reading r.holds ∙ h in
        let same : q ++ take used rest ≡ without_breaks (q ++ piece) = ap (λ (t : List ℕ). q ++ t) (take_all used rest (omega (arith, r.all less))) ∙ sym g.all in
        (subst IsPending same ((r.holds.none, less), r.holds.before), is ∙ ap (λ (t : List ℕ). record { text = t; fault = None }) same)

pub used_of : (q piece : List ℕ) (new : Cutting) (answer : Option ℕ) → Answers q piece new answer → IfSome answer (λ n. (0 < n) × (n ≤ length piece))
used_of q piece new None h = tt
used_of q piece new (Some n) (some, within, done, is) = (some, within)

refused_within : (q piece rest : List ℕ) (b : ℕ) (new : Cutting) (fault : CutFault) → Begins q piece rest b → IsRefusedBehind q rest fault → new ≡ record { text = []; fault = Some fault } → FaultsWithin q piece new fault
refused_within q piece rest b new fault g (n, within, faults) is =
    (b + n, omega (arith, within, g.within, g.len), subst (λ (t : List ℕ). Faults t fault) (sym (g.front n)) faults, is)

pub fails_read : (old : Cutting) (q piece rest : List ℕ) (b : ℕ) (new : Cutting) (fault : CutFault) → Begins q piece rest b → IsRefusedBehind q rest fault → new ≡ record { text = []; fault = Some fault } → Fails old q piece new fault
fails_read old q piece rest b new TooLong g r is = refused_within q piece rest b new TooLong g r is
fails_read old q piece rest b new ServiceFault g r is = refused_within q piece rest b new ServiceFault g r is
fails_read old q piece rest b new Segment g r is = refused_within q piece rest b new Segment g r is
fails_read old q piece rest b new Memory g r is = absurd (never_memory (q ++ take r.0 rest) r.2.0)

-- what is kept, where nothing is
pub rest_of : (piece rest : List ℕ) (b : ℕ) → rest ≡ take (length piece - b) (drop b piece) → rest ≡ drop b piece
rest_of piece rest b is = is ∙ take_all (length piece - b) (drop b piece) (omega (arith, length-drop b piece))

-- ---- the same of what is seen

pub read_of : (q shown rest : List ℕ) (used : ℕ) (reading : Reading) → shown ≡ q → IsReadOn shown rest used reading → IsReadOn q rest used reading
read_of q shown rest used reading is r = subst (λ (t : List ℕ). IsReadOn t rest used reading) is r

pub refused_of : (q shown rest : List ℕ) (fault : CutFault) → shown ≡ q → IsRefusedBehind shown rest fault → IsRefusedBehind q rest fault
refused_of q shown rest fault is r = subst (λ (t : List ℕ). IsRefusedBehind t rest fault) is r

pub holds_of : (q shown rest : List ℕ) (used : ℕ) (reading : Reading) → shown ≡ q → IsReadOn shown rest used reading → Holds (q ++ take used rest) reading
holds_of q shown rest used reading is r = (read_of q shown rest used reading is r).holds

pub running_of : (new : Cutting) (text : List ℕ) (fault : Option CutFault) → new ≡ record { text = text; fault = fault } → fault ≡ None → new ≡ record { text = text; fault = None }
running_of new text fault is running = is ∙ ap (λ (f : Option CutFault). record { text = text; fault = f }) running

pub answer_of : (answer : Option ℕ) (n : ℕ) (found closed : Bool) → answer ≡ cond found (Some n) None → found ≡ closed → answer ≡ cond closed (Some n) None
answer_of answer n found closed is same = is ∙ ap (λ (b : Bool). cond b (Some n) None) same
