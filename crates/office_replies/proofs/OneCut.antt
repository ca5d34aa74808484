-- A stream has one list of interchanges and one end.
use Rattle.std.proofs.Common.{◌≡◌, ◌≢◌, ℕ, ◌<◌, nat_lt, List, [], ◌∷◌, ◌++◌, length, take, Option, None, Some, refl, sym, ap, subst, ◌∙◌, inl, inr, arith}
use Rattle.std.proofs.lemmas.Bool.{true≢false, cases_Bool, ltb-true, ltb-false}
use Rattle.std.proofs.lemmas.List.{take_at, take-take, append-nil, append_cancel_left, length-append}
use Rattle.edi_syntax.specs.{Advice.without_breaks, Cuts.{fault_of, IsOpen, IsOpenBefore, IsInterchange, IsPending, Faults}, declared.cutter.CutFault.CutFault}
use Rattle.edi_syntax.{specs.declared.cutter.CutFault.TheVariants.{TooLong, Service, Segment, Memory}, proofs.CutLemmas.first_is_one}
use Rattle.office_replies.specs.{Streams.{IsCutBy, EndsAs, Cuts, CutsAreOne}, declared.stream.StreamEnd.StreamEnd}
use Rattle.office_replies.specs.declared.stream.StreamEnd.TheVariants.{Whole, Open, Cut}
use Rattle.office_replies.proofs.PartLemmas.{some_bytes, some_faulty, no_fault_there, no_front}

-- ---- fronts of the same bytes

taken : (rest front behind : List ℕ) → rest ≡ front ++ behind → take (length front) rest ≡ front
taken rest front behind is = ap (take (length front)) is ∙ take_at front behind (length front) refl

shorter : (rest front behind front' behind' : List ℕ) → rest ≡ front ++ behind → rest ≡ front' ++ behind' → length front < length front' →
    IsOpenBefore front' → IsOpen front
shorter rest front behind front' behind' is is' less before =
    subst IsOpen (ap (take (length front)) (sym (taken rest front' behind' is')) ∙ take-take (length front) (length front') rest (omega arith) ∙ taken rest front behind is)
    (before (length front) less)

-- a front of less than an interchange
open_front : (rest front behind : List ℕ) → rest ≡ front ++ behind → IsPending rest → IsOpen front
open_front rest front [] is pends = subst IsOpen (is ∙ append-nil front) pends.0
open_front rest front (b ∷ behind) is pends =
    subst IsOpen (taken rest front (b ∷ behind) is) (pends.1 (length front) (omega (arith, ap length is, length-append front (b ∷ behind))))

-- ---- an interchange, or an end

same_first : (rest text behind text' behind' : List ℕ) → rest ≡ text ++ behind → rest ≡ text' ++ behind' → IsInterchange text → IsInterchange text' → text ≡ text'
same_first rest text behind text' behind' is is' one one' =
    let front = taken rest text behind is in
    let front' = taken rest text' behind' is' in
    sym front ∙ (first_is_one rest (length text) (length text') (subst IsInterchange (sym front) one)).0 (subst IsInterchange (sym front') one') ∙ front'

not_faulty : (rest text behind : List ℕ) (fault : CutFault) → rest ≡ text ++ behind → IsInterchange text → IsCutBy fault rest → ⊥
not_faulty rest text behind fault is one (front, behind', faults, is') =
    (first_is_one rest (length text) (length front) (subst IsInterchange (sym (taken rest text behind is)) one)).1 fault
    (subst (λ part. Faults part fault) (sym (taken rest front behind' is')) faults)

cut_by : (fault : CutFault) (rest : List ℕ) → Cut fault ≢ Cut Memory → EndsAs (Cut fault) rest → IsCutBy fault rest
cut_by TooLong rest sure at = at
cut_by Service rest sure at = at
cut_by Segment rest sure at = at
cut_by Memory rest sure at = absurd (sure refl)

not_both : (rest text behind : List ℕ) (end : StreamEnd) → end ≢ Cut Memory → rest ≡ text ++ behind → IsInterchange text → EndsAs end rest → ⊥
not_both rest text behind Whole sure is one at = some_bytes text one (no_front text behind (sym is ∙ at))
not_both rest text behind Open sure is one at = true≢false (sym one.1 ∙ (open_front rest text behind is at.0).1)
not_both rest text behind (Cut fault) sure is one at = not_faulty rest text behind fault is one (cut_by fault rest sure at)

-- ---- one end

unsome : CutFault → Option CutFault → CutFault
unsome other None = other
unsome other (Some fault) = fault

same_fault_at : (front front' : List ℕ) (fault fault' : CutFault) → front ≡ front' → Faults front fault → Faults front' fault' → fault ≡ fault'
unfolding unsome
same_fault_at front front' fault fault' same faults faults' = ap (unsome fault) (sym faults.0 ∙ ap fault_of same ∙ faults'.0)

same_fault : (rest : List ℕ) (fault fault' : CutFault) → IsCutBy fault rest → IsCutBy fault' rest → fault ≡ fault'
same_fault rest fault fault' (front, behind, faults, is) (front', behind', faults', is') =
    elim (cases_Bool (nat_lt (length front) (length front'))) [
      | inl less ↦ absurd (no_fault_there front fault (shorter rest front behind front' behind' is is' (ltb-true _ _ less) faults'.1).0 faults.0)
      | inr more ↦ elim (cases_Bool (nat_lt (length front') (length front))) [
        | inl less ↦ absurd (no_fault_there front' fault' (shorter rest front' behind' front behind is' is (ltb-true _ _ less) faults.1).0 faults'.0)
        | inr more' ↦
            let le = ltb-false (length front) (length front') more in
            let le' = ltb-false (length front') (length front) more' in
            let equal : length front ≡ length front' = omega arith in
            same_fault_at front front' fault fault' (sym (taken rest front behind is) ∙ ap (λ (n : ℕ). take n rest) equal ∙ taken rest front' behind' is') faults faults'
      ]
    ]

whole_not_cut : (rest : List ℕ) (fault : CutFault) → rest ≡ [] → IsCutBy fault rest → ⊥
whole_not_cut rest fault none (front, behind, faults, is) = some_faulty front fault faults (no_front front behind (sym is ∙ none))

open_not_cut : (rest : List ℕ) (fault : CutFault) → IsPending rest → IsCutBy fault rest → ⊥
open_not_cut rest fault pends (front, behind, faults, is) = no_fault_there front fault (open_front rest front behind is pends).0 faults.0

same_end : (rest : List ℕ) (end end' : StreamEnd) → end ≢ Cut Memory → end' ≢ Cut Memory → EndsAs end rest → EndsAs end' rest → end ≡ end'
same_end rest Whole Whole sure sure' at at' = refl
same_end rest Whole Open sure sure' at at' = absurd (at'.1 at)
same_end rest Whole (Cut fault) sure sure' at at' = absurd (whole_not_cut rest fault at (cut_by fault rest sure' at'))
same_end rest Open Whole sure sure' at at' = absurd (at.1 at')
same_end rest Open Open sure sure' at at' = refl
same_end rest Open (Cut fault) sure sure' at at' = absurd (open_not_cut rest fault at.0 (cut_by fault rest sure' at'))
same_end rest (Cut fault) Whole sure sure' at at' = absurd (whole_not_cut rest fault at' (cut_by fault rest sure at))
same_end rest (Cut fault) Open sure sure' at at' = absurd (open_not_cut rest fault at'.0 (cut_by fault rest sure at))
same_end rest (Cut fault) (Cut fault') sure sure' at at' =
    ap (λ (f : CutFault). Cut f) (same_fault rest fault fault' (cut_by fault rest sure at) (cut_by fault' rest sure' at'))

-- ---- one list

pub cuts_are_one : CutsAreOne
cuts_are_one stream [] [] end end' sure sure' at at' = (refl, same_end (without_breaks stream) end end' sure sure' at at')
cuts_are_one stream [] (text ∷ texts) end end' sure sure' at (behind, one, is, others) = absurd (not_both (without_breaks stream) text behind end sure is one at)
cuts_are_one stream (text ∷ texts) [] end end' sure sure' (behind, one, is, others) at = absurd (not_both (without_breaks stream) text behind end' sure' is one at)
cuts_are_one stream (text ∷ texts) (text' ∷ texts') end end' sure sure' (behind, one, is, others) (behind', one', is', others') =
    let same : text ≡ text' = same_first (without_breaks stream) text behind text' behind' is is' one one' in
    let behind_same : behind ≡ behind' = append_cancel_left text behind behind' (sym is ∙ is' ∙ ap (λ (t : List ℕ). t ++ behind') (sym same)) in
    let more = cuts_are_one behind texts texts' end end' sure sure' others (subst (λ (t : List ℕ). Cuts t texts' end') (sym behind_same) others') in
    (ap (λ (t : List ℕ). t ∷ texts) same ∙ ap (λ (t : List (List ℕ)). text' ∷ t) more.0, more.1)
