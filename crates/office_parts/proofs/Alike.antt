-- Lists of deliveries with the same texts kept and the same order come to the same.
use Rattle.std.{specs.{Prelude.{nat_le, if◌then◌else◌}, Option.{option_or, unwrap_or}, List.AllByRecursion}, proofs.lemmas.List.{append-nil, length-append}}
use Rattle.std.proofs.Common.{◌≡◌, ◌⊎◌, inl, inr, ℕ, suc, ◌+◌, List, [], ◌∷◌, ◌++◌, length, ◌≤◌, arith, Bool, true, false, cond, Option, None, Some, is_some, refl, sym, ap, subst, ◌∙◌, append_assoc, ◌≢◌, ◌<◌}
use Rattle.std.proofs.{lemmas.Bool.{cases_Bool, cond-true, cond-false, lt-leb, false_from_ne_true, cases_order}, lemmas.List.Elements.All-from_recursion}
use Rattle.std.proofs.lemmas.Grind.{flat_map-append}
use Rattle.partner_core.specs.{Machine.Taking, Deliveries.{Delivery, first_text, is_under, is_used, run}, Growth.ComesToSame}
use Rattle.partner_core.specs.Order.{numbers_between, numbers_made_next, order, text_under, state_after, reply_among, state, reply_of}
use Rattle.partner_core.{specs.Answers.{answer_of, is_other, Taken, Repeat, Waiting, Clash}, proofs.OnceEach.{adds_nothing, under_self}}
use Rattle.partner_core.proofs.Orders.{used_within_run, free_after_run, beyond_run, run_is, order-append, first-new, none_of}
use Rattle.office_parts.specs.{Kept.{kept_after, kept, IsFirst, KeptAdds, KeptAreFirst, DecidesSame, KeptDecides}, TextPages.TextsHaveOnePage}
use Rattle.edi_syntax.specs.Bytes.{line_feed}
use Rattle.office_loading.specs.Pages.{lines_of, IsFull, IsPage}

pub record Alike (ds es : List Delivery) : Type 0 where
  pub firsts : (q j : ℕ) → first_text ds q j ≡ first_text es q j
  pub orders : order ds ≡ order es

pub run-alike : (ds es : List Delivery) → Alike ds es → (q : ℕ) → run ds q ≡ run es q
run-alike ds es a q =
    run_is ds q (run es q) (λ k l m. ap is_some (a.firsts q k) ∙ used_within_run es q k l m) (a.firsts q (run es q + 1) ∙ free_after_run es q)

first-append : (ds : List Delivery) (d : Delivery) (q j : ℕ) → first_text (ds ++ d ∷ []) q j ≡ option_or (first_text ds q j) (first_text (d ∷ []) q j)
first-append [] d q j = refl
first-append (e ∷ ds) d q j = on (is_under e q j) (first-append ds d q j)
  where
    on : (b : Bool) → first_text (ds ++ d ∷ []) q j ≡ option_or (first_text ds q j) (first_text (d ∷ []) q j)
        → cond b (Some e.text) (first_text (ds ++ d ∷ []) q j) ≡ option_or (cond b (Some e.text) (first_text ds q j)) (first_text (d ∷ []) q j)
    on true h = refl
    on false h = h

firsts-more : (ds es : List Delivery) → Alike ds es → (d : Delivery) → (q j : ℕ) → first_text (ds ++ d ∷ []) q j ≡ first_text (es ++ d ∷ []) q j
firsts-more ds es a d q j = first-append ds d q j ∙ ap (λ o. option_or o (first_text (d ∷ []) q j)) (a.firsts q j) ∙ sym (first-append es d q j)

run-more : (ds es : List Delivery) → Alike ds es → (d : Delivery) → (q : ℕ) → run (ds ++ d ∷ []) q ≡ run (es ++ d ∷ []) q
run-more ds es a d q =
    run_is (ds ++ d ∷ []) q (run (es ++ d ∷ []) q)
    (λ k l m. ap is_some (firsts-more ds es a d q k) ∙ used_within_run (es ++ d ∷ []) q k l m)
    (firsts-more ds es a d q (run (es ++ d ∷ []) q + 1) ∙ free_after_run (es ++ d ∷ []) q)

made_next-alike : (ds es : List Delivery) → Alike ds es → (d : Delivery) → numbers_made_next ds d ≡ numbers_made_next es d
unfolding numbers_made_next
made_next-alike ds es a d = λ i. numbers_between d.partner (run-alike ds es a d.partner i) (run-more ds es a d d.partner i)

pub alike-more : (ds es : List Delivery) → Alike ds es → (d : Delivery) → Alike (ds ++ d ∷ []) (es ++ d ∷ [])
alike-more ds es a d = record {
  firsts = firsts-more ds es a d;
  orders = order-append ds d ∙ (λ i. a.orders i ++ made_next-alike ds es a d i) ∙ sym (order-append es d);
}

pub alike-self : (ds : List Delivery) → Alike ds ds
alike-self ds = record { firsts = λ q j. refl; orders = refl }

pub alike-back : (ds es : List Delivery) → Alike ds es → Alike es ds
alike-back ds es a = record { firsts = λ q j. sym (a.firsts q j); orders = sym a.orders }

pub alike-trans : (ds es fs : List Delivery) → Alike ds es → Alike es fs → Alike ds fs
alike-trans ds es fs a b = record { firsts = λ q j. a.firsts q j ∙ b.firsts q j; orders = a.orders ∙ b.orders }

alike-nothing : (ds : List Delivery) (d : Delivery) → is_used ds d.partner d.number ≡ true → Alike ds (ds ++ d ∷ [])
alike-nothing ds d used =
    let adds = adds_nothing {S = ℕ} (λ s p t. (s, [])) 0 ds d used in
    record { firsts = λ q j. sym (adds.first q j); orders = sym adds.in_order }

-- whatever comes later
pub alike-all : (ds es later : List Delivery) → Alike ds es → Alike (ds ++ later) (es ++ later)
alike-all ds es [] a = subst (λ xs. Alike xs (es ++ [])) (sym (append-nil ds)) (subst (Alike ds) (sym (append-nil es)) a)
alike-all ds es (d ∷ later) a =
    let h : Alike ((ds ++ d ∷ []) ++ later) ((es ++ d ∷ []) ++ later) = alike-all (ds ++ d ∷ []) (es ++ d ∷ []) later (alike-more ds es a d) in
    let e = append_assoc ds (d ∷ []) later in
    let f = append_assoc es (d ∷ []) later in
    rw (e, f) at h

pub alike-kept : (there before ds : List Delivery) → Alike there before → Alike (there ++ kept_after before ds) (before ++ ds)
alike-kept there before [] a = alike-all there before [] a
alike-kept there before (d ∷ ds) a =
    on (is_used before d.partner d.number) refl
    (λ used. alike-kept there (before ++ d ∷ []) ds (alike-trans there before (before ++ d ∷ []) a (alike-nothing before d used)))
    (alike-kept (there ++ d ∷ []) (before ++ d ∷ []) ds (alike-more there before a d))
  where
    behind : (xs ys : List Delivery) → Alike xs ((before ++ d ∷ []) ++ ds) → xs ≡ ys → Alike ys (before ++ d ∷ ds)
    behind xs ys h e = let f = append_assoc before (d ∷ []) ds in rw (e, f) at h

    on : (b : Bool) → is_used before d.partner d.number ≡ b
        → (is_used before d.partner d.number ≡ true → Alike (there ++ kept_after (before ++ d ∷ []) ds) ((before ++ d ∷ []) ++ ds))
        → Alike ((there ++ d ∷ []) ++ kept_after (before ++ d ∷ []) ds) ((before ++ d ∷ []) ++ ds)
        → Alike (there ++ cond b (kept_after (before ++ d ∷ []) ds) (d ∷ kept_after (before ++ d ∷ []) ds)) (before ++ d ∷ ds)
    on true used passed kept_too = behind (there ++ kept_after (before ++ d ∷ []) ds) (there ++ kept_after (before ++ d ∷ []) ds) (passed used) refl
    on false free passed kept_too =
        behind ((there ++ d ∷ []) ++ kept_after (before ++ d ∷ []) ds) (there ++ d ∷ kept_after (before ++ d ∷ []) ds) kept_too
        (append_assoc there (d ∷ []) (kept_after (before ++ d ∷ []) ds))

pub kept_alike : (ds : List Delivery) → Alike (kept ds) ds
unfolding kept
kept_alike ds = alike-kept [] [] ds (alike-self [])

-- ---- what they come to

texts-alike : (ds es : List Delivery) → Alike ds es → text_under ds ≡ text_under es
texts-alike ds es a = λ i q k. unwrap_or (a.firsts q k i) []

module _ {S : Type 0} (taken : Taking S) (opening : S) where
  pub comes_alike : (ds es : List Delivery) → Alike ds es → ComesToSame taken opening ds es
  unfolding state reply_of
  comes_alike ds es a = record {
    runs = run-alike ds es a;
    in_order = a.orders;
    state_is = λ i. state_after taken (texts-alike ds es a i) (a.orders i) opening;
    replies = λ q j i. reply_among taken (texts-alike ds es a i) (a.orders i) opening q j;
  }

  answer-alike : (ds es : List Delivery) → Alike ds es → (d : Delivery) → answer_of taken opening ds d ≡ answer_of taken opening es d
  unfolding answer_of
  answer-alike ds es a d =
      let now = comes_alike ds es a in
      let then_ = comes_alike (ds ++ d ∷ []) (es ++ d ∷ []) (alike-more ds es a d) in
      λ i.
      if is_other (a.firsts d.partner d.number i) d.text
      then Clash
      else if nat_le d.number (now.runs d.partner i)
      then Repeat (now.replies d.partner d.number i)
      else if nat_le d.number (then_.runs d.partner i)
      then Taken (then_.replies d.partner d.number i)
      else Waiting (now.runs d.partner i + 1)

  pub decides_alike : (ds es : List Delivery) → Alike ds es → DecidesSame taken opening ds es
  decides_alike ds es a = record { firsts = a.firsts; comes = comes_alike ds es a; answers = answer-alike ds es a }

pub kept_decides : {S : Type 0} (taken : Taking S) → KeptDecides taken
kept_decides taken opening ds later = decides_alike taken opening (kept ds ++ later) (ds ++ later) (alike-all (kept ds) ds later (kept_alike ds))

-- ---- one more

pub kept_after-append : (before ds es : List Delivery) → kept_after before (ds ++ es) ≡ kept_after before ds ++ kept_after (before ++ ds) es
kept_after-append before [] es = ap (λ b. kept_after b es) (sym (append-nil before))
kept_after-append before (d ∷ ds) es =
    on (is_used before d.partner d.number) (kept_after-append (before ++ d ∷ []) ds es ∙ ap (λ b. kept_after (before ++ d ∷ []) ds ++ kept_after b es) (append_assoc before (d ∷ []) ds))
  where
    on : (b : Bool) → kept_after (before ++ d ∷ []) (ds ++ es) ≡ kept_after (before ++ d ∷ []) ds ++ kept_after (before ++ d ∷ ds) es
        → cond b (kept_after (before ++ d ∷ []) (ds ++ es)) (d ∷ kept_after (before ++ d ∷ []) (ds ++ es))
        ≡ cond b (kept_after (before ++ d ∷ []) ds) (d ∷ kept_after (before ++ d ∷ []) ds) ++ kept_after (before ++ d ∷ ds) es
    on true h = h
    on false h = ap (λ xs. d ∷ xs) h

pub kept-append : (ds es : List Delivery) → kept (ds ++ es) ≡ kept ds ++ kept_after ds es
unfolding kept
kept-append ds es = kept_after-append [] ds es

pub kept_adds : KeptAdds
kept_adds ds d = kept-append ds (d ∷ [])

-- of one delivery one is kept at most
pub kept_one : (before : List Delivery) (d : Delivery) → length (kept_after before (d ∷ [])) ≤ 1
kept_one before d = on (is_used before d.partner d.number)
  where
    on : (b : Bool) → length (cond b [] (d ∷ [])) ≤ 1
    on true = omega arith
    on false = omega arith

-- ---- what is kept keeps itself

kept_again : (there before ds : List Delivery) → Alike there before → kept_after there (kept_after before ds) ≡ kept_after before ds
kept_again there before [] a = refl
kept_again there before (d ∷ ds) a =
    on (is_used before d.partner d.number) refl
    (λ used. kept_again there (before ++ d ∷ []) ds (alike-trans there before (before ++ d ∷ []) a (alike-nothing before d used)))
    (kept_again (there ++ d ∷ []) (before ++ d ∷ []) ds (alike-more there before a d))
  where
    later : List Delivery
    later = kept_after (before ++ d ∷ []) ds

    on : (b : Bool) → is_used before d.partner d.number ≡ b
        → (is_used before d.partner d.number ≡ true → kept_after there later ≡ later)
        → kept_after (there ++ d ∷ []) later ≡ later
        → kept_after there (cond b later (d ∷ later)) ≡ cond b later (d ∷ later)
    on true used passed kept_too = passed used
    on false free passed kept_too =
        let new : is_used there d.partner d.number ≡ false = ap is_some (a.firsts d.partner d.number) ∙ free in
        ap (λ b. cond b (kept_after (there ++ d ∷ []) later) (d ∷ kept_after (there ++ d ∷ []) later)) new ∙ ap (λ xs. d ∷ xs) kept_too

pub kept_twice : (ds : List Delivery) → kept (kept ds) ≡ kept ds
unfolding kept
kept_twice ds = kept_again [] [] ds (alike-self [])

-- ---- no number twice

kept_shorter : (before ds : List Delivery) → length (kept_after before ds) ≤ length ds
kept_shorter before [] = omega arith
kept_shorter before (d ∷ ds) = on (is_used before d.partner d.number) (kept_shorter (before ++ d ∷ []) ds)
  where
    on : (b : Bool) → length (kept_after (before ++ d ∷ []) ds) ≤ length ds → length (cond b (kept_after (before ++ d ∷ []) ds) (d ∷ kept_after (before ++ d ∷ []) ds)) ≤ suc (length ds)
    on true h = omega arith
    on false h = omega arith

-- no number stands twice among what is kept
pub new_among : (before later : List Delivery) (d : Delivery) → kept (before ++ d ∷ later) ≡ before ++ d ∷ later → is_used before d.partner d.number ≡ false
unfolding kept
new_among before later d all = false_from_ne_true (is_used before d.partner d.number) (λ used.
    let left = kept_after (before ++ d ∷ []) later in
    let passed : kept_after before (d ∷ later) ≡ left = ap (λ b. cond b left (d ∷ left)) used in
    let parts : kept_after [] before ++ left ≡ before ++ d ∷ later = ap (λ l. kept_after [] before ++ l) (sym passed) ∙ sym (kept_after-append [] before (d ∷ later)) ∙ all in
    let low = kept_shorter [] before in
    let short = kept_shorter (before ++ d ∷ []) later in
    let one : length (kept_after [] before ++ left) ≡ length (kept_after [] before) + length left = length-append (kept_after [] before) left in
    let two : length (before ++ d ∷ later) ≡ length before + suc (length later) = length-append before (d ∷ later) in
    let same : length (kept_after [] before ++ left) ≡ length (before ++ d ∷ later) = ap length parts in
    omega arith)

-- ---- each is the first under its number

first-here : (before ds : List Delivery) (d : Delivery) → is_used before d.partner d.number ≡ false → first_text (before ++ d ∷ ds) d.partner d.number ≡ Some d.text
first-here before ds d free =
    first-new before (d ∷ ds) d.partner d.number (none_of (first_text before d.partner d.number) free)
    ∙ ap (λ b. cond b (Some d.text) (first_text ds d.partner d.number)) (under_self d)

firsts-after : (before ds : List Delivery) → AllByRecursion (IsFirst (before ++ ds)) (kept_after before ds)
firsts-after before [] = tt
firsts-after before (d ∷ ds) =
    let h : AllByRecursion (IsFirst ((before ++ d ∷ []) ++ ds)) (kept_after (before ++ d ∷ []) ds) = firsts-after (before ++ d ∷ []) ds in
    let e = append_assoc before (d ∷ []) ds in
    on (is_used before d.partner d.number) refl (subst (λ all. AllByRecursion (IsFirst all) (kept_after (before ++ d ∷ []) ds)) e h)
  where
    on : (b : Bool) → is_used before d.partner d.number ≡ b → AllByRecursion (IsFirst (before ++ d ∷ ds)) (kept_after (before ++ d ∷ []) ds)
        → AllByRecursion (IsFirst (before ++ d ∷ ds)) (cond b (kept_after (before ++ d ∷ []) ds) (d ∷ kept_after (before ++ d ∷ []) ds))
    on true used h = h
    on false free h = (first-here before ds d free, h)

pub firsts_are_kept : (ds : List Delivery) → AllByRecursion (IsFirst ds) (kept ds)
unfolding kept
firsts_are_kept ds = firsts-after [] ds

pub kept_are_first : KeptAreFirst
kept_are_first ds = All-from_recursion (IsFirst ds) (kept ds) (firsts_are_kept ds)

-- ---- the answer to what is new

module _ {S : Type 0} (taken : Taking S) (opening : S) where
  pub answered : (before : List Delivery) (d : Delivery) → 1 ≤ d.number → first_text before d.partner d.number ≡ None
      → ((reply : Option (List ℕ)) × (answer_of taken opening before d ≡ Taken reply)) ⊎ (answer_of taken opening before d ≡ Waiting (run before d.partner + 1))
  unfolding answer_of
  answered before d low free =
      let beyond : run before d.partner + 1 ≤ d.number = beyond_run before d.partner d.number low free in
      let not_yet : nat_le d.number (run before d.partner) ≡ false = lt-leb d.number (run before d.partner) (omega arith) in
      let reply = reply_of taken opening (before ++ d ∷ []) d.partner d.number in
      let told : answer_of taken opening before d ≡ cond (nat_le d.number (run (before ++ d ∷ []) d.partner)) (Taken reply) (Waiting (run before d.partner + 1)) =
      (λ i. cond (is_other (free i) d.text) Clash
      (cond (not_yet i) (Repeat (reply_of taken opening before d.partner d.number)) (cond (nat_le d.number (run (before ++ d ∷ []) d.partner)) (Taken reply) (Waiting (run before d.partner + 1))))) in
      elim (cases_Bool (nat_le d.number (run (before ++ d ∷ []) d.partner))) [
        | inl reached ↦ inl (reply, told ∙ cond-true _ (Taken reply) (Waiting (run before d.partner + 1)) reached)
        | inr waits ↦ inr (told ∙ cond-false _ (Taken reply) (Waiting (run before d.partner + 1)) waits)
      ]

-- ==== Pages: Texts have one page.

-- ---- one at most

-- the second front goes on where the first one ends
record IsLonger (page rest other : List (List ℕ)) : Type 0 where
  next : List ℕ
  more : List (List ℕ)
  others : List (List ℕ)
  rest_is : rest ≡ next ∷ others
  other_is : other ≡ page ++ next ∷ more

fronts : (page rest other left : List (List ℕ)) → page ++ rest ≡ other ++ left → (page ≡ other) ⊎ (IsLonger page rest other ⊎ IsLonger other left page)
fronts [] rest [] left e = inl refl
fronts [] rest (text ∷ other) left e =
    inr (inl (record { next = text; more = other; others = other ++ left; rest_is = e; other_is = refl }))
fronts (text ∷ page) rest [] left e =
    inr (inr (record { next = text; more = page; others = page ++ rest; rest_is = sym e; other_is = refl }))
fronts (text ∷ page) rest (first ∷ other) left e =
    let same : text ≡ first = cc in
    let on : page ++ rest ≡ other ++ left = cc in
    elim (fronts page rest other left on) [
      | inl is ↦ inl (λ i. same i ∷ is i)
      | inr longer ↦ inr (elim longer [
        | inl l ↦ inl (record { next = l.next; more = l.more; others = l.others; rest_is = l.rest_is; other_is = λ i. sym same i ∷ l.other_is i })
        | inr l ↦ inr (record { next = l.next; more = l.more; others = l.others; rest_is = l.rest_is; other_is = λ i. same i ∷ l.other_is i })
      ])
    ]

not_empty : (page : List (List ℕ)) → page ≢ [] → 1 ≤ length page
not_empty [] some = absurd (some refl)
not_empty (text ∷ page) some = omega arith

not_longer : (most : ℕ) (all page other : List (List ℕ)) (a : IsPage most all page) → IsPage most all other → IsLonger page a.later other → ⊥
not_longer most all page other a b longer =
    let ends : IsFull most page (longer.next ∷ longer.others) = subst (IsFull most page) longer.rest_is a.full in
    let one : 1 ≤ length page = not_empty page ends.0 in
    let over : most < length (lines_of (page ++ longer.next ∷ [])) = ends.1 in
    let texts : length other ≡ length page + suc (length longer.more) = ap length longer.other_is ∙ length-append page (longer.next ∷ longer.more) in
    let parts : (page ++ longer.next ∷ []) ++ longer.more ≡ other = append_assoc page (longer.next ∷ []) longer.more ∙ sym longer.other_is in
    let bytes : length (lines_of other) ≡ length (lines_of (page ++ longer.next ∷ [])) + length (lines_of longer.more) =
    ap (λ ts. length (lines_of ts)) (sym parts)
    ∙ ap length (flat_map-append (λ text. text ++ line_feed ∷ []) (page ++ longer.next ∷ []) longer.more)
    ∙ length-append (lines_of (page ++ longer.next ∷ [])) (lines_of longer.more) in
    elim b.fits [ inl few ↦ omega arith | inr low ↦ omega arith ]

one_page : (most : ℕ) (all page other : List (List ℕ)) → IsPage most all page → IsPage most all other → page ≡ other
one_page most all page other a b =
    elim (fronts page a.later other b.later (sym a.front ∙ b.front)) [
      | inl is ↦ is
      | inr longer ↦ elim longer [
        | inl l ↦ absurd (not_longer most all page other a b l)
        | inr l ↦ absurd (not_longer most all other page b a l)
      ]
    ]

-- ---- one at least

-- a page that begins with these
goes_on : (most : ℕ) (page rest : List (List ℕ)) → (length page ≤ 1) ⊎ (length (lines_of page) ≤ most) → 1 ≤ length page
    → (whole : List (List ℕ)) × IsPage most (page ++ rest) whole
goes_on most page [] fits one = (page, record { later = []; front = refl; fits = fits; full = tt })
goes_on most page (next ∷ rest) fits one =
    let more : (whole : List (List ℕ)) × IsPage most ((page ++ next ∷ []) ++ rest) whole → (whole : List (List ℕ)) × IsPage most (page ++ next ∷ rest) whole
    = λ h. subst (λ all. (whole : List (List ℕ)) × IsPage most all whole) (append_assoc page (next ∷ []) rest) h in
    let longer : length (page ++ next ∷ []) ≡ length page + 1 = length-append page (next ∷ []) in
    elim (cases_order (length (lines_of (page ++ next ∷ []))) most) [
      | inl same ↦ more (goes_on most (page ++ next ∷ []) rest (inr (omega arith)) (omega arith))
      | inr o ↦ elim o [
        | inl below ↦ more (goes_on most (page ++ next ∷ []) rest (inr (omega arith)) (omega arith))
        | inr above ↦ (
          page,
          record {
            later = next ∷ rest;
            front = refl;
            fits = fits;
            full = (λ empty. omega (arith, one, ap length empty), above);
          },
        )
      ]
    ]

has_page : (most : ℕ) (all : List (List ℕ)) → (page : List (List ℕ)) × IsPage most all page
has_page most [] = ([], record { later = []; front = refl; fits = inl (omega arith); full = tt })
has_page most (text ∷ all) = goes_on most (text ∷ []) all (inl (omega arith)) (omega arith)

pub texts_have_one_page : TextsHaveOnePage
texts_have_one_page = record { has = has_page; one = one_page }
