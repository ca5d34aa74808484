-- Seals: what adding one interchange after the other comes to, of a partner's numbers and then of the next one's.
use Rattle.std.specs.{Prelude.{◌↔◌, IfSome, OnOk, is_ok, option_map, option_to_list, string_bytes}, List.{flat_map, range_with_len}, Option.unwrap_or}
use Rattle.std.proofs.Common.{◌≡◌, ℕ, zero, suc, ◌+◌, ◌-◌, ◌<◌, ◌≤◌, max, nat_lt, List, [], ◌∷◌, ◌++◌, filter, get_or, take, Bool, true, false, ◌&&◌, cond, eqb, if◌then◌else◌, Option, None, Some, Result, Ok, Err, String, length, fold, refl, sym, ap, subst, ◌∙◌, append_assoc, arith}
use Rattle.std.proofs.{lemmas.List.append-nil, lemmas.List.Elements.filter_more, lemmas.List.Sums.fold-append, lemmas.Grind.flat_map-append}
use Rattle.office_rows.specs.Rows.{Interchange, Rows}
use Rattle.office_history.specs.After.{AreKeptOnce}
use Rattle.office_tables.{specs.{Answers.{IsKept, RepliesAs}, declared.interchanges.Kept.Kept}, proofs.WriteLemmas.{none_kept, one_kept}}
use Rattle.office_closing.{specs.{declared.comparing.Numbers.Numbers, declared.register.Segment.Segment, Register.{RegisterContent, SealedContent, is_of, last_closed}}, proofs.Created.{last_pushed, no_higher}}
use Rattle.office_closing.specs.Seals.{HasSealOf, HasSeals, KeptContent, Sealed, SealingContent, add_any, add_one, closed_at, content_of_kept, end_partner, kept_at, kept_content, kept_under, most_sealed, pieces_after, seal_at, seal_of, sealed_with, seals_of, seals_under, with_kept}

-- what a call that did not fail has done
pub on_ok_is : {T E P : Type 0} (result : Result T E) → OnOk result P → is_ok result ≡ true → P
on_ok_is (Ok value) done e = done
on_ok_is (Err error) done e = absurd cc

-- ---- what was closed before an archive

module _ (place partner : ℕ) (segments : List Segment) (i : ℕ) (d : Segment) where
  abbrev is_before : Segment → Bool
  is_before one = nat_lt one.archive place

  abbrev one : Segment
  one = get_or segments i d

  abbrev before : List Segment
  before = filter is_before (take i segments)

  last_with : (b : Bool) → max (last_closed before partner) (if b && is_of partner one then one.last else 0) ≡ last_closed (before ++ cond b (one ∷ []) []) partner
  last_with true = sym (last_pushed partner before one)
  last_with false = no_higher (last_closed before partner) ∙ sym (ap (λ l. last_closed l partner) (append-nil before))

  -- one more segment
  pub before_more : (last : ℕ) → i < length segments → last ≡ last_closed before partner
      → max last (if is_before one && is_of partner one then one.last else 0) ≡ last_closed (filter is_before (take (i + 1) segments)) partner
  before_more last within is =
      ap (λ n. max n (if is_before one && is_of partner one then one.last else 0)) is ∙ last_with (is_before one)
      ∙ sym (ap (λ l. last_closed l partner) (filter_more is_before segments i d within))

-- ---- pieces

-- seals so far, and those of a piece and what comes after it
abbrev sealed_then : List ℕ → List (List KeptContent) → SealingContent
sealed_then seals pieces = record { seals = seals ++ flat_map seal_of pieces; piece = [] }

-- one is added and the rest after it, or its piece is full
add_then : (is_full : Bool) (one : KeptContent) (kept : List KeptContent) (seals : List ℕ) (piece : List KeptContent)
    → ((next : SealingContent) → end_partner (fold add_one next kept) ≡ sealed_then next.seals (pieces_after kept next.piece))
    → end_partner (fold add_one (cond is_full (record { seals = seals ++ seal_of (piece ++ one ∷ []); piece = [] }) (record { seals = seals; piece = piece ++ one ∷ [] })) kept)
    ≡ sealed_then seals (cond is_full ((piece ++ one ∷ []) ∷ pieces_after kept []) (pieces_after kept (piece ++ one ∷ [])))
add_then true one kept seals piece all =
    let regrouped = append_assoc seals (seal_of (piece ++ one ∷ [])) (flat_map seal_of (pieces_after kept [])) in
    all (record { seals = seals ++ seal_of (piece ++ one ∷ []); piece = [] }) ∙ (λ i. record { seals = regrouped i; piece = [] })
add_then false one kept seals piece all = all (record { seals = seals; piece = piece ++ one ∷ [] })

-- all that is kept is added, and a partner's numbers end: each piece has its seal
ended : (kept : List KeptContent) (sealing : SealingContent) → end_partner (fold add_one sealing kept) ≡ sealed_then sealing.seals (pieces_after kept sealing.piece)
ended [] sealing = refl
ended (one ∷ kept) sealing = add_then (eqb (length sealing.piece + 1) most_sealed) one kept sealing.seals sealing.piece (λ next. ended kept next)

-- ---- a partner's numbers, one after the other

range_more : (a n : ℕ) → range_with_len a (suc n) ≡ range_with_len a n ++ (a + n) ∷ []
range_more a zero = ap (λ k. k ∷ []) (plus_none a)
  where
    plus_none : (k : ℕ) → k ≡ k + 0
    plus_none k = omega arith
range_more a (suc n) = ap (λ l. a ∷ l) (range_more (a + 1) n ∙ ap (λ k. range_with_len (a + 1) n ++ k ∷ []) (moved a n))
  where
    moved : (k m : ℕ) → k + 1 + m ≡ k + suc m
    moved k m = omega arith

abbrev pub up_to : Numbers → ℕ → Numbers
up_to numbers to = record numbers { to = to }

module _ (rows : Rows) (numbers : Numbers) where
  abbrev at : ℕ → List KeptContent
  at number = option_to_list (kept_at rows numbers.partner number)

  -- one more number
  under_more : (number : ℕ) → numbers.from ≤ number → kept_under rows (up_to numbers (number + 1)) ≡ kept_under rows (up_to numbers number) ++ at (number + 1)
  under_more number above =
      let span = number - numbers.from in
      let longer : number + 1 - numbers.from ≡ suc span = omega arith in
      let last : numbers.from + 1 + span ≡ number + 1 = omega arith in
      let before = range_with_len (numbers.from + 1) span in
      ap (λ n. flat_map at (range_with_len (numbers.from + 1) n)) longer ∙ ap (flat_map at) (range_more (numbers.from + 1) span)
      ∙ ap (λ k. flat_map at (before ++ k ∷ [])) last ∙ flat_map-append at before ((number + 1) ∷ []) ∙ ap (λ l. flat_map at before ++ l) (append-nil (at (number + 1)))

  -- none yet
  pub under_none : kept_under rows (up_to numbers numbers.from) ≡ []
  under_none =
      let none : numbers.from - numbers.from ≡ 0 = omega arith in
      ap (λ n. flat_map at (range_with_len (numbers.from + 1) n)) none

  -- all of them
  pub under_all : (number : ℕ) → numbers.from ≤ number → number - numbers.from ≤ numbers.to - numbers.from → numbers.to ≤ number → kept_under rows (up_to numbers number) ≡ kept_under rows numbers
  under_all number above within end =
      let all : number - numbers.from ≡ numbers.to - numbers.from = omega arith in
      ap (λ n. flat_map at (range_with_len (numbers.from + 1) n)) all

  -- what is kept under one more is added
  pub added_more : (number : ℕ) (sealing : SealingContent) → numbers.from ≤ number
      → add_any (fold add_one sealing (kept_under rows (up_to numbers number))) (kept_at rows numbers.partner (number + 1)) ≡ fold add_one sealing (kept_under rows (up_to numbers (number + 1)))
  added_more number sealing above =
      let before = kept_under rows (up_to numbers number) in
      any_is (fold add_one sealing before) (kept_at rows numbers.partner (number + 1)) ∙ sym (fold-append add_one sealing before (at (number + 1))) ∙ ap (fold add_one sealing) (sym (under_more number above))
    where
      any_is : (so_far : SealingContent) (any : Option KeptContent) → add_any so_far any ≡ fold add_one so_far (option_to_list any)
      any_is so_far None = refl
      any_is so_far (Some kept) = refl

-- ---- the numbers of one partner after the other

abbrev pub so_far : Rows → List Numbers → SealingContent
so_far rows closing = record { seals = seals_of rows closing; piece = [] }

pub sealed_more : (rows : Rows) (before : List Numbers) (numbers : Numbers) (after : List Numbers) → after ≡ before ++ numbers ∷ [] → with_kept rows (so_far rows before) numbers ≡ so_far rows after
sealed_more rows before numbers after is =
    ended (kept_under rows numbers) (so_far rows before)
    ∙ (λ i. record { seals = more i; piece = [] })
  where
    more : seals_of rows before ++ seals_under rows numbers ≡ seals_of rows after
    more = ap (λ l. seals_of rows before ++ l) (sym (append-nil (seals_under rows numbers))) ∙ sym (flat_map-append (seals_under rows) before (numbers ∷ [])) ∙ ap (seals_of rows) (sym is)

-- ---- what is read

reply_text : {Z : Type 0} (reply : Option (String Z)) (text : List ℕ) → RepliesAs reply text → unwrap_or (option_map (λ (r : String Z). string_bytes r) reply) [] ≡ text
reply_text None text is = sym is
reply_text (Some reply) text is = sym is.0

-- what is read under a number is what the rows keep there
pub kept_is : (partner number : ℕ) (rows : Rows) (kept : Option Kept) → AreKeptOnce rows.interchanges → IsKept partner number rows kept → option_map content_of_kept kept ≡ kept_at rows partner number
kept_is partner number rows None once is = sym (ap (option_map kept_content) (none_kept partner number rows is))
kept_is partner number rows (Some kept) once is =
    let i : Interchange = is.0 in
    let same : content_of_kept kept ≡ kept_content i = λ j. record { text = is.2 j; reply = reply_text kept.reply i.reply is.3 j } in
    ap Some same ∙ sym (ap (option_map kept_content) (one_kept partner number rows i once is.1))

-- ---- whether they are the same

module _ (register : RegisterContent) (place : ℕ) (rows : Rows) where
  -- of the archive nothing is sealed
  pub has_none : None ≡ sealed_with place register.sealed → (true ≡ true) ↔ HasSeals register place rows
  has_none none = (λ e. subst (λ any. IfSome any (λ one. seals_of rows (closed_at place register.segments) ≡ one.seals)) none tt, λ has. refl)

  pub has_none_of : (partner number : ℕ) → None ≡ sealed_with place register.sealed → (true ≡ true) ↔ HasSealOf register place partner number rows
  has_none_of partner number none =
      (λ e. subst (λ any. IfSome any (λ one. (sealed : Sealed) × (seal_at (closed_at place register.segments) one.seals partner number ≡ Some sealed) × (seals_of rows (sealed.piece ∷ []) ≡ sealed.seal))) none tt, λ has. refl)

  module _ (one : SealedContent) (some : Some one ≡ sealed_with place register.sealed) where
    -- all that the rows keep has the seals
    pub has_all : (seals : List ℕ) (answer : Bool) → seals ≡ seals_of rows (closed_at place register.segments) → (answer ≡ true) ↔ (seals ≡ one.seals) → (answer ≡ true) ↔ HasSeals register place rows
    has_all seals answer are tells = (
      λ yes. subst (λ any. IfSome any (λ one. seals_of rows (closed_at place register.segments) ≡ one.seals)) some (sym are ∙ tells.0 yes),
      λ has. tells.1 (are ∙ subst (λ any. IfSome any (λ one. seals_of rows (closed_at place register.segments) ≡ one.seals)) (sym some) has),
    )

    module _ (partner number : ℕ) where
      abbrev found_seal : Option Sealed
      found_seal = seal_at (closed_at place register.segments) one.seals partner number

      abbrev HasThis : SealedContent → Type 0
      HasThis one =
          (sealed : Sealed) × (seal_at (closed_at place register.segments) one.seals partner number ≡ Some sealed) × (seals_of rows (sealed.piece ∷ []) ≡ sealed.seal)

      -- the number has no seal
      pub has_no_seal : found_seal ≡ None → (false ≡ true) ↔ HasSealOf register place partner number rows
      has_no_seal none = (
        λ e. absurd cc,
        λ has.
            let it = subst (λ any. IfSome any HasThis) (sym some) has in
            let both = sym none ∙ it.1 in
            absurd cc,
      )

      -- what the rows keep together with the number has its seal
      pub has_one : (sealed : Sealed) (seals : List ℕ) (answer : Bool) → found_seal ≡ Some sealed → seals ≡ seals_of rows (sealed.piece ∷ []) → (answer ≡ true) ↔ (seals ≡ sealed.seal)
          → (answer ≡ true) ↔ HasSealOf register place partner number rows
      has_one sealed seals answer found are tells = (
        λ yes. subst (λ any. IfSome any HasThis) some (sealed, found, sym are ∙ tells.0 yes),
        λ has.
            let it = subst (λ any. IfSome any HasThis) (sym some) has in
            let both : Some it.0 ≡ Some sealed = sym it.1 ∙ found in
            let same : it.0 ≡ sealed = cc in
            tells.1 (are ∙ subst (λ (s : Sealed). seals_of rows (s.piece ∷ []) ≡ s.seal) same it.2),
      )
