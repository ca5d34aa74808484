-- What stands before the end of a text.
use Rattle.std.{specs.Str.Pattern.{FindsTextSuffix, StripsSuffix}, proofs.{Common.{◌≡◌, ◌≢◌, ℕ, List, ◌++◌, Bor, Option, None, Some, MatchOption, sym, ap, ◌∙◌}, lemmas.List.append_cancel_right}}

-- a text without what it ends with
pub without_end : (last text : List ℕ) (found : Option (Bor (List ℕ))) →
    MatchOption found (FindsTextSuffix last text None) (λ front. StripsSuffix (FindsTextSuffix last) text front.now) →
    MatchOption found ((front : List ℕ) → text ≢ front ++ last) (λ front. text ≡ front.now ++ last)
without_end last text None lacks = lacks
without_end last text (Some front) (n, (is, ends, boundary), now, len) = ends ∙ ap (λ t. t ++ last) (sym now)

-- what stands before it is one text
pub same_front : (text front other last : List ℕ) → text ≡ front ++ last → text ≡ other ++ last → front ≡ other
same_front text front other last is also = append_cancel_right front other last (sym is ∙ also)
