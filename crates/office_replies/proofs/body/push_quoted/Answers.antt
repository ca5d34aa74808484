-- A text without a byte to be escaped, between quotes.
use Rattle.std.{specs.List.list_all, proofs.Common.{◌≡◌, ◌++◌, ℕ, List, true, sym, ap, subst, ◌∙◌, append_assoc, codes, string_bytes}}
use Rattle.json.specs.Run.{is_plain}
use Rattle.office_replies.proofs.Plain.{escape_plain}
use Rattle.office_replies.proofs.body.push_quoted.Goals as goal

between : (s q t : List ℕ) → ((s ++ q) ++ t) ++ q ≡ s ++ (q ++ (t ++ q))
between s q t = append_assoc (s ++ q) t q ∙ append_assoc s q (t ++ q)

pub returns : goal.returns
returns c =
    let text = c.args.text.now in
    let before = string_bytes c.args.out.now in
    let quote = codes "\"" in
    let plain = escape_plain text (subst (λ xs. list_all is_plain xs ≡ true) c.as_bytes.ensures.value (sym c.are_plain.ensures ∙ c.if-not-are_plain.false)) in
    c.in_ok-push_str-3.ensures.bytes
    ∙ ap (λ s. s ++ quote) (c.in_ok-push_str-2.ensures.bytes ∙ ap (λ s. s ++ text) c.in_ok-push_str.ensures.bytes)
    ∙ between before quote text
    ∙ ap (λ t. before ++ (quote ++ (t ++ quote))) (sym plain)
