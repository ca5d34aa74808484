-- The text piece by piece: what stands with what follows is the whole.
use Rattle.std.proofs.Common.{◌≡◌, ◌∙◌, ◌++◌, ℕ, List, ap, sym, codes, decimal, string_bytes, append_assoc}
use Rattle.json.specs.Print.{quoted}
use Rattle.office_replies.{specs.Bodies.{answer_text, joined_head}, proofs.Floats.answer_text-data}
use Rattle.office_replies.proofs.body.taken_body.Goals as goal

-- a piece more stands
more : (old new piece rest whole : List ℕ) → new ≡ old ++ piece → old ++ (piece ++ rest) ≡ whole → new ++ rest ≡ whole
more old new piece rest whole added was = ap (λ s. s ++ rest) added ∙ append_assoc old piece rest ∙ was

-- seven pieces before a reply, and one after it
round : (a b c d e f g reply z : List ℕ) → (a ++ b ++ c ++ d ++ e ++ f ++ g) ++ reply ++ z ≡ a ++ (b ++ (c ++ (d ++ (e ++ (f ++ (g ++ (reply ++ z)))))))
round a b c d e f g reply z = simp append_assoc

pub returns-clause-bytes : goal.returns-clause-bytes
unfolding joined_head
returns-clause-bytes c =
    let first = codes "{\"answer\":" in
    let second = codes ",\"number\":" in
    let third = codes ",\"partner\":" in
    let fourth = codes ",\"reply\":" in
    let brace = codes "}" in
    let answer = quoted c.args.answer.now in
    let number = decimal c.args.number in
    let partner = quoted c.args.partner.now in
    let reply = c.args.reply.now in
    let whole = first ++ (answer ++ (second ++ (number ++ (third ++ (partner ++ (fourth ++ (reply ++ brace))))))) in
    let s0 = string_bytes c.in_ok-body.body in
    let s1 = string_bytes c.push_str.new.self in
    let s2 = string_bytes c.push_quoted.new.out in
    let s3 = string_bytes c.push_str-2.new.self in
    let s4 = string_bytes c.push_str-3.new.self in
    let s5 = string_bytes c.push_str-4.new.self in
    let s6 = string_bytes c.push_quoted-2.new.out in
    let s7 = string_bytes c.push_str-5.new.self in
    let s8 = string_bytes c.push_str-6.new.self in
    let numbered : s4 ≡ s3 ++ number = c.in_ok-push_str-3.ensures.bytes ∙ ap (λ t. s3 ++ t) c.format.ensures.text in
    let w0 : s0 ++ whole ≡ whole = ap (λ s. s ++ whole) c.in_ok-body.ensures.bytes in
    let w1 = more s0 s1 first (answer ++ (second ++ (number ++ (third ++ (partner ++ (fourth ++ (reply ++ brace))))))) whole c.in_ok-push_str.ensures.bytes w0 in
    let w2 = more s1 s2 answer (second ++ (number ++ (third ++ (partner ++ (fourth ++ (reply ++ brace)))))) whole c.in_ok-push_quoted.ensures w1 in
    let w3 = more s2 s3 second (number ++ (third ++ (partner ++ (fourth ++ (reply ++ brace))))) whole c.in_ok-push_str-2.ensures.bytes w2 in
    let w4 = more s3 s4 number (third ++ (partner ++ (fourth ++ (reply ++ brace)))) whole numbered w3 in
    let w5 = more s4 s5 third (partner ++ (fourth ++ (reply ++ brace))) whole c.in_ok-push_str-4.ensures.bytes w4 in
    let w6 = more s5 s6 partner (fourth ++ (reply ++ brace)) whole c.in_ok-push_quoted-2.ensures w5 in
    let w7 = more s6 s7 fourth (reply ++ brace) whole c.in_ok-push_str-5.ensures.bytes w6 in
    let w8 = more s7 s8 reply brace whole c.in_ok-push_str-6.ensures.bytes w7 in
    c.in_ok-push_str-7.ensures.bytes ∙ w8 ∙ sym (round first answer second number third partner fourth reply brace)

pub returns-clause-json : goal.returns-clause-json
returns-clause-json c = λ d is.
    returns-clause-bytes c ∙ ap (answer_text c.args.answer.now c.args.number c.args.partner.now) is ∙ answer_text-data c.args.answer.now c.args.number c.args.partner.now d
