use Rattle.std.proofs.{Common.{◌≡◌, ◌<◌, [], ◌∷◌, ◌++◌, ap, ◌∙◌, arith, string_bytes, length, get_or}, lemmas.List.Elements.All-get_or}
use Rattle.office_closing.proofs.TextLemmas.{IsPlain, number_plain, character_more}
use Rattle.office_closing.proofs.list_writing.push_number.Goals as goal

pub loop-character-preserved : goal.loop-character-preserved
loop-character-preserved c =
    let number = number_plain c.text-character-items.result c.text-character-items.ensures.number in
    let below : c.loop-character.character-index < length c.text-character-items.result = omega arith in
    let plain = All-get_or IsPlain c.text-character-items.result c.loop-character.character-index 0 below number.plain in
    let same : c.from.result ≡ get_or c.text-character-items.result c.loop-character.character-index 0 = c.from.ensures in
    character_more (string_bytes c.args.text.now) (string_bytes c.loop-character.text) (string_bytes c.push.new.self)
    c.text-character-items.result c.loop-character.character-index below c.loop-character.invariant
    (c.in_ok-push.ensures.bytes ∙ ap (λ t. string_bytes c.loop-character.text ++ t) (c.in_ok-push.ensures.ascii (omega arith)) ∙ ap (λ d. string_bytes c.loop-character.text ++ d ∷ []) same)
