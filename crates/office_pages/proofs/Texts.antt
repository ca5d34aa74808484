-- A text between tags brings none.
use Rattle.std.proofs.{Common.{◌≡◌, ℕ, List, [], ◌∷◌, ◌++◌, ◌==◌, flat_map, sym, ap, ◌∙◌, refl, inl, inr}, lemmas.Bool.cases_Bool, lemmas.Grind.flat_map-append}
use Rattle.office_reports.specs.{Fields.field_text, Markup.{Place, Between, Tag, SingleQuoted, DoubleQuoted, place_after, place_after_all, tags}}
use Rattle.office_reports.proofs.Markup.{field_is_quiet, quiet_has_none, quiet_stays}
use Rattle.office_pages.specs.{Laws.TextsBringNoMarkup, Pieces.{PieceContent, Text, piece_text, pieces_text}}

tags_append : (p : Place) (a b : List ℕ) → tags p (a ++ b) ≡ tags p a ++ tags (place_after_all p a) b
tags_append p [] b = refl
tags_append Between (c ∷ a) b = elim (cases_Bool (c == 60)) [
  | inl e ↦ rw e (ap (λ t. c ∷ t) (tags_append Tag a b))
  | inr e ↦ rw e (tags_append Between a b)
]
tags_append Tag (c ∷ a) b = ap (λ t. c ∷ t) (tags_append (place_after Tag c) a b)
tags_append SingleQuoted (c ∷ a) b = ap (λ t. c ∷ t) (tags_append (place_after SingleQuoted c) a b)
tags_append DoubleQuoted (c ∷ a) b = ap (λ t. c ∷ t) (tags_append (place_after DoubleQuoted c) a b)

field_has_none : (text : List ℕ) → tags Between (field_text text) ≡ []
field_has_none text = quiet_has_none (field_text text) (field_is_quiet text)

field_stays : (text : List ℕ) → place_after_all Between (field_text text) ≡ Between
field_stays text = quiet_stays Between (field_text text) (field_is_quiet text)

-- the tags are those of what stands before the text, and of what follows it
parted : (front back : List PieceContent) (text : List ℕ) → place_after_all Between (pieces_text front) ≡ Between →
    tags Between (pieces_text (front ++ Text text ∷ back)) ≡ tags Between (pieces_text front) ++ tags Between (pieces_text back)
unfolding pieces_text piece_text
parted front back text stays =
    let before : List ℕ = flat_map piece_text front in
    let behind : List ℕ = flat_map piece_text back in
    ap (λ t. tags Between t) (flat_map-append piece_text front (Text text ∷ back))
    ∙ tags_append Between before (field_text text ++ behind)
    ∙ ap (λ place. tags Between before ++ tags place (field_text text ++ behind)) stays
    ∙ ap (λ t. tags Between before ++ t)
    (tags_append Between (field_text text) behind ∙ (λ i. field_has_none text i ++ tags (field_stays text i) behind))

pub texts_bring_no_markup : TextsBringNoMarkup
texts_bring_no_markup front back one other stays = parted front back one stays ∙ sym (parted front back other stays)
