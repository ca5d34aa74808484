use Rattle.std.{specs.Prelude.slice_get, proofs.Common.{◌≡◌, ℕ, List, Some, length, string_bytes, refl, sym, ap, ◌∙◌, true}}
use Rattle.std.proofs.lemmas.Option.{slice_get_read, same_Some}
use Rattle.office_loading.proofs.Kept.{name_in}
use Rattle.office_loading.proofs.settings.are_named.Goals as goal

pub returns-then-not-are_same : goal.returns-then-not-are_same
returns-then-not-are_same c = (
  λ f. absurd (cc),
  λ all. (let at : slice_get c.args.settings.now c.loop-place.place ≡ Some c.index-settings-place.result = slice_get_read c.args.settings.now (length c.args.settings.now) _ c.index-settings-place.result refl c.loop-place-test.true c.index-settings-place.is in
      let same : string_bytes c.index-settings-place.result.name ≡ c.name_at.result.now =
      same_Some _ _ (sym (name_in c.args.settings.now c.loop-place.place c.index-settings-place.result at) ∙ ap (λ (l : List (List ℕ)). slice_get l c.loop-place.place) all ∙ c.name_at.ensures) in
      let is : c.are_same.result ≡ true = c.are_same.ensures.1 (c.as_str.ensures.value ∙ same) in
      absurd (cc)),
)
